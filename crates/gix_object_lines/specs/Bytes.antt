-- Byte strings.
use Rattle.std.specs.Prelude.{ℕ, Bool, nat_eq, bytes_eq, ◌-◌, List, [], ◌∷◌, ◌==◌, IsFalse, length, take, if◌then◌else◌}
use Rattle.std.specs.List.{list_any, ends_with}
pub use Rattle.gix_hash.specs.Beginnings.{IsBeginningOf}

-- the text doesn't have the byte
abbrev pub Lacks : ℕ → List ℕ → Type 0
Lacks byte text = IsFalse (list_any (λ other. other == byte) text)

-- the text is one of these
abbrev pub is_among : List (List ℕ) → List ℕ → Bool
is_among texts text = list_any (λ other. bytes_eq other text) texts

-- the text without the line feed that ends it, if one does
abbrev pub without_last_feed : List ℕ → List ℕ
without_last_feed text =
    if ends_with nat_eq text (10 ∷ []) then take (length text - 1) text else text
