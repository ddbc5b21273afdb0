-- Where the last line of some bytes begins.
use Rattle.std.specs.Prelude.{ℕ, ◌≡◌, ◌⊎◌, Bool, true, List, [], ◌∷◌, ◌++◌, length}
use Rattle.gix_object_lines.specs.Bytes.{Lacks}

-- so many bytes are before it: the last of them is a line feed, or there are none and the bytes are
-- all
pub record IsLineStart (bytes : List ℕ) (is_all : Bool) (start : ℕ) : Type 0 where
  pub front : List ℕ
  pub line : List ℕ
  pub cut : bytes ≡ front ++ line
  pub sized : length front ≡ start
  pub unbroken : Lacks 10 line
  pub begins : ((before : List ℕ) × (front ≡ before ++ 10 ∷ [])) ⊎ ((front ≡ []) × (is_all ≡ true))
