-- Names that are kept in a set, looked up by their bytes, and the first line of a text.
use Rattle.std.proofs.Common.{◌≡◌, ℕ, ◌+◌, ◌-◌, Bool, true, false, cond, not, ◌||◌, List, [], ◌∷◌, ◌++◌, map, length, take, drop, Some, slice_get, refl, sym, ◌∙◌, ap, bytes_eq, arith}
use Rattle.std.specs.Borrow.{Bor}
use Rattle.std.specs.List.{list_any}
use Rattle.std.specs.Ordering.{is_eq, is_lt, nat_cmp}
use Rattle.std.specs.Cmp.Lexicographic.{slice_cmp}
use Rattle.std.proofs.lemmas.Bool.{not-false, not-true}
use Rattle.std.proofs.lemmas.Map.Text.{is_eq-slice_cmp}
use Rattle.std.proofs.lemmas.Option.{same_Some}
use Rattle.gix_object_lines.specs.Bytes.{Lacks}
use Rattle.gix_ref_format.specs.Lines.{lines}
use Rattle.gix_ref_format.specs.Packed.{header_line, record_of}
use Rattle.gix_ref_format.specs.declared.packed.Reference.{Reference}
use Rattle.gix_ref_format.proofs.LineLemmas.{lines_rest, lines_split}
use Rattle.history_model.specs.Bytes.{Bytes, by_bytes}
use Rattle.history_model.specs.PackedNames.{first_header}
use Rattle.history_check_names.specs.Packed.{is_ascending, record_names}
use Rattle.history_check_names.specs.PackedRead.{names_in}
use Rattle.history_check_names.proofs.GoodNames.{ascending_one, turned}

abbrev pub has : List (Bor (List ℕ)) → Bytes → Bool
has kept name = list_any (bytes_eq name) (names_in kept)

pub found_by_bytes : (kept : List (Bor (List ℕ))) (name : Bytes) → list_any (λ k. is_eq (slice_cmp nat_cmp name k.now)) kept ≡ has kept name
found_by_bytes [] name = refl
found_by_bytes (k ∷ kept) name = λ i. is_eq-slice_cmp name k.now i || found_by_bytes kept name i

abbrev pub Puts : List (Bor (List ℕ)) → List (Bor (List ℕ)) → Bor (List ℕ) → Type 0
Puts old new key = (q : Bor (List ℕ)) → list_any (λ k. is_eq (slice_cmp nat_cmp q.now k.now)) new
    ≡ cond (is_eq (slice_cmp nat_cmp key.now q.now)) true (list_any (λ k. is_eq (slice_cmp nat_cmp q.now k.now)) old)

pub one_put : (old new : List (Bor (List ℕ))) (key : Bor (List ℕ)) (added : Bytes) → key.now ≡ added → Puts old new key → (name : Bytes) → has new name ≡ (bytes_eq name added || has old name)
one_put old new key added same puts name =
    sym (found_by_bytes new name) ∙ puts (record { ref_ptr = (0, 0); now = name })
    ∙ either (is_eq (slice_cmp nat_cmp key.now name)) (list_any (λ k. is_eq (slice_cmp nat_cmp name k.now)) old)
    ∙ (λ i. (is_eq-slice_cmp key.now name ∙ ap (λ k. bytes_eq k name) same ∙ turned added name) i || found_by_bytes old name i)
  where
    either : (a b : Bool) → cond a true b ≡ (a || b)
    either true b = refl
    either false b = refl

-- what a call that puts a name in says of those before it
abbrev pub IsAdded : Bool → List (Bor (List ℕ)) → Bor (List ℕ) → Type 0
IsAdded added kept key = added ≡ not (list_any (λ k. is_eq (slice_cmp nat_cmp key.now k.now)) kept)

pub was_kept : (kept : List (Bor (List ℕ))) (key : Bor (List ℕ)) (name : Bytes) (added : Bool) → key.now ≡ name → IsAdded added kept key → added ≡ false → has kept name ≡ true
was_kept kept key name added same is none =
    ap (has kept) (sym same) ∙ sym (found_by_bytes kept key.now) ∙ not-false (list_any (λ k. is_eq (slice_cmp nat_cmp key.now k.now)) kept) (sym is ∙ none)

pub was_new : (kept : List (Bor (List ℕ))) (key : Bor (List ℕ)) (name : Bytes) (added : Bool) → key.now ≡ name → IsAdded added kept key → added ≡ true → has kept name ≡ false
was_new kept key name added same is one =
    ap (has kept) (sym same) ∙ sym (found_by_bytes kept key.now) ∙ not-true (list_any (λ k. is_eq (slice_cmp nat_cmp key.now k.now)) kept) (sym is ∙ one)

-- ---- the first line

pub header_cut : (text line rest first : Bytes) → text ≡ line ++ 10 ∷ rest → Lacks 10 line → first ≡ take (length line + 1) text → first_header (lines text) ≡ header_line first
header_cut text line rest first is lacks front = ap first_header (lines_split text line rest first (drop (length line + 1) text) is lacks front refl)

pub header_whole : (text : Bytes) → Lacks 10 text → first_header (lines text) ≡ header_line text
header_whole [] lacks = refl
header_whole (b ∷ text) lacks = ap first_header (lines_rest (b ∷ text) lacks (λ e. cc))

-- ---- the last of some records

one_get : {X : Type 0} (x : X) (xs : List X) (l : X) → Some l ≡ slice_get (x ∷ xs) (length xs) → (front : List X) × (x ∷ xs ≡ front ++ l ∷ [])
one_get x [] l e = ([], ap (λ y. y ∷ []) (sym (same_Some l x e)))
one_get x (y ∷ xs) l e = let rest = one_get y xs l e in (x ∷ rest.0, ap (λ ys. x ∷ ys) rest.1)

-- the last one, and those before it
pub last_of : {X : Type 0} (xs : List X) (l : X) → Some l ≡ slice_get xs (length xs - 1) → (front : List X) × (xs ≡ front ++ l ∷ [])
last_of [] l e = absurd (cc e)
last_of (x ∷ xs) l e = let n : length (x ∷ xs) - 1 ≡ length xs = omega arith in one_get x xs l (e ∙ ap (slice_get (x ∷ xs)) n)

pub follows_last : (records : List Reference) (last next : Reference) (lt : Bool) → lt ≡ is_lt (by_bytes (record_of last).name (record_of next).name) → Some last ≡ slice_get records (length records - 1)
    → is_ascending (record_names (map record_of records)) ≡ true → lt ≡ is_ascending (record_names (map record_of records ++ record_of next ∷ []))
follows_last records last next lt is at rises =
    let cut = last_of records last at in
    is ∙ sym (ap (λ rs. is_ascending (record_names (map record_of rs ++ record_of next ∷ []))) cut.1 ∙ ap is_ascending (two cut.0)
    ∙ ascending_one (record_names (map record_of cut.0)) (record_of last).name (record_of next).name (ap is_ascending (sym (one cut.0)) ∙ ap (λ rs. is_ascending (record_names (map record_of rs))) (sym cut.1) ∙ rises))
  where
    one : (rs : List Reference) → record_names (map record_of (rs ++ last ∷ [])) ≡ record_names (map record_of rs) ++ (record_of last).name ∷ []
    one [] = refl
    one (r ∷ rs) = ap (λ ns. (record_of r).name ∷ ns) (one rs)

    two : (rs : List Reference) → record_names (map record_of (rs ++ last ∷ []) ++ record_of next ∷ []) ≡ record_names (map record_of rs) ++ (record_of last).name ∷ (record_of next).name ∷ []
    two [] = refl
    two (r ∷ rs) = ap (λ ns. (record_of r).name ∷ ns) (two rs)
