-- Names that several edits of a list have.
use Rattle.std.specs.Prelude.{ℕ, ◌≢◌, ◌≤◌, ⊤, List, [], ◌∷◌, map, bytes_eq, count_by, if◌then◌else◌, Option, Some, None}
use Rattle.std.specs.List.Sorted.{IsPermutation, IsSorted}
use Rattle.std.specs.Ordering.{nat_cmp}
use Rattle.std.specs.declared.cmp.Ordering.TheVariants.{Less}
use Rattle.std.specs.Cmp.Lexicographic.{slice_cmp}
use Rattle.gix_ref_edit.specs.declared.change.RefEdit.{RefEdit}
use Rattle.gix_ref_edit.specs.declared.names.TwiceError.{TwiceError}
use Rattle.gix_ref_edit.specs.declared.names.TwiceError.TheVariants.{Name, Memory}

abbrev pub names_of : List RefEdit → List (List ℕ)
names_of edits = map (λ edit. edit.name) edits

-- the name is in the list twice, or more often
abbrev pub StandsTwice : List (List ℕ) → List ℕ → Type 0
StandsTwice names name = 2 ≤ count_by (λ other. bytes_eq other name) names

abbrev pub AllOnce : List (List ℕ) → Type 0
AllOnce names = (name : List ℕ) → ¬ StandsTwice names name

-- of the names that are there twice it is the least by its bytes
pub record IsLeastTwice (names : List (List ℕ)) (name : List ℕ) : Type 0 where
  pub twice : StandsTwice names name
  pub least : (other : List ℕ) → StandsTwice names other → slice_cmp nat_cmp other name ≢ Less

abbrev pub TwiceFault : List (List ℕ) → TwiceError → Type 0
TwiceFault names (Name name) = IsLeastTwice names name
TwiceFault names Memory = ⊤

-- ---- of the single steps

-- the names in the order of their bytes
pub record IsArranged (names arranged : List (List ℕ)) : Type 0 where
  pub same : IsPermutation names arranged
  pub ascending : IsSorted (slice_cmp nat_cmp) arranged

-- the first name that is followed by itself
abbrev pub first_twice : List (List ℕ) → Option (List ℕ)
first_twice [] = None
first_twice (name ∷ []) = None
first_twice (name ∷ next ∷ rest) =
    if bytes_eq name next then Some name else first_twice (next ∷ rest)
