-- The names that edits are of, and their paths.
use Rattle.std.proofs.Common.{◌≡◌, ◌⊎◌, inl, inr, zero, suc, true, List, [], ◌∷◌, ◌++◌, refl, sym, ap, subst, Option, Some, None, arith}
use Rattle.std.specs.Prelude.{Contains}
use Rattle.std.specs.List.{AllByRecursion}
use Rattle.gix_hash.specs.declared.kind.Kind.{Kind}
use Rattle.gix_ref_edit.specs.Names.{names_of}
use Rattle.gix_ref_edit.specs.declared.change.RefEdit.{RefEdit}
use Rattle.gix_ref_lock.specs.Locks.{lock_of}
use Rattle.gix_ref_transaction.specs.Paths as paths
use Rattle.history_model.specs.Bytes.{Bytes}
use Rattle.history_model.specs.Forms.{is_name}
use Rattle.history_model.specs.Places.{log_place}
use Rattle.history_layout.specs.EditSteps.{MovedName, edited_names}
use Rattle.history_edits.specs.Bridges.{name_paths, root_base}
use Rattle.history_edits.specs.EditPlans.{AreEdits}
use Rattle.history_edits.proofs.WholeReads.{names_stand_in_place}

-- ---- lists

pub each_of : {A : Type 0} (P : A → Type 0) (xs : List A) → AllByRecursion P xs → (x : A) → Contains xs x → P x
each_of P [] all x (k, lt, is) = let none : ⊥ = omega (arith, lt) in absurd none
each_of P (y ∷ xs) all x (zero, lt, is) = subst P is all.0
each_of P (y ∷ xs) all x (suc k, lt, is) = each_of P xs all.1 x (k, omega (arith, lt), is)

pub all_each : (P : Bytes → Type 0) (xs : List Bytes) → ((x : Bytes) → Contains xs x → P x) → AllByRecursion P xs
all_each P [] each = tt
all_each P (y ∷ xs) each = (each y (zero, omega arith, refl), all_each P xs (λ x c. each x (suc c.0, omega (arith, c.1), c.2)))

pub parted : (xs ys : List Bytes) (x : Bytes) → Contains (xs ++ ys) x → Contains xs x ⊎ Contains ys x
parted [] ys x c = inr c
parted (y ∷ xs) ys x (zero, lt, is) = inl (zero, omega arith, is)
parted (y ∷ xs) ys x (suc k, lt, is) = elim (parted xs ys x (k, omega (arith, lt), is)) [
  | inl c ↦ inl (suc c.0, omega (arith, c.1), c.2)
  | inr c ↦ inr c
]

-- ---- the names of edits

none_left : (edits : List RefEdit) → edits ≡ [] → names_of edits ≡ []
none_left edits none = ap names_of none

pub names_are : (moved : List MovedName) (taken : Option Bytes) (edits : List RefEdit) → AreEdits moved taken edits → names_of edits ≡ edited_names moved taken
names_are [] None edits are = none_left edits are
names_are [] (Some name) [] are = absurd are
names_are [] (Some name) (edit ∷ edits) are = λ i. are.0.name_is i ∷ none_left edits are.1 i
names_are (m ∷ moved) taken [] are = absurd are
names_are (m ∷ moved) taken (edit ∷ edits) are = λ i. are.0.name i ∷ names_are moved taken edits are.1 i

-- what all of these names have, those of the edits do
pub by_names : (P : Bytes → Type 0) (edits : List RefEdit) → AllByRecursion P (names_of edits) → AllByRecursion (λ (edit : RefEdit). P edit.name) edits
by_names P [] all = tt
by_names P (edit ∷ edits) all = (all.0, by_names P edits all.1)

-- ---- their paths

pub paths_are : (kind : Kind) (edits : List RefEdit) → AllByRecursion (λ n. is_name n ≡ true) (names_of edits) → paths.name_paths (root_base kind) edits ≡ name_paths (names_of edits)
paths_are kind [] named = refl
paths_are kind (edit ∷ edits) named =
    let here = names_stand_in_place kind edit.name named.0 in
    λ i. here.file i ∷ lock_of (here.file i) ∷ here.log i ∷ paths_are kind edits named.1 i

-- a path is the file of a name, its lock or its log
abbrev pub IsPathOf : Bytes → Bytes → Type 0
IsPathOf name path = (path ≡ name) ⊎ ((path ≡ lock_of name) ⊎ (path ≡ log_place name))

pub of_name : (names : List Bytes) (path : Bytes) → Contains (name_paths names) path → (name : Bytes) × Contains names name × IsPathOf name path
of_name [] path (k, lt, is) = let none : ⊥ = omega (arith, lt) in absurd none
of_name (n ∷ names) path (zero, lt, is) = (n, (zero, omega arith, refl), inl (sym is))
of_name (n ∷ names) path (suc zero, lt, is) = (n, (zero, omega arith, refl), inr (inl (sym is)))
of_name (n ∷ names) path (suc (suc zero), lt, is) = (n, (zero, omega arith, refl), inr (inr (sym is)))
of_name (n ∷ names) path (suc (suc (suc k)), lt, is) =
    let found = of_name names path (k, omega (arith, lt), is) in
    let among = found.1 in
    (found.0, (suc among.0, omega (arith, among.1), among.2), found.2)
