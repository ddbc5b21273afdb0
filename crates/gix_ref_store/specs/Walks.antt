-- What a walk over the files below a folder puts into a list of names.
use Rattle.std.specs.Prelude.{ℕ, ◌≡◌, ◌⊎◌, Bool, ◌∷◌, ◌++◌, List, IsTrue, IsSome}
use Rattle.std.specs.List.{list_any}
use Rattle.gix_object_lines.specs.NameTest.{is_full_name}
use Rattle.gix_ref_file.specs.Tree.{Tree, same_path, under}
use Rattle.gix_ref_file.specs.declared.files.FileError.{FileError}
use Rattle.gix_ref_file.specs.declared.files.FileError.TheVariants as files
use Rattle.gix_ref_file.specs.Changes.{is_file_at}
use Rattle.gix_ref_format.specs.Packed.{Record}
use Rattle.gix_ref_format.specs.PackedBuffer.{hit}
use Rattle.gix_ref_store.specs.Places.{Base, place}
use Rattle.gix_ref_store.specs.declared.store.file.iter.Error.{Error}
use Rattle.gix_ref_store.specs.declared.store.file.iter.Error.TheVariants.{Traversal, ReadFileContents, ReferenceCreation, Memory}

-- whether the name is one of these
abbrev pub has : List (List ℕ) → List ℕ → Bool
has names name = list_any (same_path name) names

-- names stay
abbrev pub Keeps : List (List ℕ) → List (List ℕ) → Type 0
Keeps old new = (name : List ℕ) → IsTrue (has old name) → IsTrue (has new name)

-- and only wanted ones are added
abbrev pub BringsAsked : (List ℕ → Bool) → List (List ℕ) → List (List ℕ) → Type 0
BringsAsked asked old new =
    (name : List ℕ) → IsTrue (has new name) → IsTrue (has old name) ⊎ IsTrue (asked name)

-- a name with a file at its path below this folder
pub record HasFile (tree : Tree) (base : List ℕ) (asked : List ℕ → Bool)
    (name : List ℕ) : Type 0 where
  pub file : IsTrue (is_file_at tree (under base name))
  pub full : IsTrue (is_full_name name)
  pub asked_for : IsTrue (asked name)

-- the wanted names that have a file below a folder of names are there
abbrev pub GathersBelow : Tree → List ℕ → (List ℕ → Bool) → List ℕ → List (List ℕ) → Type 0
GathersBelow tree base asked folder names =
    (name rest : List ℕ) → under base name ≡ under base folder ++ 47 ∷ rest
    → HasFile tree base asked name → IsTrue (has names name)

-- all wanted names that have a file are there
abbrev pub Gathers : Tree → List ℕ → (List ℕ → Bool) → List (List ℕ) → Type 0
Gathers tree base asked names =
    (name : List ℕ) → HasFile tree base asked name → IsTrue (has names name)

-- all wanted names that have a file of their own are there
abbrev pub GathersPlaces : Base → Tree → (List ℕ → Bool) → List (List ℕ) → Type 0
GathersPlaces b tree asked names =
    (name : List ℕ) → IsTrue (is_file_at tree (place b name)) → IsTrue (is_full_name name)
    → IsTrue (asked name) → IsTrue (has names name)

-- and all that have a record
abbrev pub GathersRecords : List Record → (List ℕ → Bool) → List (List ℕ) → Type 0
GathersRecords records asked names =
    (name : List ℕ) → IsSome (hit records name) → IsTrue (asked name) → IsTrue (has names name)

-- a failed reading is reported only if a reading may fail
abbrev pub MayTell : Type 0 → Error → Type 0
MayTell may_fail Traversal = may_fail
MayTell may_fail (ReadFileContents name) = may_fail
MayTell may_fail (ReferenceCreation name source) = Unit {0}
MayTell may_fail Memory = Unit {0}

-- a walk gives up at a folder alone: a file that can't be read is read again at its turn
abbrev pub MayStop : Type 0 → Error → Type 0
MayStop may_fail Traversal = may_fail
MayStop may_fail (ReadFileContents name) = ⊥
MayStop may_fail (ReferenceCreation name source) = ⊥
MayStop may_fail Memory = Unit {0}

-- the error for a failed listing of a folder
abbrev pub stop_of : FileError → Error
stop_of files.Failed = Traversal
stop_of files.Memory = Memory
