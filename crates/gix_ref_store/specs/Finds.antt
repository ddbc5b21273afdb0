-- What lookups return.
use Rattle.std.specs.Prelude.{ℕ, ◌≡◌, List, [], ◌∷◌, Option, Some, None, option_map, Result, Ok, Err, MatchResult}
use Rattle.std.specs.Borrow.{Bor}
use Rattle.gix_hash.specs.Id.{id_of}
use Rattle.gix_hash.specs.declared.kind.Kind.{Kind}
use Rattle.gix_ref_file.specs.Tree.{Tree}
use Rattle.gix_ref_name.specs.Targets.{target_view}
use Rattle.gix_ref_name.specs.declared.target.Target.{Target}
use Rattle.gix_ref_format.specs.Packed.{Record}
use Rattle.gix_ref_format.specs.PackedBuffer.{FileFault}
use Rattle.gix_ref_format.specs.PackedKept.{kept}
use Rattle.gix_ref_format.specs.declared.loose.Reference.{Reference as Loose}
use Rattle.gix_ref_format.specs.declared.packed.buffer.Buffer.{Buffer}
use Rattle.gix_ref_format.specs.declared.packed.buffer.Error.{Error as OpenError}
use Rattle.gix_ref_format.specs.declared.packed.buffer.Error.TheVariants.{Io}
use Rattle.gix_ref_store.specs.Places.{Base}
use Rattle.gix_ref_store.specs.RefStates.{RefState, Stands, Absent, Faulty, InFile, Met, first_met, IsFaulty, read_by, ref_state, state_among, packed_text_in}
use Rattle.gix_ref_store.specs.declared.reference.Reference.{Reference}
use Rattle.gix_ref_store.specs.declared.store.file.find.Error.{Error}
use Rattle.gix_ref_store.specs.declared.store.file.find.Error.TheVariants.{ReadFileContents, ReferenceCreation, PackedOpen, Memory}
use Rattle.gix_ref_store.specs.declared.store.file.find.ExistingError.{ExistingError}
use Rattle.gix_ref_store.specs.declared.store.file.find.ExistingError.TheVariants as existing

-- what a reference says of its name
abbrev pub state_of : Reference → RefState
state_of r = Stands (target_view r.target) (option_map id_of r.peeled)

abbrev pub met_of : Reference → Met
met_of r = record { name = r.name; ref_state = state_of r }

-- the same of one that a file of its own holds
abbrev pub loose_met : Loose → Met
loose_met r = record { name = r.name; ref_state = Stands (target_view r.target) None }

-- the records of a buffer, and none if there is no buffer
abbrev pub records_in : Option (Bor Buffer) → List Record
records_in None = []
records_in (Some buffer) = kept buffer.now

-- why a lookup fails that meets this name first
abbrev pub LookupFault : Option Met → Error → Type 0
LookupFault met (ReferenceCreation error) = IsFaulty (InFile error) met
LookupFault met (PackedOpen error) = ⊥
LookupFault met ReadFileContents = Unit {0}
LookupFault met Memory = Unit {0}

-- The packed records can't be read, and the first of the names has no file of its own.
pub record PackedFault (b : Base) (tree : Tree) (names : List (List ℕ))
    (error : OpenError) : Type 0 where
  pub why : FileFault b.kind (packed_text_in b tree) error
  pub first : List ℕ
  pub rest : List (List ℕ)
  pub names_are : names ≡ first ∷ rest
  pub no_file : state_among b tree [] first ≡ Absent

-- the same of a lookup that opens the packed records of the tree
abbrev pub FindFault : Base → Tree → List (List ℕ) → Option Met → Error → Type 0
FindFault b tree names met (ReferenceCreation error) = IsFaulty (InFile error) met
FindFault b tree names met (PackedOpen error) = PackedFault b tree names error
FindFault b tree names met ReadFileContents = Unit {0}
FindFault b tree names met Memory = Unit {0}

-- the same before the names are known
abbrev pub OpenedFault : Base → Tree → Option Met → Error → Type 0
OpenedFault b tree met (ReferenceCreation error) = IsFaulty (InFile error) met
OpenedFault b tree met (PackedOpen error) = FileFault b.kind (packed_text_in b tree) error
OpenedFault b tree met ReadFileContents = Unit {0}
OpenedFault b tree met Memory = Unit {0}

-- the result of a lookup that uses the packed records of the tree
abbrev pub FindsOpened : Base → Tree → List (List ℕ) → Result (Option Reference) Error → Type 0
FindsOpened b tree names result =
    let met =
    first_met (ref_state b tree) names
    in MatchResult result (λ found. option_map met_of found ≡ met) (OpenedFault b tree met)

-- a failed reading of a file is reported only if a reading may fail
abbrev pub MayTell : Type 0 → Error → Type 0
MayTell may_fail (ReferenceCreation error) = Unit {0}
MayTell may_fail (PackedOpen error) = error ≡ Io → may_fail
MayTell may_fail ReadFileContents = may_fail
MayTell may_fail Memory = Unit {0}

-- ---- calls for one that must exist

-- nothing is met, or the lookup fails so
abbrev pub OnExisting : Type 0 → (Error → Type 0) → ExistingError → Type 0
OnExisting absent fault existing.NotFound = absent
OnExisting absent fault (existing.Find error) = fault error

-- ---- one name

-- the result for a name that reads so
abbrev pub TellsState : List ℕ → RefState → Result (Option Reference) Error → Type 0
TellsState name ref_state (Ok None) = ref_state ≡ Absent
TellsState name ref_state (Ok (Some r)) = (r.name ≡ name) × (ref_state ≡ state_of r)
TellsState name ref_state (Err (ReferenceCreation error)) = ref_state ≡ Faulty (InFile error)
TellsState name ref_state (Err (PackedOpen error)) = ⊥
TellsState name ref_state (Err ReadFileContents) = Unit {0}
TellsState name ref_state (Err Memory) = Unit {0}

-- the result for a name's own file, whatever the records say if there is none
abbrev pub TellsFile : Kind → Option (List ℕ) → Result (Option Target) Error → Type 0
TellsFile kind text (Ok None) = (other : RefState) → read_by kind text other ≡ other
TellsFile kind text (Ok (Some target)) =
    (other : RefState) → read_by kind text other ≡ Stands (target_view target) None
TellsFile kind text (Err (ReferenceCreation error)) =
    (other : RefState) → read_by kind text other ≡ Faulty (InFile error)
TellsFile kind text (Err (PackedOpen error)) = ⊥
TellsFile kind text (Err ReadFileContents) = Unit {0}
TellsFile kind text (Err Memory) = Unit {0}
