-- What an iterator over references has yet to give, and what each step gives.
use Rattle.std.specs.Prelude.{ℕ, ◌≡◌, ◌⊎◌, Bool, true, false, List, [], ◌∷◌, map, Option, Some, None, Result, Ok, Err}
use Rattle.std.specs.List.{filter}
use Rattle.gix_ref_file.specs.Tree.{Tree}
use Rattle.gix_ref_format.specs.Packed.{Record}
use Rattle.gix_ref_format.specs.PackedKept.{kept}
use Rattle.gix_ref_format.specs.Lookup.{packed_hit}
use Rattle.gix_ref_format.specs.declared.packed.buffer.Buffer.{Buffer}
use Rattle.gix_ref_store.specs.RefStates.{RefState, Stands, Absent, Faulty, InFile, Met, packed_state}
use Rattle.gix_ref_store.specs.Finds.{met_of, records_in, state_of}
use Rattle.gix_ref_store.specs.OwnFiles.{Listed, state_by}
use Rattle.gix_ref_store.specs.Searches.{reads_in}
use Rattle.gix_ref_store.specs.Walks.{MayTell}
use Rattle.gix_ref_store.specs.declared.reference.Reference.{Reference}
use Rattle.gix_ref_store.specs.declared.store.file.iter.Error.{Error}
use Rattle.gix_ref_store.specs.declared.store.file.iter.Error.TheVariants.{Traversal, ReadFileContents, ReferenceCreation, Memory}
use Rattle.gix_ref_store.specs.declared.store.file.iter.LooseThenPacked.{LooseThenPacked}
use Rattle.gix_ref_store.specs.declared.store.file.own.OwnFile.{OwnFile}

abbrev pub is_there : RefState → Bool
is_there Absent = false
is_there (Stands points peeled) = true
is_there (Faulty why) = true

-- a name with what it reads as, by what is known of its own file
abbrev pub met_by : (List ℕ → RefState) → List Record → List ℕ × OwnFile → Met
met_by read records entry = record {
  name = entry.0;
  ref_state = state_by entry.1 (read entry.0) (packed_state (packed_hit records entry.0));
}

-- those of the names that don't read as absent
abbrev pub mets_of : (List ℕ → RefState) → List Record → Listed → List Met
mets_of read records listed =
    filter (λ met. is_there met.ref_state) (map (met_by read records) listed)

-- what is still to come; a file that isn't read yet is as in this tree
abbrev pub left_in : {F : Type 0} → Tree → LooseThenPacked F → List Met
left_in tree items =
    mets_of (reads_in tree items.search) (records_in items.search.packed) items.names

-- the records of a buffer, and none if there is none
abbrev pub kept_in : Option Buffer → List Record
kept_in None = []
kept_in (Some buffer) = kept buffer

-- The next of what is to come, and the rest stays; nothing at the end. A failed reading or refused
-- memory takes the next, or none, if it concerns a name that has no reference.
abbrev pub GivesNext : (List ℕ → RefState) → List Met → Option (Result Reference Error) → List Met
    → Type 0
GivesNext read left None after = (left ≡ []) × (after ≡ [])
GivesNext read left (Some (Ok r)) after = left ≡ met_of r ∷ after
GivesNext read left (Some (Err (ReferenceCreation name reason))) after =
    left ≡ record { name = name; ref_state = Faulty (InFile reason) } ∷ after
GivesNext read left (Some (Err (ReadFileContents name))) after =
    ((read name ≡ Absent) × (left ≡ after))
    ⊎ ((r : RefState) × (left ≡ record { name = name; ref_state = r } ∷ after))
GivesNext read left (Some (Err Memory)) after =
    (left ≡ after) ⊎ ((met : Met) × (left ≡ met ∷ after))
GivesNext read left (Some (Err Traversal)) after = ⊥

-- The result for one name, which reads as the first in the tree, and as the second by what is known
-- of its file: nothing if that is absent.
abbrev pub TellsName : List ℕ → RefState → RefState → Option (Result Reference Error) → Type 0
TellsName name read r None = r ≡ Absent
TellsName name read r (Some (Ok found)) = (name ≡ found.name) × (r ≡ state_of found)
TellsName name read r (Some (Err Traversal)) = ⊥
TellsName name read r (Some (Err (ReadFileContents n))) = (name ≡ n) × (r ≡ read)
TellsName name read r (Some (Err (ReferenceCreation n reason))) =
    (name ≡ n) × (r ≡ Faulty (InFile reason))
TellsName name read r (Some (Err Memory)) = Unit {0}

-- what an item reports of failed readings
abbrev pub ItemMayTell : Type 0 → Option (Result Reference Error) → Type 0
ItemMayTell may_fail None = Unit {0}
ItemMayTell may_fail (Some (Ok r)) = Unit {0}
ItemMayTell may_fail (Some (Err error)) = MayTell may_fail error
