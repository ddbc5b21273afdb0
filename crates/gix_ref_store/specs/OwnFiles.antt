-- What a listing knows of the files of its names.
use Rattle.std.specs.Prelude.{ℕ, ◌≡◌, ◌⊎◌, Bool, true, false, List, Option, Some, None, Ok, Err, IsTrue}
use Rattle.std.specs.Map.{lookup}
use Rattle.gix_hash.specs.declared.kind.Kind.{Kind}
use Rattle.gix_object_lines.specs.NameTest.{is_full_name}
use Rattle.gix_ref_file.specs.Tree.{Tree, same_path}
use Rattle.gix_ref_name.specs.Targets.{target_view}
use Rattle.gix_ref_store.specs.Finds.{TellsFile}
use Rattle.gix_ref_store.specs.Places.{Base}
use Rattle.gix_ref_store.specs.RefStates as states
use Rattle.gix_ref_store.specs.RefStates.{RefState, Stands, InFile, loose_text_at}
use Rattle.gix_ref_store.specs.declared.store.file.find.Error.TheVariants.{ReferenceCreation}
use Rattle.gix_ref_store.specs.declared.store.file.own.OwnFile.{OwnFile}
use Rattle.gix_ref_store.specs.declared.store.file.own.OwnFile.TheVariants.{Holds, Faulty, Missing, Unread}

-- there is a file, and it was read
abbrev pub is_read : OwnFile → Bool
is_read (Holds target) = true
is_read (Faulty reason) = true
is_read Missing = false
is_read Unread = false

-- what a name reads as, by what is known of its own file: a missing one leaves it to its record, and
-- one that isn't read yet to the tree
abbrev pub state_by : OwnFile → RefState → RefState → RefState
state_by (Holds target) read packed = Stands (target_view target) None
state_by (Faulty reason) read packed = states.Faulty (InFile reason)
state_by Missing read packed = packed
state_by Unread read packed = read

-- what is known of a file with this text
abbrev pub IsOfText : Kind → Option (List ℕ) → OwnFile → Type 0
IsOfText kind text (Holds target) = TellsFile kind text (Ok (Some target))
IsOfText kind text (Faulty reason) = TellsFile kind text (Err (ReferenceCreation reason))
IsOfText kind text Missing = TellsFile kind text (Ok None)
IsOfText kind text Unread = Unit {0}

-- names, each with what is known of its own file
abbrev pub Listed : Type 0
Listed = List (List ℕ × OwnFile)

-- all names are full, and what is known of their files is so in this tree
abbrev pub KnowsFiles : Base → Tree → Listed → Type 0
KnowsFiles b tree listed =
    (name : List ℕ) (own : OwnFile) → lookup (same_path name) listed ≡ Some own
    → IsTrue (is_full_name name) × IsOfText b.kind (loose_text_at b tree name) own

-- a name that is new is a full one, with no file of its own
abbrev pub BringsMissing : Listed → Listed → Type 0
BringsMissing old new =
    (name : List ℕ) (own : OwnFile) → lookup (same_path name) new ≡ Some own
    → (lookup (same_path name) old ≡ Some own)
    ⊎ ((lookup (same_path name) old ≡ None) × IsTrue (is_full_name name) × (own ≡ Missing))
