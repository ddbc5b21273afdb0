-- What the references of gix_ref are in the terms of a repository: its store is of the root, with
-- the records that are kept.
use Rattle.std.specs.Prelude.{◌≡◌, List, [], ◌∷◌, ◌++◌, Option, Some, None, unwrap_or, bytes_eq, decimal, if◌then◌else◌, IsTrue, IsFalse}
use Rattle.std.specs.List.{list_all}
use Rattle.gix_ref_file.specs.Tree.{Tree}
use Rattle.bstr.specs.BStr.{bstr_bytes}
use Rattle.gix_object_lines.specs.declared.lines.actor.ActorRef.{ActorRef}
use Rattle.gix_hash.specs.Id.{Id}
use Rattle.gix_hash.specs.declared.kind.Kind.{Kind}
use Rattle.gix_ref_name.specs.Targets.{ToObject}
use Rattle.gix_ref_format.specs.Packed.{Record}
use Rattle.gix_ref_format.specs.PackedBuffer.{KeepsFile}
use Rattle.gix_ref_store.specs.Places.{Base, place}
use Rattle.gix_ref_store.specs.Places as store
use Rattle.gix_ref_store.specs.RefStates.{RefState, Stands, Absent, state_among}
use Rattle.gix_ref_format.specs.Edited.{Line}
use Rattle.gix_ref_lock.specs.Locks.{lock_of}
use Rattle.gix_ref_lock.specs.declared.packed.Transaction.{Transaction}
use Rattle.gix_ref_lock.specs.Committing.{packed_end}
use Rattle.gix_ref_transaction.specs.Repacking.{HoldsIf}
use Rattle.gix_ref_transaction.specs.Paths as paths
use Rattle.gix_ref_transaction.specs.LogLines.{IsLogLine}
use Rattle.history_model.specs.Bytes.{Bytes, has_twice}
use Rattle.history_model.specs.Objects.{Actor}
use Rattle.history_model.specs.Repository.{Repository, LogEntry, id_at}
use Rattle.history_model.specs.Forms.{is_actor, is_name, is_private}
use Rattle.history_model.specs.Logs.{log_line}
use Rattle.history_model.specs.Places.{file_at, packed_place, log_place}
use Rattle.history_layout.specs.TreeHalves.{HoldsNames}
use Rattle.history_layout.specs.TakeSteps.{LacksRecord}

-- the root has the names of the only worktree
abbrev pub root_base : Kind → Base
root_base kind = record { kind = kind; git = []; common = [] }

-- A name's files are where the repository has them.
pub record StandsInPlace (kind : Kind) (name : Bytes) : Type 0 where
  pub file : place (root_base kind) name ≡ name
  pub log : store.log_place (root_base kind) name ≡ log_place name

abbrev pub NamesStandInPlace : Type 0
NamesStandInPlace = (kind : Kind) (name : Bytes) → IsTrue (is_name name) → StandsInPlace kind name

-- a name that holds this id reads as it, and one that holds none as absent
abbrev pub ReadsAs : Option Id → RefState → Type 0
ReadsAs None state = state ≡ Absent
ReadsAs (Some id) state = (peeled : Option Id) × (state ≡ Stands (ToObject id) peeled)

-- Each name reads as what it holds.
abbrev pub ReadsWhole : Type 0
ReadsWhole =
    (r : Repository) (tree : Tree) (kept : Option (List Record)) (name : Bytes)
    → HoldsNames tree r → KeepsFile r.kind (file_at tree packed_place) kept
    → IsTrue (is_name name)
    → ReadsAs (id_at r name) (state_among (root_base r.kind) tree (unwrap_or kept []) name)

-- the paths that edits of these names concern: for each name its file, the lock of that, and its
-- log
abbrev pub name_paths : List Bytes → List Bytes
name_paths [] = []
name_paths (name ∷ names) = name ∷ lock_of name ∷ log_place name ∷ name_paths names

-- If no name occurs twice, no path does, nor is one of them that of packed records or of their
-- lock.
abbrev pub PathsOnce : Type 0
PathsOnce =
    (names : List Bytes) → IsTrue (list_all is_name names) → IsFalse (has_twice bytes_eq names)
    → IsFalse (paths.has_twice (packed_place ∷ lock_of packed_place ∷ name_paths names))

-- The committer is the one who moves a name, at the time of the move.
pub record Commits (actor : Actor) (who : ActorRef) : Type 0 where
  pub name : bstr_bytes who.name ≡ actor.name
  pub email : bstr_bytes who.email ≡ actor.email
  pub time : bstr_bytes who.time ≡ decimal actor.seconds ++ 32 ∷ actor.offset

-- The line of an update by that committer is the entry's.
abbrev pub LineTold : Type 0
LineTold =
    (entry : LogEntry) (who : ActorRef) (text : Bytes) → IsTrue (is_actor entry.actor)
    → Commits entry.actor who
    → IsLogLine entry.before entry.after who entry.message text → text ≡ log_line entry

-- what a deletion of the name says of records: private names have none
abbrev pub removals : Bytes → List Line
removals name = if is_private name then [] else record { name = name; says = None } ∷ []

-- the packed records in the end: with the text of their lock, if it is held
abbrev pub records_end : Tree → Tree → Option Transaction → Option Bytes
records_end old locked None = file_at old packed_place
records_end old locked (Some t) = packed_end t locked

-- If a deletion of the name has changed the records, or hit none, they are without it.
abbrev pub RecordTaken : Type 0
RecordTaken =
    (r : Repository) (name : Bytes) (old locked : Tree) (t : Option Transaction)
    → HoldsNames old r → IsTrue (is_name name)
    → HoldsIf (root_base r.kind) old locked (removals name) t
    → LacksRecord r.kind name (file_at old packed_place) (records_end old locked t)
