-- The edits for moves of names, and for a deletion after them, and what is made of them.
use Rattle.std.specs.Prelude.{◌≡◌, Bool, List, [], ◌∷◌, Option, Some, None, unwrap_or, IsTrue, false}
use Rattle.std.specs.List.{AllByRecursion}
use Rattle.gix_hash.specs.Id.{null_id}
use Rattle.gix_hash.specs.declared.kind.Kind.{Kind}
use Rattle.gix_object_lines.specs.declared.lines.actor.ActorRef.{ActorRef}
use Rattle.gix_object_lookup.specs.Table.{Table}
use Rattle.gix_ref_file.specs.Tree.{Tree}
use Rattle.gix_ref_name.specs.Targets.{ToObject, target_view}
use Rattle.gix_ref_name.specs.declared.target.Target.{Target}
use Rattle.gix_ref_edit.specs.declared.change.Change.TheVariants.{Update, Delete}
use Rattle.gix_ref_edit.specs.declared.change.PreviousValue.{PreviousValue}
use Rattle.gix_ref_edit.specs.declared.change.RefEdit.{RefEdit}
use Rattle.gix_ref_edit.specs.declared.log.LogChange.{LogChange}
use Rattle.gix_ref_edit.specs.declared.log.RefLog.TheVariants.{AndReference}
use Rattle.gix_ref_format.specs.Packed.{Record}
use Rattle.gix_ref_format.specs.PackedBuffer.{KeepsFile}
use Rattle.gix_ref_format.specs.Edited.{Line}
use Rattle.gix_ref_lock.specs.declared.packed.Transaction.{Transaction}
use Rattle.gix_ref_lock.specs.declared.act.Move.{Move}
use Rattle.gix_ref_transaction.specs.Repacking.{AreRepacked, SayOfRecords}
use Rattle.gix_ref_store.specs.RefStates.{RefState, state_among}
use Rattle.gix_ref_store.specs.declared.options.WriteReflog.TheVariants.{Always}
use Rattle.gix_ref_transaction.specs.LogLines.{Logging, AllLined}
use Rattle.gix_ref_transaction.specs.Plans.{AllPlanned, AllHold, AreSplit}
use Rattle.gix_ref_transaction.specs.Rollback.{SameFilesBut, all_locks}
use Rattle.history_model.specs.Bytes.{Bytes}
use Rattle.history_model.specs.Forms.{is_actor, is_name}
use Rattle.history_model.specs.Places.{file_at, packed_place}
use Rattle.history_model.specs.Repository.{Repository, id_at}
use Rattle.history_layout.specs.EditSteps.{MovedName, edited_names}
use Rattle.history_layout.specs.TreeHalves.{HoldsNames}
use Rattle.history_edits.specs.Bridges.{Commits, removals, root_base}
use Rattle.history_edits.specs.EditCommits.{IsReady}

-- The edit updates the name to the entry's id after, with a line of the entry's message.
pub record AsksMove (m : MovedName) (edit : RefEdit) : Type 0 where
  pub log : LogChange
  pub expected : PreviousValue
  pub new : Target
  pub name : edit.name ≡ m.name
  pub change : edit.change ≡ Update log expected new
  pub whole : log.mode ≡ AndReference
  pub message : log.message ≡ m.entry.message
  pub target : target_view new ≡ ToObject m.entry.after

-- The edit deletes the name, with its log.
pub record AsksDeletion (name : Bytes) (edit : RefEdit) : Type 0 where
  pub expected : PreviousValue
  pub name_is : edit.name ≡ name
  pub change : edit.change ≡ Delete expected AndReference

-- the edits are those of the names, in their order, and after them that of the deleted one
abbrev pub AreEdits : List MovedName → Option Bytes → List RefEdit → Type 0
AreEdits [] None edits = edits ≡ []
AreEdits [] (Some name) [] = ⊥
AreEdits [] (Some name) (edit ∷ edits) = AsksDeletion name edit × (edits ≡ [])
AreEdits (m ∷ moved) taken [] = ⊥
AreEdits (m ∷ moved) taken (edit ∷ edits) = AsksMove m edit × AreEdits moved taken edits

-- The entry is of a move of the name by this committer: its id before is what the name holds, and the
-- null id if it is absent.
pub record IsLogged (r : Repository) (committer : Option ActorRef) (m : MovedName) : Type 0 where
  pub before : m.entry.before ≡ unwrap_or (id_at r m.name) (null_id r.kind)
  pub formed : IsTrue (is_actor m.entry.actor)
  pub who : ActorRef
  pub given : committer ≡ Some who
  pub commits : Commits m.entry.actor who

-- what lines depend on in a store of the root, in which each name has a log
abbrev pub logging_of : Kind → Option (List Record) → Option ActorRef → Tree → Logging
logging_of kind kept committer tree = record {
  logged = Always;
  kind = kind;
  read = state_among (root_base kind) tree (unwrap_or kept []);
  committer = committer;
}

-- What is known of edits that aren't split, once they are prepared: `packs` says what tags lead to, if
-- updates are packed, and `removes` whether the own files of what is packed are removed.
pub record IsPrepared (kind : Kind) (kept : Option (List Record)) (committer : Option ActorRef)
    (removes : Bool) (packs : Option Table) (edits : List RefEdit) (old locked : Tree)
    (t : Option Transaction) (moves : List Move) : Type 0 where
  pub plans : AllPlanned (root_base kind) removes edits moves
  pub hold : AllHold locked edits moves
  pub lined : AllLined (logging_of kind kept committer old) (root_base kind) old edits moves
  pub repacked : AreRepacked (root_base kind) packs old locked edits t
  -- each file but the locks is as before
  pub files : SameFilesBut (all_locks t moves) old locked

abbrev pub removals_of : Option Bytes → List Line
removals_of None = []
removals_of (Some name) = removals name

-- If updates aren't packed, they say only that the record of the deleted name is removed too.
abbrev pub EditsSay : Type 0
EditsSay =
    (moved : List MovedName) (taken : Option Bytes) (edits : List RefEdit) (lines : List Line)
    → AllByRecursion (λ name. IsTrue (is_name name)) (edited_names moved taken)
    → AreEdits moved taken edits → SayOfRecords None edits lines → lines ≡ removals_of taken

-- So what is prepared of them is ready to be committed.
abbrev pub EditsReady : Type 0
EditsReady =
    (r : Repository) (kept : Option (List Record)) (committer : Option ActorRef)
    (moved : List MovedName) (taken : Option Bytes) (edits : List RefEdit) (old locked : Tree)
    (t : Option Transaction) (moves : List Move)
    → HoldsNames old r → KeepsFile r.kind (file_at old packed_place) kept
    → AllByRecursion (λ name. IsTrue (is_name name)) (edited_names moved taken)
    → AllByRecursion (IsLogged r committer) moved → AreEdits moved taken edits
    → IsPrepared r.kind kept committer false None edits old locked t moves
    → IsReady r.kind moved taken old locked t moves

-- Edits that don't follow symbolic references aren't split.
abbrev pub UnsplitStay : Type 0
UnsplitStay =
    (read : Bytes → RefState) (asked edits : List RefEdit)
    → AllByRecursion (λ edit. edit.deref ≡ false) asked → AreSplit read asked edits
    → edits ≡ asked
