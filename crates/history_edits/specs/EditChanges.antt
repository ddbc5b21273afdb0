-- From what the two halves of a transaction say of their edits to a change of names.
use Rattle.std.specs.Prelude.{◌≡◌, List, Option, IsTrue, false}
use Rattle.std.specs.List.{AllByRecursion}
use Rattle.gix_object_lines.specs.declared.lines.actor.ActorRef.{ActorRef}
use Rattle.gix_ref_file.specs.History.{Adds, History}
use Rattle.gix_ref_file.specs.Tree.{Tree}
use Rattle.gix_ref_edit.specs.declared.change.RefEdit.{RefEdit}
use Rattle.gix_ref_lock.specs.declared.packed.Transaction.{Transaction}
use Rattle.gix_ref_lock.specs.Committing.{IsCommitted, OnTheWay}
use Rattle.gix_ref_lock.specs.Moments.{SameButLocks}
use Rattle.gix_ref_lock.specs.Needs.{log_paths}
use Rattle.gix_ref_lock.specs.declared.act.Move.{Move}
use Rattle.gix_ref_store.specs.RefStates.{RefState}
use Rattle.gix_ref_transaction.specs.Plans.{FoldersOfEdits}
use Rattle.gix_ref_transaction.specs.Rollback.{SameFilesBut, all_locks}
use Rattle.gix_ref_way.specs.Ways.{FoldersOnlyOf}
use Rattle.history_model.specs.Bytes.{Bytes}
use Rattle.history_model.specs.Forms.{is_name}
use Rattle.history_model.specs.Repository.{Repository}
use Rattle.history_layout.specs.EditSteps.{MovedName, EditsMade, EditsOnTheWay, edited_names}
use Rattle.history_layout.specs.TreeHalves.{HoldsNames}
use Rattle.history_edits.specs.Bridges.{root_base}
use Rattle.history_edits.specs.EditCommits.{HasNameFolders, IsReady}
use Rattle.history_edits.specs.EditPlans.{AreEdits, IsLogged}

-- The edits move these names as their entries say, by this committer, and delete that one. None
-- follows symbolic references.
pub record AreAsked (r : Repository) (committer : Option ActorRef) (moved : List MovedName)
    (taken : Option Bytes) (edits : List RefEdit) : Type 0 where
  pub named : AllByRecursion (λ name. IsTrue (is_name name)) (edited_names moved taken)
  pub logged : AllByRecursion (IsLogged r committer) moved
  pub asks : AreEdits moved taken edits
  pub plain : AllByRecursion (λ edit. edit.deref ≡ false) edits

-- While they are prepared no name moves, and no folders come but those of names.
abbrev pub PreparingPasses : Type 0
PreparingPasses =
    (r : Repository) (read : Bytes → RefState) (committer : Option ActorRef)
    (moved : List MovedName) (taken : Option Bytes) (edits : List RefEdit) (old mid : History)
    → HoldsNames old.tree r → AreAsked r committer moved taken edits
    → Adds (SameButLocks old.tree) old mid
    → Adds (FoldersOfEdits read (root_base r.kind) edits old.tree) old mid
    → Adds (EditsOnTheWay r.kind moved taken old.tree) old mid × HasNameFolders mid.tree

-- While they are committed the names are on the way, and no folders come but those of names.
abbrev pub CommittingPasses : Type 0
CommittingPasses =
    (r : Repository) (moved : List MovedName) (taken : Option Bytes) (old : Tree)
    (mid new : History) (t : Option Transaction) (moves : List Move)
    → IsReady r.kind moved taken old mid.tree t moves → HasNameFolders mid.tree
    → Adds (OnTheWay t moves mid.tree) mid new
    → Adds (FoldersOnlyOf (log_paths moves) mid.tree) mid new
    → Adds (EditsOnTheWay r.kind moved taken old) mid new × HasNameFolders new.tree

-- After it they are made.
abbrev pub CommittingMakes : Type 0
CommittingMakes =
    (r : Repository) (moved : List MovedName) (taken : Option Bytes) (old locked new : Tree)
    (t : Option Transaction) (moves : List Move)
    → HoldsNames old r → IsReady r.kind moved taken old locked t moves
    → SameFilesBut (all_locks t moves) old locked → IsCommitted t moves locked new
    → HasNameFolders new → EditsMade r.kind moved taken old new
