-- The edit of a switch, what is made of it, and the moments of its commit.
use Rattle.std.specs.Prelude.{◌≡◌, ◌≢◌, [], ◌∷◌, List, Option, Some, None, false}
use Rattle.gix_object_lines.specs.declared.lines.actor.ActorRef.{ActorRef}
use Rattle.gix_ref_file.specs.Tree.{IsRooted, Tree}
use Rattle.gix_ref_name.specs.Targets.{ToName, target_view}
use Rattle.gix_ref_name.specs.declared.target.Target.{Target}
use Rattle.gix_ref_edit.specs.declared.change.Change.TheVariants.{Update}
use Rattle.gix_ref_edit.specs.declared.change.PreviousValue.TheVariants.{MustExistAndMatch}
use Rattle.gix_ref_edit.specs.declared.change.RefEdit.{RefEdit}
use Rattle.gix_ref_edit.specs.declared.log.LogChange.{LogChange}
use Rattle.gix_ref_edit.specs.declared.log.RefLog.TheVariants.{AndReference}
use Rattle.gix_ref_format.specs.Loose.{loose_text}
use Rattle.gix_ref_format.specs.Packed.{Record}
use Rattle.gix_ref_lock.specs.declared.packed.Transaction.{Transaction}
use Rattle.gix_ref_lock.specs.Committing.{IsCommitted, OnTheWay}
use Rattle.gix_ref_lock.specs.Contents.{place_of, lock_path_of, log_path_of}
use Rattle.gix_ref_lock.specs.Moments.{SameButLocks}
use Rattle.gix_ref_lock.specs.Needs.{CanCommit}
use Rattle.gix_ref_lock.specs.declared.act.Act.TheVariants.{Put}
use Rattle.gix_ref_lock.specs.declared.act.Move.{Move}
use Rattle.history_model.specs.Bytes.{Bytes}
use Rattle.history_model.specs.Places.{file_at, head_place, log_place}
use Rattle.history_model.specs.Repository.{Repository}
use Rattle.history_layout.specs.SwitchSteps.{HeadOnTheWay, NamesBranch}
use Rattle.history_layout.specs.TreeHalves.{HoldsNames}
use Rattle.history_edits.specs.EditCommits.{HasNameFolders}
use Rattle.history_edits.specs.EditPlans.{IsPrepared}

-- The edit makes HEAD, which names one branch, name another, with no line in its log.
pub record AsksHead (from to : Bytes) (edit : RefEdit) : Type 0 where
  pub log : LogChange
  pub expected : Target
  pub new : Target
  pub name : edit.name ≡ head_place
  pub plain : edit.deref ≡ false
  pub change : edit.change ≡ Update log (MustExistAndMatch expected) new
  pub whole : log.mode ≡ AndReference
  pub before : target_view expected ≡ ToName from
  pub after : target_view new ≡ ToName to

-- The move replaces HEAD by its lock, which names the branch, and its log has no line more.
pub record PutsHead (branch : Bytes) (locked : Tree) (made : Move) : Type 0 where
  pub act : made.act ≡ Put None
  pub place : place_of made ≡ head_place
  pub text : file_at locked (lock_path_of made) ≡ Some (loose_text (ToName branch))

-- The only move replaces HEAD, records aren't locked, and each file but HEAD's lock is as before.
pub record IsHeadReady (to : Bytes) (old locked : Tree) (t : Option Transaction)
    (moves : List Move) : Type 0 where
  pub made : Move
  pub only : moves ≡ made ∷ []
  pub unpacked : t ≡ None
  pub puts : PutsHead to locked made
  pub log : log_path_of made ≡ log_place head_place
  pub files : (path : Bytes) → path ≢ lock_path_of made → file_at locked path ≡ file_at old path

-- Once its edit is prepared HEAD is ready to be replaced.
abbrev pub HeadIsReady : Type 0
HeadIsReady =
    (r : Repository) (from to : Bytes) (kept : Option (List Record)) (committer : Option ActorRef)
    (edit : RefEdit) (old locked : Tree) (t : Option Transaction) (moves : List Move)
    → HoldsNames old r → AsksHead from to edit
    → IsPrepared r.kind kept committer false None (edit ∷ []) old locked t moves
    → IsHeadReady to old locked t moves

-- While it is prepared, HEAD is as before.
abbrev pub HeadPrepares : Type 0
HeadPrepares =
    (to : Bytes) (old tree : Tree) → SameButLocks old tree → HasNameFolders tree
    → HeadOnTheWay to old tree

-- What is ready can be committed.
abbrev pub HeadCommits : Type 0
HeadCommits =
    (r : Repository) (to : Bytes) (old locked : Tree) (t : Option Transaction) (moves : List Move)
    → HoldsNames old r → IsHeadReady to old locked t moves → IsRooted locked
    → CanCommit t moves locked

-- While it is committed, HEAD is on its way.
abbrev pub HeadSwitches : Type 0
HeadSwitches =
    (to : Bytes) (old locked tree : Tree) (t : Option Transaction) (moves : List Move)
    → IsHeadReady to old locked t moves → OnTheWay t moves locked tree → HasNameFolders tree
    → HeadOnTheWay to old tree

-- After it HEAD names the branch, and no lock is left.
abbrev pub HeadSwitched : Type 0
HeadSwitched =
    (r : Repository) (to : Bytes) (old locked new : Tree) (t : Option Transaction)
    (moves : List Move) → HoldsNames old r → IsHeadReady to old locked t moves
    → IsCommitted t moves locked new → HasNameFolders new → NamesBranch to old new
