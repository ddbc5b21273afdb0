-- How the names of a command move, once its objects are stored.
use Rattle.std.specs.Prelude.{◌≡◌, ⊤, ℕ, List, Option, None, Result, Ok, Err, map, option_map}
use Rattle.std.specs.Borrow.{Bor}
use Rattle.gix_ref_file.specs.History.{History}
use Rattle.history_model.specs.Bytes.{Bytes}
use Rattle.history_model.specs.Causes.{first_cause}
use Rattle.history_model.specs.Commands.{Command}
use Rattle.history_model.specs.Meaning.{after}
use Rattle.history_model.specs.laws.Wholeness.{IsSound}
use Rattle.history_model.specs.declared.Fault.{Fault}
use Rattle.history_model.specs.declared.Fault.TheVariants.{Memory, File, IdTaken}
use Rattle.history_layout.specs.EditFits.{CanBeEdited}
use Rattle.history_layout.specs.EditSteps.{AreEditsOf}
use Rattle.history_store.specs.Changing.{HaveOneActor, moved_in}
use Rattle.history_store.specs.declared.changing.MovedName.{MovedName}
use Rattle.history_repository.specs.declared.repository.Repository.{Repository}
use Rattle.history.specs.Storing.{HasStored}
use Rattle.history_layout.specs.EditSteps as edits
use Rattle.history_model.specs.Repository as plain

-- Names move, and what is kept in memory of names; the objects, the rows and whether a command has
-- failed stay.
pub record MovesNamesAlone {F : Type 0} (old new : Repository F) : Type 0 where
  pub objects : new.objects ≡ old.objects
  pub rows : new.rows ≡ old.rows
  pub failed : new.has_failed ≡ old.has_failed

-- The names are as they should be, or there was a fault.
abbrev pub LeavesMoved : Type 0 → Type 0 → Result (Unit {0}) Fault → Type 0
LeavesMoved CallFailed Moved (Ok done) = Moved
LeavesMoved CallFailed Moved (Err Memory) = ⊤
LeavesMoved CallFailed Moved (Err File) = CallFailed
LeavesMoved CallFailed Moved (Err IdTaken) = ⊥

-- the names that move, and the one that is removed, as steps have them
abbrev pub edits_of : List MovedName → List edits.MovedName
edits_of moved = map moved_in moved

abbrev pub gone_of : Option (Bor (List ℕ)) → Option Bytes
gone_of taken = option_map (λ name. name.now) taken

-- The objects of the command are stored, no cause holds of it, and it moves these names, by one
-- actor, and removes that one, which can be done in one transaction.
pub record AskedEdits {F : Type 0} (IsHonest : F → Type 0) (history : F → History)
    (repository : Repository F) (r : plain.Repository) (sent : Command)
    (moved : List MovedName) (taken : Option (Bor (List ℕ))) : Type 0 where
  pub stored : HasStored IsHonest history repository r sent
  pub none : first_cause r sent ≡ None
  pub sound : IsSound (after r sent)
  pub are : AreEditsOf r sent (edits_of moved) (gone_of taken)
  pub fit : CanBeEdited r (edits_of moved) (gone_of taken)
  pub one_actor : HaveOneActor (edits_of moved)
