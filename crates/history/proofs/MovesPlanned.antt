-- The moves of a command that stores nothing, and what is reported if there are none.
use Rattle.std.proofs.Common.{◌≡◌, inr, refl, sym, subst}
use Rattle.std.specs.Prelude.{Some, Result, Ok, Err, IsErrOf, Vec}
use Rattle.std.specs.declared.alloc.Global.{Global}
use Rattle.history_model.specs.Bytes.{Bytes}
use Rattle.history_model.specs.Causes.{first_cause}
use Rattle.history_model.specs.Commands.{Command, Move, MoveCommand, Pack, Rename}
use Rattle.history_model.specs.declared.Cause.{Cause}
use Rattle.history_model.specs.declared.Fault.TheVariants.{Memory, File, IdTaken}
use Rattle.history_store.specs.declared.changing.MovedName.{MovedName}
use Rattle.history_repository.specs.Faults.{file_fault}
use Rattle.history_plans.specs.declared.packing.Packing.{Packing}
use Rattle.history_repository.specs.Reads.{GivesMeant}
use Rattle.history_repository.specs.declared.stopped.Stopped.{Stopped}
use Rattle.history_repository.specs.declared.stopped.Stopped.TheVariants.{Refused, Fault}
use Rattle.history_plans.specs.Deleting.{TestsAll}
use Rattle.history_plans.specs.Moving.{PlansMoves}
use Rattle.history_plans.specs.Renaming.{PlansRename}
use Rattle.history_plans.proofs.LineLemmas.{file_fails}
use Rattle.history_model.specs.Meaning.{after}
use Rattle.gix_ref_file.specs.declared.files.FileError.{FileError}
use Rattle.gix_ref_file.specs.declared.files.FileError.TheVariants.{Failed}
use Rattle.gix_ref_file.specs.declared.files.Files.{Ghosts}
use Rattle.history_repository.specs.Stands.{Stands}
use Rattle.history_repository.specs.declared.repository.Repository.{Repository}
use Rattle.history.specs.Runs.{CountsFailure}
use Rattle.history.specs.Calls.{StoresAsAsked}
use Rattle.history.specs.Storing.{GivesMoves, HasStored, StoresObjects}
use Rattle.history.proofs.AfterStoring.{stored_nothing}
use Rattle.history.proofs.Stood.{adds_same}
use Rattle.history.specs.declared.moves.Moves.{Moves}
use Rattle.history_model.specs.Repository as plain

module _ (MayFail : Type 0) (r : plain.Repository) where
  -- if nothing is planned, there are no moves, for the cause that the plan reports
  module _ (ends : Result Moves Stopped) (stopped : Stopped) (is_end : ends ≡ Err stopped) where
    pub moves_unplanned : (sent : MoveCommand) (result : Result (Vec MovedName Global) Stopped) → result ≡ Err stopped → PlansMoves MayFail r sent result → GivesMoves MayFail r (Move sent) ends
    moves_unplanned sent result was h = subst (GivesMoves MayFail r (Move sent)) (sym is_end) (by_case stopped (subst (PlansMoves MayFail r sent) was h))
      where
        by_case : (stopped : Stopped) → PlansMoves MayFail r sent (Err stopped) → GivesMoves MayFail r (Move sent) (Err stopped)
        by_case (Refused cause) k = k
        by_case (Fault fault) k = k

    pub rename_unplanned : (from to : Bytes) (result : Result MovedName Stopped) → result ≡ Err stopped → PlansRename MayFail r from to result → GivesMoves MayFail r (Rename from to) ends
    rename_unplanned from to result was h = subst (GivesMoves MayFail r (Rename from to)) (sym is_end) (by_case stopped (subst (PlansRename MayFail r from to) was h))
      where
        by_case : (stopped : Stopped) → PlansRename MayFail r from to (Err stopped) → GivesMoves MayFail r (Rename from to) (Err stopped)
        by_case (Refused cause) k = k
        by_case (Fault fault) k = k

    pub tests_failed : (sent : Command) (result : Result (Unit {0}) Stopped) → result ≡ Err stopped → TestsAll MayFail r sent result → GivesMoves MayFail r sent ends
    tests_failed sent result was h = subst (GivesMoves MayFail r sent) (sym is_end) (by_case stopped (subst (TestsAll MayFail r sent) was h))
      where
        by_case : (stopped : Stopped) → TestsAll MayFail r sent (Err stopped) → GivesMoves MayFail r sent (Err stopped)
        by_case (Refused cause) k = k
        by_case (Fault fault) k = k

    pub names_unread : (IsMeant : Packing → Type 0) (result : Result Packing Stopped) → result ≡ Err stopped → GivesMeant MayFail IsMeant result → GivesMoves MayFail r Pack ends
    names_unread IsMeant result was h = subst (GivesMoves MayFail r Pack) (sym is_end) (by_case stopped (subst (GivesMeant MayFail IsMeant) was h))
      where
        by_case : (stopped : Stopped) → GivesMeant MayFail IsMeant (Err stopped) → GivesMoves MayFail r Pack (Err stopped)
        by_case (Refused cause) k = absurd k
        by_case (Fault fault) k = k

  -- or a lock couldn't be looked up
  pub unread : {T : Type 0} (sent : Command) (ends : Result Moves Stopped) (result : Result T FileError) (error : FileError) → ends ≡ Err (Fault (file_fault error)) → result ≡ Err error → (IsErrOf result Failed → MayFail)
      → GivesMoves MayFail r sent ends
  unread sent ends result error is_end was failed = subst (GivesMoves MayFail r sent) (sym is_end) (file_fails MayFail result error was failed)

  -- or for the cause that holds
  pub refused_so : (sent : Command) (cause : Cause) (ends : Result Moves Stopped) → ends ≡ Err (Refused cause) → first_cause r sent ≡ Some cause → GivesMoves MayFail r sent ends
  refused_so sent cause ends is_end first = subst (GivesMoves MayFail r sent) (sym is_end) first

  -- if nothing is to be stored, the moves are all
  pub given_stores : (C S : Type 0) (sent : Command) (result : Result Moves Stopped) → (MayFail → C) → S → GivesMoves MayFail r sent result → StoresObjects C S r sent result
  given_stores C S sent (Ok moves) may stored h = (h, stored)
  given_stores C S sent (Err (Refused cause)) may stored h = h
  given_stores C S sent (Err (Fault Memory)) may stored h = tt
  given_stores C S sent (Err (Fault File)) may stored h = may h
  given_stores C S sent (Err (Fault IdTaken)) may stored h = absurd h

-- of a command that stores nothing
pub moves_given : {F : Type 0} (files : Ghosts F) (now : Repository F) (r : plain.Repository) (sent made : Command) → sent ≡ made → (after r made).objects ≡ r.objects → Stands files.is_honest files.history now r
    → (result : Result Moves Stopped) → GivesMoves files.reading_may_fail r made result → StoresAsAsked files r sent now now result
moves_given files now r sent made is same h result gives =
    subst (λ o. StoresAsAsked files r o now now result) (sym is) (record {
      ends = given_stores files.reading_may_fail r (CountsFailure files.failures files.reading_may_fail now now) (HasStored files.is_honest files.history now r made) made result (λ may. inr (inr may))
          (stored_nothing files.is_honest files.history now r made same h) gives;
      passes = adds_same _ _ refl;
    })
