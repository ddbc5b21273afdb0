-- Why an action isn't done, by what the calls of `history` return.
use Rattle.std.specs.Prelude.{◌≡◌, ⊤, Result, Ok, Err}
use Rattle.history_model.specs.declared.End.{End}
use Rattle.history_model.specs.declared.End.TheVariants.{Input, Refused, Fault}
use Rattle.history_store.specs.declared.creation.CreateError.{CreateError}
use Rattle.history_store.specs.declared.creation.CreateError.TheVariants as creates
use Rattle.history_recovery.specs.declared.recovering.RecoverError.{RecoverError}
use Rattle.history_recovery.specs.declared.recovering.RecoverError.TheVariants as recovers
use Rattle.history.specs.declared.running.RunError.{RunError}
use Rattle.history.specs.declared.running.RunError.TheVariants as runs
use Rattle.history_actions.specs.declared.failure.Failure.{Failure}
use Rattle.history_actions.specs.declared.failure.Failure.TheVariants.{NotEmpty, Unopened, File, Memory, Read, Write, Ended}

abbrev pub create_failure : CreateError → Failure
create_failure (creates.NotEmpty path) = NotEmpty path
create_failure creates.File = File
create_failure creates.Memory = Memory

abbrev pub recover_failure : RecoverError → Failure
recover_failure recovers.File = File
recover_failure recovers.Memory = Memory

abbrev pub run_failure : RunError → Failure
run_failure runs.Read = Read
run_failure runs.Write = Write

-- A run is done if its input ends between two commands.
abbrev pub IsAnswerOf : {T : Type 0} → Result End RunError → Result T Failure → Type 0
IsAnswerOf (Ok Input) (Ok done) = ⊤
IsAnswerOf (Ok Input) (Err failure) = ⊥
IsAnswerOf (Ok Refused) answer = answer ≡ Err (Ended Refused)
IsAnswerOf (Ok Fault) answer = answer ≡ Err (Ended Fault)
IsAnswerOf (Err error) answer = answer ≡ Err (run_failure error)

-- it was done, even if the writer failed when that was written
abbrev pub IsDone : {T : Type 0} → Result T Failure → Type 0
IsDone (Ok done) = ⊤
IsDone (Err Write) = ⊤
IsDone (Err (NotEmpty path)) = ⊥
IsDone (Err (Unopened cause)) = ⊥
IsDone (Err File) = ⊥
IsDone (Err Memory) = ⊥
IsDone (Err Read) = ⊥
IsDone (Err (Ended end)) = ⊥
