-- One request of a program that verifies.
use Rattle.std.specs.Prelude.{◌≡◌, Result, Ok, Err}
use Rattle.gix_object_signature.specs.Run.{Request}
use Rattle.gix_object_signature.specs.declared.run.Answer.{Answer}
use Rattle.gix_object_signature.specs.declared.run.RunError as run
use Rattle.gix_object_signature.specs.declared.run.RunError.TheVariants as cause
use Rattle.gix_object_signature.specs.declared.verify.Error as verify
use Rattle.gix_object_signature.specs.declared.verify.Error.TheVariants.{TemporaryFile, Spawn, Communicate, Memory}

abbrev pub error_of : run.RunError → verify.Error
error_of cause.TemporaryFile = TemporaryFile
error_of cause.Spawn = Spawn
error_of cause.Communicate = Communicate
error_of cause.Memory = Memory

abbrev pub told : Result Answer run.RunError → Result Answer verify.Error
told (Err cause) = Err (error_of cause)
told (Ok answer) = Ok answer

-- the request is run once, and its answer is the result; or no memory is left for its words, and
-- nothing is run
pub data Asks {R : Type 0} (answers : R → Request → Result Answer run.RunError → R → Type 0)
    (before : R) (request : Request) (result : Result Answer verify.Error)
    (after : R) : Type 0 where
  Answered : (answer : Result Answer run.RunError) → answers before request answer after
      → result ≡ told answer → Asks answers before request result after
  NoMemory : result ≡ Err Memory → after ≡ before → Asks answers before request result after
