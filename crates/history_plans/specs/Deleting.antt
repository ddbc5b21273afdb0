-- What a `delete` wants of its name.
use Rattle.std.specs.Prelude.{◌≡◌, List, ◌++◌, Option, Some, None, Result, Ok, Err}
use Rattle.gix_hash.specs.Id.{Id}
use Rattle.history_model.specs.Causes.{first_cause}
use Rattle.history_model.specs.Commands.{Command}
use Rattle.history_model.specs.declared.Cause.{Cause}
use Rattle.history_model.specs.declared.Cause.TheVariants.{NoSuchName}
use Rattle.history_repository.specs.Reads.{IsReadingFault}
use Rattle.history_plans.specs.Bases.{held_cause}
use Rattle.history_plans.specs.CommitCauses.{held_causes, name_form_causes, word_causes}
use Rattle.history_plans.specs.declared.base.Expected.{Expected}
use Rattle.history_repository.specs.declared.stopped.Stopped.{Stopped}
use Rattle.history_repository.specs.declared.stopped.Stopped.TheVariants.{Refused, Fault}
use Rattle.history_model.specs.Repository as plain

-- the causes that a `delete` may be refused for
abbrev pub delete_causes : List Cause
delete_causes = name_form_causes ++ (word_causes ++ held_causes)

-- why a name that holds this, or doesn't exist, can't be deleted
abbrev pub gone_cause : Expected → Option Id → Option Cause
gone_cause expected None = Some NoSuchName
gone_cause expected (Some id) = held_cause expected (Some id)

-- No cause holds; or it is refused for the first that does, or a fault was met.
abbrev pub TestsAll : Type 0 → plain.Repository → Command → Result (Unit {0}) Stopped → Type 0
TestsAll MayFail r command (Ok done) = first_cause r command ≡ None
TestsAll MayFail r command (Err (Refused cause)) = first_cause r command ≡ Some cause
TestsAll MayFail r command (Err (Fault fault)) = IsReadingFault MayFail (Fault fault)
