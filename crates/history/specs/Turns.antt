-- The turns of a run.
use Rattle.std.specs.Prelude.{Bool, false, List, [], Option, Some, None, Result, Ok, Err}
use Rattle.history_model.specs.Bytes.{Bytes}
use Rattle.history_model.specs.Commands.{Command}
use Rattle.history_model.specs.Replies.{Reply}
use Rattle.history_model.specs.Runs.{Ran}
use Rattle.history_model.specs.declared.End.{End}
use Rattle.history.specs.declared.running.RunError.{RunError}
use Rattle.history_model.specs.Repository as plain
use Rattle.history_repository.specs.declared.repository.Repository.{Repository}
use Rattle.history.specs.Runs.{is_fault_end, EndsHere}

-- whether a turn is the run's last and ends it with a fault
abbrev pub is_last_fault : Option End → Bool
is_last_fault (Some end) = is_fault_end end
is_last_fault None = false

-- A turn after which the run goes on: the bytes of commands were taken, their replies written, and
-- the repository represents what they leave.
pub record GoesOn (Takes Writes : Bytes → Type 0) (StandsNow : plain.Repository → Type 0)
    (IsTraced : List Command → List Reply → plain.Repository → Type 0) (CallFailed : Type 0)
    (old : plain.Repository) : Type 0 where
  pub commands : List Command
  pub replies : List Reply
  pub taken : Bytes
  pub written : Bytes
  pub new : plain.Repository
  pub takes : Takes taken
  pub writes : Writes written
  pub ran : Ran CallFailed old commands replies taken written [] [] false new
  pub traced : IsTraced commands replies new
  pub stands : StandsNow new

-- a turn goes on, or is the run's last
abbrev pub Turns : (Bytes → Type 0) → (Bytes → Type 0) → (Bytes → Type 0)
    → (plain.Repository → Type 0) → (plain.Repository → Type 0)
    → (List Command → List Reply → plain.Repository → Type 0)
    → Type 0 → Type 0 → Type 0 → plain.Repository → Result (Option End) RunError → Bool → Type 0
Turns Takes Comes Writes StandsNow RecoversNow IsTraced AtEnd LastReading CallFailed old
    (Ok None) failed = GoesOn Takes Writes StandsNow IsTraced CallFailed old
Turns Takes Comes Writes StandsNow RecoversNow IsTraced AtEnd LastReading CallFailed old
    (Ok (Some end)) failed =
    EndsHere Comes Writes StandsNow RecoversNow IsTraced AtEnd LastReading CallFailed old
    (Ok end) failed
Turns Takes Comes Writes StandsNow RecoversNow IsTraced AtEnd LastReading CallFailed old
    (Err error) failed =
    EndsHere Comes Writes StandsNow RecoversNow IsTraced AtEnd LastReading CallFailed old
    (Err error) failed
