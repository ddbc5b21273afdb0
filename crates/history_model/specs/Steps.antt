-- One step: a command, its reply and the repository after it.
use Rattle.std.specs.Prelude.{◌≡◌, ◌⊎◌, Bool, true, false, not, ◌&&◌, ◌||◌, List, [], ◌∷◌, Option, Some, None, IsTrue, IsFalse, MatchBool}
use Rattle.history_model.specs.Repository.{Repository}
use Rattle.history_model.specs.Commands.{Command}
use Rattle.history_model.specs.Replies.{Reply, Indexed, RefusedFor, Faulted}
use Rattle.history_model.specs.Meaning.{after, takes_id}
use Rattle.history_model.specs.Causes.{first_cause}
use Rattle.history_model.specs.Answers.{Answers, Row, rows_of}
use Rattle.history_model.specs.Stops.{is_changing, LeftByStop}
use Rattle.history_model.specs.declared.Cause.TheVariants.{TooLarge}
use Rattle.history_model.specs.declared.Fault.{Fault}
use Rattle.history_model.specs.declared.Fault.TheVariants.{IdTaken}

-- The command stores under a taken id, and no cause holds, except that something may be too large:
-- the length of a tree that would name something with the null id isn't known.
abbrev pub MayTake : Repository → Command → Type 0
MayTake old command =
    ((first_cause old command ≡ None) ⊎ (first_cause old command ≡ Some TooLarge))
    × IsTrue (takes_id old command)

-- `IdTaken` is reported only if an id may be taken
abbrev pub FaultFits : Repository → Command → Fault → Type 0
FaultFits old command IdTaken = MayTake old command
FaultFits old command _ = Unit {0}

-- No cause holds; the reply and the repository after it are what the command means.
pub record Accepts (old : Repository) (command : Command) (reply : Reply)
    (new : Repository) : Type 0 where
  pub no_cause : first_cause old command ≡ None
  pub not_taken : IsFalse (takes_id old command)
  pub answer : Answers old command reply
  pub result : new ≡ after old command

-- A refusal is for the first cause that holds. A fault in a changing command leaves what a stop in
-- it may leave.
abbrev pub Step : Repository → Command → Reply → Repository → Type 0
Step old command (RefusedFor cause) new = (first_cause old command ≡ Some cause) × (new ≡ old)
Step old command (Faulted fault) new =
    FaultFits old command fault
    × MatchBool (is_changing command) (LeftByStop old command new) (new ≡ old)
Step old command reply new = Accepts old command reply new

-- ---- several steps

abbrev pub is_faulted : Reply → Bool
is_faulted (Faulted fault) = true
is_faulted _ = false

-- A fault in a changing command ends a run.
abbrev pub goes_on : Command → Reply → Bool
goes_on command reply = not (is_changing command && is_faulted reply)

-- steps one after another; after each but the last the run goes on
abbrev pub Steps : Repository → List Command → List Reply → Repository → Type 0
Steps old [] [] new = new ≡ old
Steps old (command ∷ commands) (reply ∷ replies) new =
    (mid : Repository) × Step old command reply mid
    × (IsTrue (goes_on command reply) ⊎ (commands ≡ [])) × Steps mid commands replies new
Steps old [] (reply ∷ replies) new = ⊥
Steps old (command ∷ commands) [] new = ⊥

-- whether a changing command had a fault
abbrev pub some_failed : List Command → List Reply → Bool
some_failed (command ∷ commands) (reply ∷ replies) =
    not (goes_on command reply) || some_failed commands replies
some_failed _ _ = false

-- ---- what the replies determine

-- The state after a step, if the run goes on: only an accepted command changes it.
abbrev pub next : Repository → Command → Reply → Repository
next old command (RefusedFor cause) = old
next old command (Faulted fault) = old
next old command reply = after old command

-- the rows of the last `ok index`, in the state at that time
abbrev pub rows_after : Repository → Option (List Row) → List Command → List Reply
    → Option (List Row)
rows_after r rows (command ∷ commands) (Indexed n ∷ replies) =
    rows_after r (Some (rows_of r)) commands replies
rows_after r rows (command ∷ commands) (reply ∷ replies) =
    rows_after (next r command reply) rows commands replies
rows_after r rows _ _ = rows
