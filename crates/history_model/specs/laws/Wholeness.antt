-- The statements of the laws on whole repositories in written form.
use Rattle.std.specs.Prelude.{◌≡◌, List, None, IsFalse, Contains}
use Rattle.history_model.specs.Objects.{Value}
use Rattle.history_model.specs.Repository.{Repository, IsStored, IsWhole}
use Rattle.history_model.specs.Forms.{IsWritten}
use Rattle.history_model.specs.Commands.{Command}
use Rattle.history_model.specs.Replies.{Reply}
use Rattle.history_model.specs.Meaning.{after, stored_by, takes_id}
use Rattle.history_model.specs.Causes.{first_cause}
use Rattle.history_model.specs.Places.{Pair}
use Rattle.history_model.specs.StandsFor.{StandsWhole}
use Rattle.history_model.specs.Stops.{LeftByStop, StoresBetween}
use Rattle.history_model.specs.Steps.{Step, Steps}
use Rattle.gix_hash.specs.declared.kind.Kind.{Kind}

-- whole, with each part in written form
pub record IsSound (r : Repository) : Type 0 where
  pub whole : IsWhole r
  pub written : IsWritten r

-- A step leaves a sound repository sound, whatever the reply is, faults included.
abbrev pub StepsKeepSound : Type 0
StepsKeepSound =
    (old new : Repository) (command : Command) (reply : Reply) → Step old command reply new
    → IsSound old → IsSound new

-- So do several steps.
abbrev pub SequencesKeepSound : Type 0
SequencesKeepSound =
    (old new : Repository) (commands : List Command) (replies : List Reply)
    → Steps old commands replies new → IsSound old → IsSound new

-- So does a stop during a command, once recovered.
abbrev pub StopsKeepSound : Type 0
StopsKeepSound =
    (old x : Repository) (command : Command) → LeftByStop old command x → IsSound old → IsSound x

-- If no cause holds and no id is taken, everything that a command stores is stored afterwards, each
-- value under its own id; what was stored stays, and nothing else is added.
pub record StoresExactly (old : Repository) (command : Command) : Type 0 where
  pub between : StoresBetween old command (after old command)
  pub stored : (value : Value) → Contains (stored_by old command) value
      → IsStored (after old command) value

abbrev pub AcceptedStoreExactly : Type 0
AcceptedStoreExactly =
    (old : Repository) (command : Command) → IsSound old → first_cause old command ≡ None
    → IsFalse (takes_id old command) → StoresExactly old command

-- A pair of file trees represents at most one whole repository of a kind.
abbrev pub PairsAreOfOne : Type 0
PairsAreOfOne =
    (kind : Kind) (pair : Pair) (r s : Repository) → StandsWhole kind pair r
    → StandsWhole kind pair s → r ≡ s
