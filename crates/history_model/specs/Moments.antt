-- What happens to the files while commands are acted on: the moments between commands, and the
-- pairs that a stop may leave. The histories of both parts have every tree that there was;
-- ReadingMayFail says that a reading of the files may fail.
use Rattle.std.specs.Prelude.{◌≡◌, ◌⊎◌, ◌≤◌, ℕ, not, Bool, true, List, [], ◌∷◌, ◌++◌, Some, IsTrue, if◌then◌else◌, Contains, slice_get}
use Rattle.gix_ref_file.specs.Tree.{Tree}
use Rattle.gix_ref_file.specs.History.{History, trees, stood_between, HasRisen}
use Rattle.history_model.specs.Repository.{Repository}
use Rattle.history_model.specs.Commands.{Command}
use Rattle.history_model.specs.Places.{Pair}
use Rattle.history_model.specs.StandsFor.{StandsWhole}
use Rattle.history_model.specs.Recovery.{recovered}
use Rattle.history_model.specs.Replies.{Reply, RefusedFor, Faulted}
use Rattle.history_model.specs.Stops.{LeftByStop, is_changing}
use Rattle.history_model.specs.Steps.{Step, goes_on}
use Rattle.history_model.specs.declared.Fault.TheVariants.{File}

-- a moment of both parts: how many trees came before it in each, and how many calls of each had
-- failed
pub record Moment : Type 0 where
  pub objects : ℕ
  pub names : ℕ
  pub object_failures : ℕ
  pub name_failures : ℕ

-- of one part: the tree at a moment, and those from one moment to another
abbrev pub StoodAt : History → ℕ → Tree → Type 0
StoodAt history moment tree = slice_get (trees history) moment ≡ Some tree

abbrev pub StoodBetween : History → ℕ → ℕ → Tree → Type 0
StoodBetween history from to tree = Contains (stood_between history from to) tree

-- the new history continues the old one
abbrev pub GoesOnFrom : History → History → Type 0
GoesOnFrom old new = (during : List Tree) × (trees new ≡ trees old ++ during)

-- the pair at a moment
abbrev pub IsPairAt : History → History → Moment → Pair → Type 0
IsPairAt objects names moment pair =
    StoodAt objects moment.objects pair.objects × StoodAt names moment.names pair.names

-- Between two moments all changes of the objects part come before the first of the names part.
abbrev pub IsStepPair : History → History → Moment → Moment → Pair → Type 0
IsStepPair objects names begin finish pair =
    (StoodBetween objects begin.objects finish.objects pair.objects
    × StoodAt names begin.names pair.names)
    ⊎ (StoodAt objects finish.objects pair.objects
    × StoodBetween names begin.names finish.names pair.names)

-- a failed call was counted between two moments
abbrev pub HasCountedFailure : Moment → Moment → Type 0
HasCountedFailure begin finish =
    HasRisen begin.object_failures finish.object_failures
    ⊎ HasRisen begin.name_failures finish.name_failures

-- both parts count as many failed calls as before
abbrev pub CountsStay : Moment → Moment → Type 0
CountsStay begin finish =
    (finish.object_failures ≡ begin.object_failures)
    × (finish.name_failures ≡ begin.name_failures)

-- Why a command may report a failed call: it changes files, and a failure was counted; or, in any
-- command, a reading may fail.
abbrev pub HasFailedCall : Type 0 → Command → Moment → Moment → Type 0
HasFailedCall ReadingMayFail command begin finish =
    (IsTrue (is_changing command) × HasCountedFailure begin finish) ⊎ ReadingMayFail

-- The pair at a moment represents a whole repository; after a failed changing command the recovered
-- pair does.
abbrev pub StandsAt : History → History → Moment → Bool → Repository → Type 0
StandsAt objects names moment failed r = (pair : Pair) × IsPairAt objects names moment pair
    × StandsWhole r.kind (if failed then recovered r.kind pair else pair) r

-- the pair, once recovered, represents what a stop in the command may leave
abbrev pub LeavesStopped : Repository → Command → Pair → Type 0
LeavesStopped old command pair =
    (x : Repository) × LeftByStop old command x × StandsWhole old.kind (recovered old.kind pair) x

-- there is no tree between the two moments
abbrev pub IsUnchanged : Moment → Moment → Type 0
IsUnchanged begin finish = (finish.objects ≡ begin.objects) × (finish.names ≡ begin.names)

-- whether a command with this reply leaves the files alone: it is refused, or changes none
abbrev pub leaves_files : Command → Reply → Bool
leaves_files command (RefusedFor cause) = true
leaves_files command reply = not (is_changing command)

-- One command is acted on between two moments.
pub record ActedOn (objects names : History) (ReadingMayFail : Type 0) (old : Repository)
    (begin : Moment)
    (command : Command) (reply : Reply) (finish : Moment) (new : Repository) : Type 0 where
  pub step : Step old command reply new
  pub later : (begin.objects ≤ finish.objects) × (begin.names ≤ finish.names)
  -- no count falls, and one rises only in a changing command with a fault, which ends the run
  pub counts : (begin.object_failures ≤ finish.object_failures)
      × (begin.name_failures ≤ finish.name_failures)
  pub uncounted : IsTrue (goes_on command reply) → CountsStay begin finish
  pub unchanged : IsTrue (leaves_files command reply) → IsUnchanged begin finish
  pub stands : StandsAt objects names finish (not (goes_on command reply)) new
  pub stops : (pair : Pair) → IsStepPair objects names begin finish pair
      → LeavesStopped old command pair
  pub failure : reply ≡ Faulted File → HasFailedCall ReadingMayFail command begin finish

-- These commands are acted on one after another, each between two moments; after each but the last
-- the run goes on.
abbrev pub ActsOn : History → History → Type 0 → Repository → Moment → List Command → List Reply
    → List Moment → Repository → Type 0
ActsOn objects names ReadingMayFail old begin [] [] [] new = new ≡ old
ActsOn objects names ReadingMayFail old begin (command ∷ commands) (reply ∷ replies)
    (next ∷ moments) new =
    (mid : Repository) × ActedOn objects names ReadingMayFail old begin command reply next mid
    × (IsTrue (goes_on command reply) ⊎ (commands ≡ []))
    × ActsOn objects names ReadingMayFail mid next commands replies moments new
ActsOn _ _ _ _ _ _ _ _ _ = ⊥

abbrev pub last_moment : Moment → List Moment → Moment
last_moment begin [] = begin
last_moment begin (next ∷ moments) = last_moment next moments

-- What a run does to the files, from its first moment to its last.
pub record Traces (objects names : History) (ReadingMayFail : Type 0) (old : Repository)
    (begin : Moment)
    (commands : List Command) (replies : List Reply) (finish : Moment)
    (new : Repository) : Type 0 where
  pub moments : List Moment
  pub acts : ActsOn objects names ReadingMayFail old begin commands replies moments new
  pub ends : last_moment begin moments ≡ finish
