-- Laws of rounds: how runs, stops and recoveries join.
use Rattle.std.specs.Prelude.{◌≡◌, Bool, false, List, [], ◌++◌, ◌⊎◌, ◌∷◌}
use Rattle.gix_ref_file.specs.History.{History, moment}
use Rattle.history_model.specs.Bytes.{Bytes}
use Rattle.history_model.specs.Repository.{Repository}
use Rattle.history_model.specs.Commands.{Command}
use Rattle.history_model.specs.Replies.{Reply}
use Rattle.history_model.specs.Places.{Pair}
use Rattle.history_model.specs.StandsFor.{StandsWhole}
use Rattle.history_model.specs.Runs.{BeginsWith, Runs, EndsReading, EndsWriting}
use Rattle.history_model.specs.Moments.{Moment, IsPairAt, Traces, GoesOnFrom, IsStepPair}
use Rattle.history_model.specs.Rounds.{Round, IsRunOf, AreRounds, last_left, Outcomes, IsRound, stopped_round, ended_round, WritesReplies}
use Rattle.gix_hash.specs.declared.kind.Kind.{Kind}
use Rattle.history_model.specs.declared.End.{End}
use Rattle.history_model.specs.Joined.{pair_now}

-- a pair during one of the commands; at each of these moments one ends and the next begins
abbrev pub IsCommandPair : History → History → Moment → List Moment → Pair → Type 0
IsCommandPair objects names begin [] pair = ⊥
IsCommandPair objects names begin (next ∷ moments) pair =
    IsStepPair objects names begin next pair ⊎ IsCommandPair objects names next moments pair

-- a pair during a run: the one at its beginning, or one during a command
abbrev pub IsRunPair : History → History → Moment → List Moment → Pair → Type 0
IsRunPair objects names begin moments pair =
    IsPairAt objects names begin pair ⊎ IsCommandPair objects names begin moments pair

-- If each round's run and recovery keep their contracts, the last pair represents a whole
-- repository, and steps and stops explain, round by round, what was replied, written and left.
abbrev pub RoundsJoin : Type 0
RoundsJoin =
    (kind : Kind) (pair : Pair) (rounds : List Round) (old : Repository)
    → StandsWhole kind pair old → AreRounds kind pair rounds
    → (new : Repository) × StandsWhole kind (last_left pair rounds) new × Outcomes old rounds new

-- A run may be stopped at each pair of its trace, after a beginning of its replies.
abbrev pub TracesStop : Type 0
TracesStop =
    (objects names : History) (old new : Repository) (begin finish : Moment)
    (commands : List Command) (replies : List Reply) (input rest : Bytes)
    → BeginsWith input commands rest
    → (traces : Traces objects names (Unit {0}) old begin commands replies finish new)
    → (pair : Pair) → IsRunPair objects names begin traces.moments pair
    → (made more : List Reply) × (replies ≡ made ++ more)
    × IsRunOf old (stopped_round old.kind objects names begin input made pair)

-- A run's trace is also one that allows readings to fail, as a round's does.
abbrev pub TracesWeaken : Type 0 → Type 0
TracesWeaken MayFail =
    (objects names : History) (old : Repository) (begin : Moment) (commands : List Command)
    (replies : List Reply) (finish : Moment) (new : Repository)
    → (traces : Traces objects names MayFail old begin commands replies finish new)
    → (weaker : Traces objects names (Unit {0}) old begin commands replies finish new)
    × (weaker.moments ≡ traces.moments)

-- A run that ends without a fault in a changing command, for example at the end of its input, is a
-- round without a recovery.
abbrev pub RunsEnd : Type 0
RunsEnd =
    (objects names : History) (old new : Repository) (begin finish : Moment)
    (commands : List Command) (replies : List Reply) (input output : Bytes) (end : End)
    → Runs (Unit {0}) (Unit {0}) old commands replies input output end false new
    → Traces objects names (Unit {0}) old begin commands replies finish new
    → (pair : Pair) → IsPairAt objects names finish pair
    → IsRunOf old (ended_round objects names begin input replies output pair)

-- This holds however a run ends.
abbrev pub RunsHaveWritten : Type 0
RunsHaveWritten =
    ((old new : Repository) (commands : List Command) (replies : List Reply)
    (input output : Bytes) (end : End) (failed : Bool)
    → Runs (Unit {0}) (Unit {0}) old commands replies input output end failed new
    → WritesReplies input commands replies output)
    × ((old new : Repository) (commands : List Command) (replies : List Reply)
    (input output : Bytes) (failed : Bool)
    → EndsReading (Unit {0}) (Unit {0}) old commands replies input output failed new
    → WritesReplies input commands replies output)
    × ((old new : Repository) (commands : List Command) (replies : List Reply)
    (input output : Bytes) (failed : Bool)
    → EndsWriting (Unit {0}) (Unit {0}) old commands replies input output failed new
    → WritesReplies input commands replies output)

-- A run began at the end of the old histories, and the new ones continue them.
pub record GoesOnAt (old_objects old_names objects names : History) (begin : Moment) : Type 0 where
  pub objects_on : GoesOnFrom old_objects objects
  pub names_on : GoesOnFrom old_names names
  pub objects_at : begin.objects ≡ moment old_objects
  pub names_at : begin.names ≡ moment old_names

-- A run from a whole repository, stopped at a pair of its trace and recovered, is a round.
abbrev pub StopsMakeRounds : Type 0 → Type 0
StopsMakeRounds MayFail =
    (kind : Kind) (old_objects old_names objects names : History) (begin finish : Moment)
    (old new : Repository) (commands : List Command) (replies : List Reply) (input rest : Bytes)
    → GoesOnAt old_objects old_names objects names begin
    → StandsWhole kind (pair_now old_objects old_names) old → BeginsWith input commands rest
    → (traces : Traces objects names MayFail old begin commands replies finish new)
    → (pair : Pair) → IsRunPair objects names begin traces.moments pair
    → (made more : List Reply) × (replies ≡ made ++ more)
    × IsRound kind (pair_now old_objects old_names)
    (stopped_round kind objects names begin input made pair)

-- A run that ended without a fault in a changing command is a round without a recovery.
abbrev pub RunsMakeRounds : Type 0 → Type 0
RunsMakeRounds MayFail =
    (kind : Kind) (old_objects old_names objects names : History) (begin finish : Moment)
    (old new : Repository) (commands : List Command) (replies : List Reply)
    (input output : Bytes) (end : End)
    → GoesOnAt old_objects old_names objects names begin
    → StandsWhole kind (pair_now old_objects old_names) old
    → Runs (Unit {0}) (Unit {0}) old commands replies input output end false new
    → Traces objects names MayFail old begin commands replies finish new
    → finish.objects ≡ moment objects → finish.names ≡ moment names
    → IsRound kind (pair_now old_objects old_names)
    (ended_round objects names begin input replies output (pair_now objects names))
