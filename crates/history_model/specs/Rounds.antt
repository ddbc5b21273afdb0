-- Rounds: a run that is stopped or ends, its recovery if it needs one, and then the next run.
use Rattle.std.specs.Prelude.{◌≡◌, ◌⊎◌, Bool, false, ◌||◌, List, [], ◌∷◌, ◌++◌, Option, Some, None, IsTrue}
use Rattle.std.specs.List.{flat_map}
use Rattle.gix_ref_file.specs.History.{History}
use Rattle.history_model.specs.Bytes.{Bytes, begins}
use Rattle.history_model.specs.Repository.{Repository}
use Rattle.history_model.specs.Commands.{Command}
use Rattle.history_model.specs.Spelling.{spelling}
use Rattle.history_model.specs.Grammar.{is_command, HasRestCause}
use Rattle.history_model.specs.Places.{Pair}
use Rattle.history_model.specs.StandsFor.{StandsWhole}
use Rattle.history_model.specs.Recovery.{recovered}
use Rattle.history_model.specs.Replies.{Reply, RefusedFor, Faulted, reply_text}
use Rattle.history_model.specs.Stops.{LeftByStop}
use Rattle.history_model.specs.Steps.{Steps, some_failed}
use Rattle.history_model.specs.Runs.{BeginsWith}
use Rattle.history_model.specs.Moments.{Moment, IsPairAt, IsStepPair, ActedOn, Traces}
use Rattle.gix_hash.specs.declared.kind.Kind.{Kind}
use Rattle.history_model.specs.declared.Cause.{Cause}
use Rattle.history_model.specs.declared.Fault.TheVariants.{Memory}

-- ---- what is written

-- One more reply was written in part; or, if all replies are whole, perhaps the answer to a rest
-- that is no command.
abbrev pub IsCutOff : List Reply → Bytes → Bytes → Type 0
IsCutOff [] rest part = (part ≡ [])
    ⊎ ((cause : Cause) × HasRestCause rest cause
    × IsTrue
    (begins part (reply_text (RefusedFor cause)) || begins part (reply_text (Faulted Memory))))
IsCutOff (reply ∷ []) rest part = IsTrue (begins part (reply_text reply))
IsCutOff _ rest part = ⊥

-- What is written when these replies were made and this rest of the input follows their commands:
-- all replies, the last of them perhaps in part.
pub record HasWritten (replies : List Reply) (rest written : Bytes) : Type 0 where
  pub whole : List Reply
  pub cut : List Reply
  pub part : Bytes
  pub all : replies ≡ whole ++ cut
  pub is : written ≡ flat_map reply_text whole ++ part
  pub cut_off : IsCutOff cut rest part

-- ---- rounds

-- A run from a pair over an input: its replies, what it wrote, and the last pair, at which it was
-- stopped or ended. Then the folder was recovered, and these are the pairs at which recoveries were
-- stopped; or it was left as it was.
pub record Round : Type 0 where
  pub objects : History
  pub names : History
  pub begin : Moment
  pub input : Bytes
  pub replies : List Reply
  pub written : Bytes
  pub last : Pair
  pub recoveries : Option (List Pair)
  pub left : Pair

-- The run is stopped at a pair while it acts on one more command, the first in the rest of the
-- input.
pub record IsStoppedIn (objects names : History) (mid : Repository) (at : Moment) (rest : Bytes)
    (pair : Pair) : Type 0 where
  pub command : Command
  pub more : Bytes
  pub known : IsTrue (is_command command)
  pub comes : rest ≡ spelling command ++ more
  pub reply : Reply
  pub finish : Moment
  pub new : Repository
  pub acted : ActedOn objects names (Unit {0}) mid at command reply finish new
  pub stop : IsStepPair objects names at finish pair

-- A run that isn't recovered has ended, without a fault in a changing command. Any other was
-- stopped, after the commands that it acted on or in one more.
abbrev pub IsLast : Option (List Pair) → Bool → History → History → Repository → Moment → Bytes
    → Pair → Type 0
IsLast None failed objects names mid at rest pair =
    (failed ≡ false) × IsPairAt objects names at pair
IsLast (Some recoveries) failed objects names mid at rest pair =
    IsPairAt objects names at pair ⊎ ((failed ≡ false) × IsStoppedIn objects names mid at rest pair)

-- The run acts on the first commands of its input, as its trace says, writes these replies, and is
-- stopped or ends at the last pair. Every round allows readings to fail.
pub record IsRunOf (old : Repository) (round : Round) : Type 0 where
  pub commands : List Command
  pub rest : Bytes
  pub at : Moment
  pub mid : Repository
  pub splits : BeginsWith round.input commands rest
  pub traces : Traces round.objects round.names
      (Unit {0}) old round.begin commands round.replies at mid
  pub written : HasWritten round.replies rest round.written
  pub last : IsLast round.recoveries
      (some_failed commands round.replies) round.objects round.names mid at rest round.last

-- Each recovery begins where the one before it was stopped, and each pair on the way recovers to
-- the same one.
abbrev pub Recovers : Kind → Pair → List Pair → Pair → Type 0
Recovers kind stopped [] left = left ≡ recovered kind stopped
Recovers kind stopped (pair ∷ recoveries) left =
    (recovered kind pair ≡ recovered kind stopped) × Recovers kind pair recoveries left

-- the pair that is left, by recovery or unchanged
abbrev pub IsLeft : Kind → Pair → Option (List Pair) → Pair → Type 0
IsLeft kind last None left = left ≡ last
IsLeft kind last (Some recoveries) left = Recovers kind last recoveries left

-- what the contracts of a run and of its recovery say about a round that begins at a pair
pub record IsRound (kind : Kind) (pair : Pair) (round : Round) : Type 0 where
  pub begins : IsPairAt round.objects round.names round.begin pair
  pub runs : (old : Repository) → StandsWhole kind pair old → IsRunOf old round
  pub leaves : IsLeft kind round.last round.recoveries round.left

-- Each round begins at the pair that the one before it left.
abbrev pub AreRounds : Kind → Pair → List Round → Type 0
AreRounds kind pair [] = Unit {0}
AreRounds kind pair (round ∷ rounds) = IsRound kind pair round × AreRounds kind round.left rounds

abbrev pub last_left : Pair → List Round → Pair
last_left pair [] = pair
last_left pair (round ∷ rounds) = last_left round.left rounds

-- ---- the outcome of rounds

-- a stop in one more command, the first in the rest of the input, leaves x
pub record IsLeftIn (mid : Repository) (rest : Bytes) (x : Repository) : Type 0 where
  pub command : Command
  pub more : Bytes
  pub known : IsTrue (is_command command)
  pub comes : rest ≡ spelling command ++ more
  pub left : LeftByStop mid command x

-- The repository after a round whose steps end at mid: mid; or, if it was stopped, what a stop in
-- one more command leaves.
abbrev pub Leaves : Option (List Pair) → Bool → Repository → Bytes → Repository → Type 0
Leaves None failed mid rest x = (failed ≡ false) × (x ≡ mid)
Leaves (Some recoveries) failed mid rest x = (x ≡ mid) ⊎ ((failed ≡ false) × IsLeftIn mid rest x)

-- A round's replies are those of steps over the first commands of its input, it wrote these
-- replies, and it leaves x.
pub record IsOutcome (old : Repository) (round : Round) (x : Repository) : Type 0 where
  pub commands : List Command
  pub rest : Bytes
  pub mid : Repository
  pub splits : BeginsWith round.input commands rest
  pub steps : Steps old commands round.replies mid
  pub written : HasWritten round.replies rest round.written
  pub leaves : Leaves round.recoveries (some_failed commands round.replies) mid rest x

-- One after another, the rounds reply and leave what steps and stops of the plain repository do.
abbrev pub Outcomes : Repository → List Round → Repository → Type 0
Outcomes old [] new = new ≡ old
Outcomes old (round ∷ rounds) new =
    (mid : Repository) × IsOutcome old round mid × Outcomes mid rounds new

-- A run over the input, stopped at a pair after these replies were made and written.
abbrev pub stopped_round : Kind → History → History → Moment → Bytes → List Reply → Pair → Round
stopped_round kind objects names begin input replies pair = record {
  objects = objects;
  names = names;
  begin = begin;
  input = input;
  replies = replies;
  written = flat_map reply_text replies;
  last = pair;
  recoveries = Some [];
  left = recovered kind pair;
}

-- A run over the input that ended at a pair, which is left as it is.
abbrev pub ended_round : History → History → Moment → Bytes → List Reply → Bytes → Pair → Round
ended_round objects names begin input replies written pair = record {
  objects = objects;
  names = names;
  begin = begin;
  input = input;
  replies = replies;
  written = written;
  last = pair;
  recoveries = None;
  left = pair;
}

-- A run over the input writes the replies to the commands that it acted on, the last perhaps in
-- part.
abbrev pub WritesReplies : Bytes → List Command → List Reply → Bytes → Type 0
WritesReplies input commands replies output =
    (rest : Bytes) × BeginsWith input commands rest × HasWritten replies rest output
