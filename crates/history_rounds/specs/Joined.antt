-- What a round over two parts is, and one more after others.
use Rattle.std.specs.Prelude.{◌≡◌, ◌⊎◌, ⊤, ℕ, Bool, List, [], ◌∷◌, ◌++◌, Option, Some, None, Result, Ok, Err}
use Rattle.std.specs.Io.KnownBytes.{Appends, Consumes, IsAtEnd}
use Rattle.gix_ref_file.specs.History.{History, HasRisen, moment}
use Rattle.gix_hash.specs.declared.kind.Kind.{Kind}
use Rattle.history_model.specs.Bytes.{Bytes}
use Rattle.history_model.specs.Commands.{Command}
use Rattle.history_model.specs.Replies.{Reply}
use Rattle.history_model.specs.Places.{Pair}
use Rattle.history_model.specs.StandsFor.{StandsWhole}
use Rattle.history_model.specs.Recovery.{recovered}
use Rattle.history_model.specs.Moments.{Moment, GoesOnFrom, last_moment}
use Rattle.history_model.specs.laws.Joining.{IsRunPair}
use Rattle.history_model.specs.Rounds.{Round, IsRound, AreRounds, Outcomes, last_left, stopped_round}
use Rattle.history_model.specs.Joined.{pair_now}
use Rattle.history_model.specs.declared.End.{End}
use Rattle.history_model.specs.Repository as plain
use Rattle.history_repository.specs.Causes.{IsOpenFault}
use Rattle.history_repository.specs.Opened.{trees_of}
use Rattle.history_repository.specs.declared.open_error.OpenRefusal.{OpenRefusal}
use Rattle.history_recovery.specs.declared.recovering.RecoverError.TheVariants.{File}
use Rattle.history.specs.NameFiles.{AllLeaveAsSaid}
use Rattle.history.specs.Runs.{EndsRun, MadeLastReading}
use Rattle.history.specs.declared.running.RunError.{RunError}
use Rattle.history_rounds.specs.declared.rounds.Made.{Made}
use Rattle.history_rounds.specs.declared.rounds.Unmade.{Unmade}
use Rattle.history_rounds.specs.declared.rounds.Unmade.TheVariants.{Unopened, Unrecovered}

-- ---- what is returned

abbrev pub objects_left : {F : Type 0} → Result (Made F) (Unmade F) → F
objects_left (Ok made) = made.objects
objects_left (Err (Unopened refusal)) = refusal.objects
objects_left (Err (Unrecovered made error)) = made.objects

abbrev pub names_left : {F : Type 0} → Result (Made F) (Unmade F) → F
names_left (Ok made) = made.names
names_left (Err (Unopened refusal)) = refusal.names
names_left (Err (Unrecovered made error)) = made.names

-- how the run ended, if there was one
abbrev pub ended_of : {F : Type 0} → Result (Made F) (Unmade F) → Option (Result End RunError)
ended_of (Ok made) = Some made.ended
ended_of (Err (Unopened refusal)) = None
ended_of (Err (Unrecovered made error)) = Some made.ended

abbrev pub IfUnopened : {F : Type 0} → Result (Made F) (Unmade F) → (OpenRefusal F → Type 0) → Type 0
IfUnopened (Err (Unopened refusal)) P = P refusal
IfUnopened _ P = ⊤

-- ---- a round

-- From the end of the old histories, of this repository, a round was made over what was read, which
-- wrote what was written and left a pair. Wherever its run is stopped and what is then left
-- recovered, that is a round too.
pub record IsRoundOver (kind : Kind) (old_objects old_names : History) (r : plain.Repository)
    (Reads Writes : Bytes → Type 0)
    (Ends : plain.Repository → List Command → List Reply → Bytes → Bytes → Bool
    → plain.Repository → Type 0)
    (objects names : History) (left : Pair) : Type 0 where
  pub round : Round
  pub is_round : IsRound kind (pair_now old_objects old_names) round
  pub reads : Reads round.input
  pub writes : Writes round.written
  pub leaves : round.left ≡ left
  -- the commands that its run acted on, and how it ended
  pub commands : List Command
  pub failed : Bool
  pub new : plain.Repository
  pub ends : Ends r commands round.replies round.input round.written failed new
  -- the moments lead from its begin to the end of its run; between two of them each command changed
  -- the files of names as it says
  pub moments : List Moment
  pub covers : ((last_moment round.begin moments).objects ≡ moment round.objects)
      × ((last_moment round.begin moments).names ≡ moment round.names)
  pub files : AllLeaveAsSaid round.names r round.begin commands round.replies moments
  -- its histories are the files' own, which recovery may have added to, and it began at the end of
  -- the old ones
  pub own : GoesOnFrom round.objects objects × GoesOnFrom round.names names
  pub begins_at : (round.begin.objects ≡ moment old_objects)
      × (round.begin.names ≡ moment old_names)
  pub stops : (stop : Pair) → IsRunPair round.objects round.names round.begin moments stop
      → (made more : List Reply) × (round.replies ≡ made ++ more)
      × IsRound kind (pair_now old_objects old_names)
      (stopped_round kind round.objects round.names round.begin round.input made stop)

-- ---- rounds

-- These are rounds from a pair that represents the repository, and leave this one, which represents
-- a whole repository: steps and stops of the plain repository explain, one after another, what each
-- replied, wrote and left.
pub record AreExplained (kind : Kind) (pair : Pair) (rounds : List Round) (r : plain.Repository)
    (left : Pair) : Type 0 where
  pub are_rounds : AreRounds kind pair rounds
  pub leaves : last_left pair rounds ≡ left
  pub new : plain.Repository
  pub outcomes : Outcomes r rounds new
  pub stands : StandsWhole kind left new

-- A round after others, all of which are explained, as it ended and wherever its run is stopped and
-- what is then left recovered.
pub record IsOneMore (kind : Kind) (pair : Pair) (rounds : List Round) (r : plain.Repository)
    (old_objects old_names : History) (Reads Writes : Bytes → Type 0)
    (Ends : plain.Repository → List Command → List Reply → Bytes → Bytes → Bool
    → plain.Repository → Type 0)
    (objects names : History) (left : Pair) : Type 0 where
  pub before : AreExplained kind pair rounds r (pair_now old_objects old_names)
  pub over : IsRoundOver kind old_objects old_names before.new Reads Writes Ends objects names left
  pub all : AreExplained kind pair (rounds ++ over.round ∷ []) r left
  pub stopped : (stop : Pair)
      → IsRunPair over.round.objects over.round.names over.round.begin over.moments stop
      → (made more : List Reply) × (over.round.replies ≡ made ++ more)
      × AreExplained kind pair
      (rounds ++ stopped_round kind over.round.objects over.round.names over.round.begin
      over.round.input made stop ∷ []) r (recovered kind stop)

-- ---- by what is returned

module _ {F R W : Type 0} (history : F → History) (failures : F → ℕ) (MayFail : Type 0)
    (left : R → Option Bytes) (readings : R → ℕ) (contents : W → Option Bytes) (kind : Kind)
    (objects names : F) (reader reader' : R) (writer writer' : W) where
  -- a failed call was counted in one of the parts, or a reading may fail
  abbrev pub HasFailedCall : Made F → Type 0
  HasFailedCall made =
      HasRisen (failures objects) (failures made.objects)
      ⊎ HasRisen (failures names) (failures made.names) ⊎ MayFail

  -- the run ended so, as `run` says
  abbrev pub EndsSo : Made F → plain.Repository → List Command → List Reply → Bytes → Bytes → Bool
      → plain.Repository → Type 0
  EndsSo made r commands replies read written failed new =
      EndsRun (IsAtEnd (left reader')) (MadeLastReading left readings reader reader')
      (HasFailedCall made) r commands replies read written made.ended failed new

  abbrev pub MakesSo : plain.Repository → Made F → Pair → Type 0
  MakesSo r made =
      IsRoundOver kind (history objects) (history names) r (Consumes (left reader) (left reader'))
      (Appends (contents writer) (contents writer')) (EndsSo made)
      (history made.objects) (history made.names)

  -- A round was made; or the parts weren't opened, for a fault; or one was made except for its
  -- recovery, which is to be done again.
  abbrev pub MakesRound : plain.Repository → Result (Made F) (Unmade F) → Type 0
  MakesRound r (Ok made) = MakesSo r made (trees_of history made.objects made.names)
  MakesRound r (Err (Unopened refusal)) = IsOpenFault refusal.error
  MakesRound r (Err (Unrecovered made error)) =
      MakesSo r made (recovered kind (trees_of history made.objects made.names))
      × (error ≡ File → HasFailedCall made)

  abbrev pub GoesOnSo : Pair → List Round → plain.Repository → Made F → Pair → Type 0
  GoesOnSo pair rounds r made =
      IsOneMore kind pair rounds r (history objects) (history names)
      (Consumes (left reader) (left reader')) (Appends (contents writer) (contents writer'))
      (EndsSo made) (history made.objects) (history made.names)

  -- So it goes on after others.
  abbrev pub GoesOn : Pair → List Round → plain.Repository → Result (Made F) (Unmade F) → Type 0
  GoesOn pair rounds r (Ok made) =
      GoesOnSo pair rounds r made (trees_of history made.objects made.names)
  GoesOn pair rounds r (Err (Unopened refusal)) = IsOpenFault refusal.error
  GoesOn pair rounds r (Err (Unrecovered made error)) =
      GoesOnSo pair rounds r made (recovered kind (trees_of history made.objects made.names))
      × (error ≡ File → HasFailedCall made)
