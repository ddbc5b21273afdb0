-- The result of opening a folder's two parts: a repository to check or to run commands on, or a
-- cause.
use Rattle.std.specs.Prelude.{◌≡◌, ◌⊎◌, ℕ, Bool, true, Option, Result, Ok, Err, IfOk}
use Rattle.std.specs.Io.KnownBytes.{Appends, Consumes, IsAtEnd}
use Rattle.gix_hash.specs.declared.kind.Kind.{Kind}
use Rattle.gix_ref_file.specs.History.{History}
use Rattle.history_model.specs.Bytes.{Bytes}
use Rattle.history_model.specs.Repository as plain
use Rattle.history_model.specs.StandsFor.{StandsWhole}
use Rattle.history_model.specs.declared.End.{End}
use Rattle.history_model.specs.declared.End.TheVariants.{Input}
use Rattle.history_repository.specs.Causes.{IsOpenCause, IsOpenFault}
use Rattle.history_repository.specs.Opened.{trees_of}
use Rattle.history_texts.specs.declared.open_error.OpenError.{OpenError}
use Rattle.history.specs.Runs.{CountsFailure, EndsHere, MadeLastReading, is_fault_end}
use Rattle.history_repository.specs.Face.{has_failed, names_part, objects_part}
use Rattle.history.specs.Moments.{GoesLater, IsTraced}
use Rattle.history_repository.specs.Stands.{RecoversTo, Stands}
use Rattle.history_repository.specs.declared.repository.Repository.{Repository}
use Rattle.history.specs.declared.running.RunError.{RunError}
use Rattle.history.specs.declared.running.RunError.TheVariants as run_errors
use Rattle.history_actions.specs.Failures.{IsAnswerOf, IsDone}
use Rattle.history_actions.specs.declared.answers.Performed.{Performed}
use Rattle.history_actions.specs.declared.failure.Failure.TheVariants.{Unopened}

-- the two parts are returned as they were
pub record KeepsParts {F : Type 0} (objects names : F) (performed : Performed F) : Type 0 where
  pub same_objects : performed.objects ≡ objects
  pub same_names : performed.names ≡ names

module _ {F : Type 0} (IsHonest : F → Type 0) (history : F → History) where
  -- the two parts are those of a repository of this kind, whole
  abbrev pub AreWhole : Kind → F → F → Type 0
  AreWhole kind objects names = (r : plain.Repository)
      × StandsWhole kind (trees_of history objects names) r

  -- They aren't opened, for this cause, which holds of them; if they are a repository's, it is a
  -- fault.
  pub record IsUnopened (MayFail : Type 0) (kind : Kind) (objects names : F)
      (performed : Performed F) : Type 0 where
    pub cause : OpenError
    pub told : performed.answer ≡ Err (Unopened cause)
    pub kept : KeepsParts objects names performed
    pub holds : IsHonest objects → IsHonest names
        → IsOpenCause MayFail kind (trees_of history objects names) cause
    pub fault : IsHonest objects → IsHonest names → AreWhole kind objects names
        → IsOpenFault cause

  -- They are whole, and returned as they were.
  pub record IsWhole (kind : Kind) (objects names : F) (performed : Performed F) : Type 0 where
    pub kept : KeepsParts objects names performed
    pub whole : IsHonest objects → IsHonest names → AreWhole kind objects names
    pub done : IsDone performed.answer

  abbrev pub Checks : Type 0 → Kind → F → F → Performed F → Type 0
  Checks MayFail kind objects names performed =
      IsUnopened MayFail kind objects names performed ⊎ IsWhole kind objects names performed

-- A run over the two parts.
module _ {F R W : Type 0} (IsHonest : F → Type 0) (history : F → History) (failures : F → ℕ)
    (MayFail : Type 0) (left : R → Option Bytes) (readings : R → ℕ) (contents : W → Option Bytes)
  where
    -- It began at this plain repository, acted on commands, read, wrote, and ended so.
    abbrev pub RunsFrom : plain.Repository → Repository F → Repository F → R → R → W → W
        → Result End RunError → Type 0
    RunsFrom r opened ended reader reader' writer writer' end =
        EndsHere (Consumes (left reader) (left reader')) (Appends (contents writer) (contents writer'))
        (Stands IsHonest history ended) (RecoversTo history ended)
        (IsTraced history failures MayFail opened ended r) (IsAtEnd (left reader'))
        (MadeLastReading left readings reader reader') (CountsFailure failures MayFail opened ended)
        r end (has_failed ended)

    -- They were opened, and commands were run on them.
    pub record IsRun (reader_failed : R → Bool) (writer_failed : W → Bool) (kind : Kind)
        (objects names : F) (reader reader' : R) (writer writer' : W) (performed : Performed F)
        : Type 0 where
      pub opened : Repository F
      pub ended : Repository F
      pub end : Result End RunError
      pub told : IsAnswerOf end performed.answer
      pub opened_objects : objects_part opened ≡ objects
      pub opened_names : names_part opened ≡ names
      pub left_objects : performed.objects ≡ objects_part ended
      pub left_names : performed.names ≡ names_part ended
      -- what was opened is the repository of the two parts
      pub whole : IsHonest objects → IsHonest names → AreWhole IsHonest history kind objects names
      pub is_it : (r : plain.Repository) → IsHonest objects → IsHonest names
          → StandsWhole kind (trees_of history objects names) r → Stands IsHonest history opened r
      -- honest parts stay honest, and their histories go on from those before
      pub honest_objects : IsHonest (objects_part opened) → IsHonest (objects_part ended)
      pub honest_names : IsHonest (names_part opened) → IsHonest (names_part ended)
      pub later : (r : plain.Repository) → Stands IsHonest history opened r
          → GoesLater history failures opened ended
      pub runs : (r : plain.Repository) → Stands IsHonest history opened r
          → RunsFrom r opened ended reader reader' writer writer' end
      -- how the run may end
      pub input : end ≡ Ok Input → IsAtEnd (left reader')
      pub read : end ≡ Err run_errors.Read → (reader_failed reader' ≡ true)
          ⊎ MadeLastReading left readings reader reader'
      pub write : end ≡ Err run_errors.Write → writer_failed writer' ≡ true
      pub fault : IfOk end (λ it. has_failed ended ≡ is_fault_end it)

    -- nothing is read or written if they aren't opened
    pub record IsUnrun (kind : Kind) (objects names : F) (reader reader' : R) (writer writer' : W)
        (performed : Performed F) : Type 0 where
      pub unopened : IsUnopened IsHonest history MayFail kind objects names performed
      pub unread : reader' ≡ reader
      pub unwritten : writer' ≡ writer

    abbrev pub RunsOn : (R → Bool) → (W → Bool) → Kind → F → F → R → R → W → W → Performed F → Type 0
    RunsOn reader_failed writer_failed kind objects names reader reader' writer writer' performed =
        IsUnrun kind objects names reader reader' writer writer' performed
        ⊎ IsRun reader_failed writer_failed kind objects names reader reader' writer writer' performed
