-- What a recovery leaves of a folder's two parts: only those of a repository are changed.
use Rattle.std.specs.Prelude.{◌≡◌, ◌⊎◌, ⊤, ℕ, Result, Err, IfErr, IsErrOf}
use Rattle.gix_hash.specs.declared.kind.Kind.{Kind}
use Rattle.gix_ref_file.specs.Calls.{HasFault}
use Rattle.gix_ref_file.specs.History.{History}
use Rattle.history_model.specs.Recovery.{recovered}
use Rattle.history_repository.specs.Opened.{trees_of}
use Rattle.history_texts.specs.declared.open_error.OpenError.{OpenError}
use Rattle.history_actions.specs.Failures.{IsDone}
use Rattle.history_actions.specs.Looking.{IsForeign, IsRecoverable}
use Rattle.history_actions.specs.declared.failure.Failure.{Failure}
use Rattle.history_actions.specs.declared.failure.Failure.TheVariants.{NotEmpty, Unopened, File, Memory, Read, Write, Ended}

-- the failures that may be returned
abbrev pub IsRecoverFailure : Failure → Type 0
IsRecoverFailure File = ⊤
IsRecoverFailure Memory = ⊤
IsRecoverFailure Write = ⊤
IsRecoverFailure (NotEmpty path) = ⊥
IsRecoverFailure (Unopened cause) = ⊥
IsRecoverFailure Read = ⊥
IsRecoverFailure (Ended end) = ⊥

module _ {F : Type 0} (IsHonest : F → Type 0) (history : F → History) where
  -- They aren't a repository's, for this cause, which holds of them; both are as they were.
  pub record IsRefused {T : Type 0} (MayFail : Type 0) (kind : Kind)
      (objects names objects' names' : F) (answer : Result T Failure) : Type 0 where
    pub cause : OpenError
    pub told : answer ≡ Err (Unopened cause)
    pub same_objects : objects' ≡ objects
    pub same_names : names' ≡ names
    pub holds : IsHonest objects → IsHonest names
        → IsForeign MayFail kind (trees_of history objects names) cause

  -- What is left of two parts, whatever they held, by the result.
  pub record Restores {T : Type 0} (failures : F → ℕ) (MayFail : Type 0) (kind : Kind)
      (objects names objects' names' : F) (answer : Result T Failure) : Type 0 where
    pub honest_objects : IsHonest objects → IsHonest objects'
    pub honest_names : IsHonest names → IsHonest names'
    pub done : IsHonest objects → IsHonest names
        → IsDone answer → trees_of history objects' names'
        ≡ recovered kind (trees_of history objects names)
    -- whatever is returned, what is left recovers to the same
    pub left : IsHonest objects → IsHonest names
        → recovered kind (trees_of history objects' names')
        ≡ recovered kind (trees_of history objects names)
    pub fault : IsHonest objects → IsHonest names → IsErrOf answer File
        → HasFault failures MayFail objects objects' ⊎ HasFault failures MayFail names names'
    pub cause : IfErr answer IsRecoverFailure

  -- They are a repository's, and are recovered, as far as the result says.
  pub record IsRestored {T : Type 0} (failures : F → ℕ) (MayFail : Type 0) (kind : Kind)
      (objects names objects' names' : F) (answer : Result T Failure) : Type 0 where
    pub looked : IsHonest objects → IsHonest names
        → IsRecoverable kind (trees_of history objects names)
    pub restores : Restores failures MayFail kind objects names objects' names' answer

  abbrev pub Recovers : {T : Type 0} → (F → ℕ) → Type 0 → Kind → F → F → F → F → Result T Failure
      → Type 0
  Recovers failures MayFail kind objects names objects' names' answer =
      IsRefused MayFail kind objects names objects' names' answer
      ⊎ IsRestored failures MayFail kind objects names objects' names' answer
