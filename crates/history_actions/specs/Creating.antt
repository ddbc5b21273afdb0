-- What making a repository leaves of a folder's two parts.
use Rattle.std.specs.Prelude.{◌≡◌, ◌⊎◌, ⊤, ℕ, Vec, Result, OnErr, IfErr, IsErrOf}
use Rattle.std.specs.declared.alloc.Global.{Global}
use Rattle.gix_hash.specs.declared.kind.Kind.{Kind}
use Rattle.gix_ref_file.specs.Calls.{HasFault}
use Rattle.gix_ref_file.specs.History.{History}
use Rattle.history_model.specs.Places.{unfinished_place}
use Rattle.history_model.specs.Repository.{fresh}
use Rattle.history_model.specs.StandsFor.{StandsFor}
use Rattle.history_repository.specs.Opened.{trees_of}
use Rattle.history_store.specs.Creation.{IsNew, SameHead}
use Rattle.history_store.specs.References.{head_lock}
use Rattle.history_texts.specs.Parts.{IsStrayAt}
use Rattle.history_texts.specs.declared.parts.Part.TheVariants.{Objects, Names}
use Rattle.history_actions.specs.Failures.{IsDone}
use Rattle.history_actions.specs.declared.failure.Failure.{Failure}
use Rattle.history_actions.specs.declared.failure.Failure.TheVariants.{NotEmpty, Unopened, File, Memory, Read, Write, Ended}

-- the failures that may be returned
abbrev pub IsCreateFailure : Failure → Type 0
IsCreateFailure (NotEmpty path) = ⊤
IsCreateFailure File = ⊤
IsCreateFailure Memory = ⊤
IsCreateFailure Write = ⊤
IsCreateFailure (Unopened cause) = ⊥
IsCreateFailure Read = ⊥
IsCreateFailure (Ended end) = ⊥

module _ {F : Type 0} (IsHonest : F → Type 0) (history : F → History) where
  -- the two parts are a repository without names and objects
  pub record IsMade (kind : Kind) (objects names : F) : Type 0 where
    pub new : IsNew (history objects).tree (history names).tree
    pub stands : StandsFor kind (trees_of history objects names) (fresh kind)

  -- This file or folder is in the way of a new repository.
  abbrev pub IsInTheWay : F → F → Vec ℕ Global → Type 0
  IsInTheWay objects names path =
      IsStrayAt Objects unfinished_place path.items (history objects).tree
      ⊎ IsStrayAt Names head_lock path.items (history names).tree

  pub record Creates {T : Type 0} (failures : F → ℕ) (MayFail : Type 0) (kind : Kind)
      (objects names objects' names' : F) (answer : Result T Failure) : Type 0 where
    pub honest_objects : IsHonest objects → IsHonest objects'
    pub honest_names : IsHonest names → IsHonest names'
    pub made : IsHonest objects → IsHonest names
        → IsDone answer → IsMade kind objects' names'
    -- nothing is changed if something is in the way
    pub kept : (path : Vec ℕ Global) → IsErrOf answer (NotEmpty path)
        → (objects' ≡ objects) × (names' ≡ names)
    pub in_the_way : IsHonest objects → IsHonest names → (path : Vec ℕ Global)
        → IsErrOf answer (NotEmpty path) → IsInTheWay objects names path
    -- HEAD comes last: it is as before, or the repository is made
    pub last : IsHonest objects → IsHonest names
        → OnErr answer (SameHead (history names).tree (history names').tree
        ⊎ IsNew (history objects').tree (history names').tree)
    pub fault : IsHonest objects → IsHonest names → IsErrOf answer File
        → HasFault failures MayFail objects objects' ⊎ HasFault failures MayFail names names'
    pub cause : IfErr answer IsCreateFailure
