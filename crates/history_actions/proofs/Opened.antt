-- What was opened, by its two parts.
use Rattle.std.proofs.Common.{◌≡◌, Bool, Option, Result, ap₂, subst, sym}
use Rattle.gix_hash.specs.declared.kind.Kind.{Kind}
use Rattle.gix_ref_file.specs.History.{History}
use Rattle.history_model.specs.Bytes.{Bytes}
use Rattle.history_model.specs.Repository as plain
use Rattle.history_model.specs.StandsFor.{StandsWhole}
use Rattle.history_repository.specs.Opened.{trees_of}
use Rattle.history_repository.specs.Face.{names_part, objects_part}
use Rattle.history_repository.specs.Stands.{Stands}
use Rattle.history_repository.specs.declared.repository.Repository.{Repository}
use Rattle.history.specs.declared.running.RunError.{RunError}
use Rattle.history_model.specs.declared.End.{End}
use Rattle.history_actions.specs.Failures.{IsAnswerOf, IsDone}
use Rattle.history_actions.specs.Opening.{AreWhole}
use Rattle.history_actions.specs.Saying.{Says}
use Rattle.history_actions.specs.declared.failure.Failure.{Failure}

-- the repository that was opened is that of the two parts
pub whole_parts : {F : Type 0} (IsHonest : F → Type 0) (history : F → History) (kind : Kind)
    (objects names : F) (opened : Repository F) → objects_part opened ≡ objects
    → names_part opened ≡ names
    → (r : plain.Repository) × (r.kind ≡ kind) × Stands IsHonest history opened r
    → AreWhole IsHonest history kind objects names
whole_parts IsHonest history kind objects names opened same_objects same_names (r, of_kind, stands) =
    let parts = ap₂ (trees_of history) same_objects same_names in (
      r,
      subst (λ k. StandsWhole k (trees_of history objects names) r) of_kind
          (subst (λ pair. StandsWhole r.kind pair r) parts stands.whole),
    )

-- what holds of an answer holds of the same one
pub done_as : {T : Type 0} (a b : Result T Failure) → a ≡ b → IsDone b → IsDone a
done_as a b same done = subst IsDone (sym same) done

pub says_as : {W T : Type 0} (contents : W → Option Bytes) (has_failed : W → Bool) (old new : W)
    (text : Bytes) (a b : Result T Failure) → a ≡ b → Says contents has_failed old new text b
    → Says contents has_failed old new text a
says_as contents has_failed old new text a b same says =
    subst (Says contents has_failed old new text) (sym same) says

pub answer_as : {T : Type 0} (end : Result End RunError) (a b : Result T Failure) → a ≡ b
    → IsAnswerOf end b → IsAnswerOf end a
answer_as end a b same answers = subst (IsAnswerOf end) (sym same) answers
