-- What is noted after the line of a failure: only of a stray file.
use Rattle.std.proofs.Common.{◌≡◌, ℕ, [], Vec, refl}
use Rattle.std.specs.declared.alloc.Global.{Global}
use Rattle.gix_hash.specs.declared.kind.Kind.{Kind}
use Rattle.history_texts.specs.declared.open_error.OpenError.{OpenError}
use Rattle.history_texts.specs.declared.open_error.OpenError.TheVariants.{Stray}
use Rattle.history_actions.specs.Told.{cause_note, failure_note}
use Rattle.history_actions.specs.declared.failure.Failure.{Failure}
use Rattle.history_actions.specs.declared.failure.Failure.TheVariants.{Unopened}

pub of_no_cause : (kind : Kind) (failure : Failure)
    → ((cause : OpenError) → failure ≡ Unopened cause → ⊥) → [] ≡ failure_note kind failure
of_no_cause kind (Unopened cause) other = absurd (other cause refl)
of_no_cause kind _ other = refl

pub of_no_stray : (kind : Kind) (cause : OpenError)
    → ((path : Vec ℕ Global) → cause ≡ Stray path → ⊥) → [] ≡ cause_note kind cause
of_no_stray kind (Stray path) other = absurd (other path refl)
of_no_stray kind _ other = refl
