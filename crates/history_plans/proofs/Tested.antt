-- Causes that are tested part by part.
use Rattle.std.proofs.Common.{◌≡◌, Bool, List, ◌++◌, sym, ◌∙◌, ap, subst, None, Result, Ok, Err}
use Rattle.std.specs.Prelude.{IsErrAnd}
use Rattle.history_model.specs.Repository.{Repository}
use Rattle.history_model.specs.Commands.{Command}
use Rattle.history_model.specs.Causes.{holds}
use Rattle.history_model.specs.declared.Cause.{Cause}
use Rattle.history_plans.specs.CommitCauses.{first_among, IsToldOf, TestsOf}
use Rattle.history_repository.specs.declared.stopped.Stopped.{Stopped}
use Rattle.history_repository.specs.declared.stopped.Stopped.TheVariants.{Refused, Fault}
use Rattle.history_plans.proofs.FirstCauses.{find_after_none, find_in_front}

module _ (MayFail : Type 0) (r : Repository) (command : Command) where
  abbrev p : Cause → Bool
  p cause = holds cause r command

  pub told_in_front : (front back : List Cause) (stopped : Stopped) → IsToldOf MayFail front r command stopped → IsToldOf MayFail (front ++ back) r command stopped
  told_in_front front back (Refused cause) h = find_in_front p front back cause h
  told_in_front front back (Fault fault) h = h

  pub told_behind : (front back : List Cause) (stopped : Stopped) → first_among front r command ≡ None → IsToldOf MayFail back r command stopped → IsToldOf MayFail (front ++ back) r command stopped
  told_behind front back (Refused cause) none h = find_after_none p front back none ∙ h
  told_behind front back (Fault fault) none h = h

  pub none_joined : (front back : List Cause) → first_among front r command ≡ None → first_among back r command ≡ None → first_among (front ++ back) r command ≡ None
  none_joined front back none more = find_after_none p front back none ∙ more

  -- the whole reports what a part stopped for
  pub stopped_by : {A B : Type 0} (causes more : List Cause) (P : A → Type 0) (Q : B → Type 0) (result : Result A Stopped) (ends : Result B Stopped) (stopped : Stopped) → result ≡ Err stopped → ends ≡ Err stopped
      → (IsToldOf MayFail causes r command stopped → IsToldOf MayFail more r command stopped) → TestsOf MayFail causes r command P result → TestsOf MayFail more r command Q ends
  stopped_by {A} {B} causes more P Q result ends stopped was is_end on tests =
      subst (λ (x : Result B Stopped). TestsOf MayFail more r command Q x) (sym is_end) (on (subst (λ (x : Result A Stopped). TestsOf MayFail causes r command P x) was tests))

  -- a stop that is reported
  pub ends_told : {B : Type 0} (causes : List Cause) (Q : B → Type 0) (ends : Result B Stopped) (stopped : Stopped) → ends ≡ Err stopped → IsToldOf MayFail causes r command stopped → TestsOf MayFail causes r command Q ends
  ends_told {B} causes Q ends stopped is_end told = subst (λ (x : Result B Stopped). TestsOf MayFail causes r command Q x) (sym is_end) told

pub only_error : {A E : Type 0} (result : Result A E) (error : E) → IsErrAnd result (λ e. e ≡ error) → result ≡ Err error
only_error (Ok x) error h = absurd h
only_error (Err e) error h = ap Err h
