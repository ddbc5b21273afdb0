-- What commands did to the files, if the files were changed further since, and commands after
-- others.
use Rattle.std.proofs.Common.{◌≡◌, ◌⊎◌, ℕ, zero, suc, ◌-◌, ◌^◌, ◌<◌, ◌≤◌, ◌≢◌, inl, inr, Bool, true, false, not, ◌&&◌, ◌||◌, List, [], ◌∷◌, ◌++◌, length, refl, sym, ◌∙◌, ap, subst, Contains, IsTrue, slice_get, arith, length-append}
use Rattle.gix_ref_file.specs.Tree.{Tree}
use Rattle.gix_ref_file.specs.History.{History, trees, moment}
use Rattle.gix_ref_file.proofs.Histories.{past_stays}
use Rattle.history_model.specs.Repository.{Repository}
use Rattle.history_model.specs.Commands.{Command}
use Rattle.history_model.specs.Replies.{Reply}
use Rattle.history_model.specs.Places.{Pair}
use Rattle.history_model.specs.Steps.{goes_on, some_failed}
use Rattle.history_model.specs.Moments.{Moment, GoesOnFrom, IsStepPair, ActedOn, ActsOn, last_moment}
use Rattle.history_layout.specs.Passing.{IsWithin, ActsLater, ActsThen}
use Rattle.std.proofs.lemmas.Bool.{or_parts, not-false}

got_before : (xs ys : List Tree) (m : ℕ) → m < length xs → slice_get (xs ++ ys) m ≡ slice_get xs m
got_before [] ys m less = absurd (omega arith)
got_before (x ∷ xs) ys zero less = refl
got_before (x ∷ xs) ys (suc m) less = got_before xs ys m (omega arith)

module _ (old new : History) (on : GoesOnFrom old new) (m : ℕ) (within : m ≤ moment old) where
  at_same : slice_get (trees new) m ≡ slice_get (trees old) m
  at_same = ap (λ ts. slice_get ts m) on.1 ∙ got_before (trees old) on.0 m (omega (arith, length-append old.past (old.tree ∷ [])))

module _ (objects names later_objects later_names : History) (MayFail : Type 0) (on_objects : GoesOnFrom objects later_objects) (on_names : GoesOnFrom names later_names) where
  module _ (old : Repository) (begin : Moment) (command : Command) (reply : Reply) (finish : Moment) (new : Repository) (h : ActedOn objects names MayFail old begin command reply finish new) (within : IsWithin objects names finish) where
    begins : IsWithin objects names begin
    begins = (omega (arith, h.later.0, within.0), omega (arith, h.later.1, within.1))

    back : (pair : Pair) → IsStepPair later_objects later_names begin finish pair → IsStepPair objects names begin finish pair
    back pair (inl (o, n)) = inl (
      subst (λ ts. Contains ts pair.objects) (past_stays objects later_objects on_objects.0 begin.objects finish.objects on_objects.1 within.0) o,
      sym (at_same names later_names on_names begin.names begins.1) ∙ n,
    )
    back pair (inr (o, n)) = inr (
      sym (at_same objects later_objects on_objects finish.objects within.0) ∙ o,
      subst (λ ts. Contains ts pair.names) (past_stays names later_names on_names.0 begin.names finish.names on_names.1 within.1) n,
    )

    pub acted_later : ActedOn later_objects later_names MayFail old begin command reply finish new
    acted_later = record {
      step = h.step;
      later = h.later;
      counts = h.counts;
      uncounted = h.uncounted;
      unchanged = h.unchanged;
      stands = ((h.stands).0, (at_same objects later_objects on_objects finish.objects within.0 ∙ ((h.stands).1).0, at_same names later_names on_names finish.names within.1 ∙ ((h.stands).1).1), (h.stands).2);
      stops = λ pair on. h.stops pair (back pair on);
      failure = h.failure;
    }

  -- each moment is before the last
  reaches_last : (old : Repository) (begin : Moment) (commands : List Command) (replies : List Reply) (moments : List Moment) (new : Repository) → ActsOn objects names MayFail old begin commands replies moments new
      → (begin.objects ≤ (last_moment begin moments).objects) × (begin.names ≤ (last_moment begin moments).names)
  reaches_last old begin [] [] [] new h = (omega arith, omega arith)
  reaches_last old begin (command ∷ commands) (reply ∷ replies) (next ∷ moments) new h =
      let rest = reaches_last h.0 next commands replies moments new h.3 in
      (omega (arith, ((h.1).later).0, rest.0), omega (arith, ((h.1).later).1, rest.1))
  reaches_last old begin [] [] (next ∷ moments) new h = absurd h
  reaches_last old begin [] (reply ∷ replies) moments new h = absurd h
  reaches_last old begin (command ∷ commands) [] moments new h = absurd h
  reaches_last old begin (command ∷ commands) (reply ∷ replies) [] new h = absurd h

  pub all_later : (old : Repository) (begin : Moment) (commands : List Command) (replies : List Reply) (moments : List Moment) (new : Repository) → IsWithin objects names (last_moment begin moments)
      → ActsOn objects names MayFail old begin commands replies moments new → ActsOn later_objects later_names MayFail old begin commands replies moments new
  all_later old begin [] [] [] new within h = h
  all_later old begin (command ∷ commands) (reply ∷ replies) (next ∷ moments) new within h =
      let last = reaches_last h.0 next commands replies moments new h.3 in
      (h.0, acted_later old begin command reply next h.0 h.1 (omega (arith, last.0, within.0), omega (arith, last.1, within.1)), h.2, all_later h.0 next commands replies moments new within h.3)
  all_later old begin [] [] (next ∷ moments) new within h = absurd h
  all_later old begin [] (reply ∷ replies) moments new within h = absurd h
  all_later old begin (command ∷ commands) [] moments new within h = absurd h
  all_later old begin (command ∷ commands) (reply ∷ replies) [] new within h = absurd h

pub acts_later : (MayFail : Type 0) → ActsLater MayFail
acts_later MayFail objects names later_objects later_names old begin commands replies moments new on_objects on_names within h =
    all_later objects names later_objects later_names MayFail on_objects on_names old begin commands replies moments new within h

pub acts_then : (MayFail : Type 0) → ActsThen MayFail
acts_then MayFail objects names old begin [] [] [] mid more others behind new unfailed h k = subst (λ r. ActsOn objects names MayFail r begin more others behind new) h k
acts_then MayFail objects names old begin (command ∷ commands) (reply ∷ replies) (next ∷ moments) mid more others behind new unfailed h k =
    let fails = or_parts (not (goes_on command reply)) (some_failed commands replies) unfailed in
    (h.0, h.1, inl (not-false (goes_on command reply) fails.0), acts_then MayFail objects names h.0 next commands replies moments mid more others behind new fails.1 h.3 k)
acts_then MayFail objects names old begin [] [] (next ∷ moments) mid more others behind new unfailed h k = absurd h
acts_then MayFail objects names old begin [] (reply ∷ replies) moments mid more others behind new unfailed h k = absurd h
acts_then MayFail objects names old begin (command ∷ commands) [] moments mid more others behind new unfailed h k = absurd h
acts_then MayFail objects names old begin (command ∷ commands) (reply ∷ replies) [] mid more others behind new unfailed h k = absurd h
