use Rattle.std.proofs.Common.{◌≡◌, ◌∙◌, refl, sym, subst, List, inl}
use Rattle.gix_hash.specs.Id.{Id}
use Rattle.gix_hash.specs.declared.object_id.ObjectId.{ObjectId}
use Rattle.gix_traverse_commit_known.specs.declared.accept.All.{All}
use Rattle.history_walks.specs.Faults.{as_sorted}
use Rattle.history_walks.specs.Sorted.{StopsSorted}
use Rattle.history_walks.specs.declared.error.WalkError.TheVariants.{Memory}
use Rattle.history_walks.proofs.Walking.{GivenSorted, all_given_sorted, one_more_sorted, stops_sorted, told_error}
use Rattle.history_walks.proofs.sorted.collect_ids.Goals as goal

abbrev goes : All → Id → All → Type 0
goes before id after = after ≡ before

pub walk-preserved : goal.walk-preserved
walk-preserved c =
    let inv = c.walk.invariant in
    let steps = c.in-Some.ensures.steps in
    record {
      can = tt;
      finite = tt;
      parents = steps.parents ∙ inv.parents;
      stands = subst (λ (xs : List ObjectId). GivenSorted goes c.args.walk c.walk.info-iterator c.next.new.self c.walk.ids.items inv.parents xs c.next.new.self) (sym c.in_ok-push.ensures.items)
          (one_more_sorted goes c.args.walk c.walk.info-iterator c.next.new.self c.walk.ids.items inv.parents inv.stands c.in-Some.info c.in_ok-info.field-0 steps c.in_ok-info.was);
    }

pub walk-preserved-in_ok-push : goal.walk-preserved-in_ok-push
walk-preserved-in_ok-push c =
    let inv = c.walk.invariant in
    let steps = c.in-Some.ensures.steps in
    record {
      can = tt;
      finite = tt;
      parents = steps.parents ∙ inv.parents;
      stands = subst (λ (xs : List ObjectId). GivenSorted goes c.args.walk c.walk.info-iterator c.next.new.self c.walk.ids.items inv.parents xs c.next.new.self) (sym c.in_ok-push.ensures.items)
          (one_more_sorted goes c.args.walk c.walk.info-iterator c.next.new.self c.walk.ids.items inv.parents inv.stands c.in-Some.info c.in_ok-info.field-0 steps c.in_ok-info.was);
    }

pub returns-in_err-info-clause-refused : goal.returns-in_err-info-clause-refused
returns-in_err-info-clause-refused c =
    let inv = c.walk.invariant in
    λ sorting rows faults h tips ends begins. told_error (StopsSorted faults h tips ends (c.args.walk).parents) c.from_residual.result (as_sorted c.in_err-info.field-0.0) c.from_residual.ensures.1
    (stops_sorted goes c.args.walk c.walk.info-iterator c.next.new.self c.walk.ids.items inv.parents inv.stands c.in-Some.info c.in_err-info.field-0.0 c.in-Some.ensures.steps c.in_err-info.was sorting rows faults h tips ends begins)

pub returns-in_err-push-clause-refused : goal.returns-in_err-push-clause-refused
returns-in_err-push-clause-refused c =
    λ sorting rows faults h tips ends begins. told_error (StopsSorted faults h tips ends (c.args.walk).parents) c.from_residual-in_err-push.result Memory c.from_residual-in_err-push.ensures.1 (inl refl)

pub returns-clause-lists : goal.returns-clause-lists
returns-clause-lists c =
    let inv = c.walk.invariant in
    all_given_sorted goes c.args.walk c.walk.info-iterator c.next.new.self c.walk.ids.items inv.parents inv.stands c.in-None.ensures.steps
