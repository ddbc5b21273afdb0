use Rattle.std.proofs.Common.{◌≡◌, ◌∙◌, sym, subst, List}
use Rattle.gix_hash.specs.Id.{Id}
use Rattle.gix_hash.specs.declared.object_id.ObjectId.{ObjectId}
use Rattle.gix_traverse_commit_known.specs.declared.accept.All.{All}
use Rattle.gix_traverse_commit.specs.Simply.{graph_of, objects_of}
use Rattle.gix_traverse_commit_known.specs.Told.{rows_of}
use Rattle.history_walks.specs.Faults.{WalkFault, as_walked}
use Rattle.history_walks.specs.declared.error.WalkError.TheVariants.{Memory}
use Rattle.history_walks.proofs.Walking.{Given, all_given, one_more, stops_walk, told_error}
use Rattle.history_walks.proofs.simply.collect_ids.Goals as goal

abbrev goes : All → Id → All → Type 0
goes before id after = after ≡ before

pub walk-preserved : goal.walk-preserved
walk-preserved g c =
    let inv = c.walk.invariant in
    let steps = c.in-Some.ensures.steps in
    record {
      can = tt;
      finite = tt;
      objects = steps.objects ∙ inv.objects;
      rows = steps.rows ∙ inv.rows;
      stands = subst (λ (xs : List ObjectId). Given g.F.Lookup.is_honest g.F.Lookup.may_fail g.F.Lookup.table g.F.Lookup.ids goes c.args.walk c.walk.info-iterator c.next.new.self c.walk.ids.items inv.objects inv.rows xs c.next.new.self) (sym c.in_ok-push.ensures.items)
          (one_more g.F.Lookup.is_honest g.F.Lookup.may_fail g.F.Lookup.table g.F.Lookup.ids goes c.args.walk c.walk.info-iterator c.next.new.self c.walk.ids.items inv.objects inv.rows inv.stands c.in-Some.info c.in_ok-info.field-0 steps c.in_ok-info.was);
    }

pub walk-preserved-in_ok-push : goal.walk-preserved-in_ok-push
walk-preserved-in_ok-push g c =
    let inv = c.walk.invariant in
    let steps = c.in-Some.ensures.steps in
    record {
      can = tt;
      finite = tt;
      objects = steps.objects ∙ inv.objects;
      rows = steps.rows ∙ inv.rows;
      stands = subst (λ (xs : List ObjectId). Given g.F.Lookup.is_honest g.F.Lookup.may_fail g.F.Lookup.table g.F.Lookup.ids goes c.args.walk c.walk.info-iterator c.next.new.self c.walk.ids.items inv.objects inv.rows xs c.next.new.self) (sym c.in_ok-push.ensures.items)
          (one_more g.F.Lookup.is_honest g.F.Lookup.may_fail g.F.Lookup.table g.F.Lookup.ids goes c.args.walk c.walk.info-iterator c.next.new.self c.walk.ids.items inv.objects inv.rows inv.stands c.in-Some.info c.in_ok-info.field-0 steps c.in_ok-info.was);
    }

pub returns-in_err-info-clause-refused : goal.returns-in_err-info-clause-refused
returns-in_err-info-clause-refused g c =
    let inv = c.walk.invariant in
    λ is h told a sure made. told_error (WalkFault (g.F.Lookup.may_fail (objects_of c.args.walk)) (rows_of (graph_of c.args.walk)) (g.F.Lookup.table (objects_of c.args.walk)) h a.tips a.hidden) c.from_residual.result (as_walked c.in_err-info.field-0.0) c.from_residual.ensures.1
    (stops_walk g.F.Lookup.is_honest g.F.Lookup.may_fail g.F.Lookup.table g.F.Lookup.ids goes c.args.walk c.walk.info-iterator c.next.new.self c.walk.ids.items inv.objects inv.rows inv.stands c.in-Some.info c.in_err-info.field-0.0 c.in-Some.ensures.steps c.in_err-info.was is h told a sure made)

pub returns-in_err-push-clause-refused : goal.returns-in_err-push-clause-refused
returns-in_err-push-clause-refused g c =
    λ is h told a sure made. told_error (WalkFault (g.F.Lookup.may_fail (objects_of c.args.walk)) (rows_of (graph_of c.args.walk)) (g.F.Lookup.table (objects_of c.args.walk)) h a.tips a.hidden) c.from_residual-in_err-push.result Memory c.from_residual-in_err-push.ensures.1 tt

pub returns-clause-lists : goal.returns-clause-lists
returns-clause-lists g c =
    let inv = c.walk.invariant in
    all_given g.F.Lookup.is_honest g.F.Lookup.may_fail g.F.Lookup.table g.F.Lookup.ids goes c.args.walk c.walk.info-iterator c.next.new.self c.walk.ids.items inv.objects inv.rows inv.stands c.in-None.ensures.steps
