use Rattle.std.proofs.Common.{◌+◌, length, arith, ◌++◌, ◌∷◌, cond, ◌≡◌, ◌∙◌, sym, refl, subst, List, [], get_or, Option, Bool, true}
use Rattle.std.specs.Prelude.{Contains}
use Rattle.std.proofs.lemmas.Option.{slice_get-get_or}
use Rattle.gix_hash.specs.Id.{Id, id_of}
use Rattle.gix_hash.specs.declared.object_id.ObjectId.{ObjectId}
use Rattle.gix_hash.specs.declared.object_id.ObjectId.TheVariants.{Sha1}
use Rattle.gix_traverse_commit.specs.Awaited.{AwaitsSome}
use Rattle.gix_traverse_commit_known.specs.Known.{turns_of}
use Rattle.gix_traverse_commit_known.specs.Nodes.{is_hidden, is_met}
use Rattle.gix_traverse_commit_known.specs.Timely.{LetsWait}
use Rattle.gix_traverse_commit_known.specs.Told.{rows_of}
use Rattle.gix_traverse_graph.specs.declared.rows.Row.{Row}
use Rattle.gix_traverse_commit_known.proofs.Chosen.{take_all}
use Rattle.gix_traverse_commit_known.proofs.Keeping.{stays_met}
use Rattle.gix_traverse_graph.specs.Order.{IsListOf}
use Rattle.gix_traverse_commit_known.specs.Meeting.{CountsAll, MarksMet, accepted, IsFresh}
use Rattle.gix_traverse_commit_known.proofs.Meeting.{Fresh, asks_more, counts_accepted, flags_none, flags_step, meets_none, meets_step, parent_met, parent_or_met}
use Rattle.gix_traverse_commit_known.proofs.Awaiting.{accepted_more, of_accepted, to_accepted, waits_none, waits_same}
use Rattle.gix_traverse_commit.proofs.Awaited.{awaits_next, awaits_none, reads_more, reads_none, reads_within, told_over}
use Rattle.gix_traverse_commit.proofs.simple.timed.await_parents.Goals as goal

pub parents-init : goal.parents-init
parents-init g c = record {
  reads = reads_none c.args.source.now;
  met = flags_none (is_met c.args.known.now.nodes) (is_hidden c.args.known.now.nodes);
  some = awaits_none c.args.known.now [];
  once = ([], record { same = refl; asked = refl; timed = refl }, (λ honest h told. waits_none (g.F.Lookup.may_fail c.args.source.now.objects) c.args.since h (turns_of c.args.known.now)), meets_none (is_met c.args.known.now.nodes) (is_hidden c.args.known.now.nodes));
}

pub parents-preserved : goal.parents-preserved
parents-preserved g c =
    let ids : List ObjectId = c.args.parents.now in
    let id : ObjectId = get_or ids c.parents.parent-index (Sha1 []) in
    let here = slice_get-get_or ids c.parents.parent-index (Sha1 []) c.parents-test.true in
    let inv = c.parents.invariant in
    let step = c.in_ok-await_parent.ensures in
    let has = is_met c.parents.known.nodes in
    let has' = is_met c.await_parent.new.known.nodes in
    let hidden = is_hidden c.parents.known.nodes id in
    record {
      reads = reads_more c.parents.parent-index 1 c.args.source.now c.parents.source c.await_parent.new.source inv.reads c.await_parent.ensures.reads;
      met = flags_step (is_met c.args.known.now.nodes) (is_hidden c.args.known.now.nodes) has has' hidden ids c.parents.parent-index id here inv.met (inv.some.painted id) step.met;
      some = awaits_next c.args.known.now c.parents.known c.await_parent.new.known ids c.parents.parent-index id here inv.some step.some;
      once = (let (xs, asks, waits, w) = inv.once in
          let accepts = g.P.Accept.accepts in
          let more : List ObjectId = cond (has id) [] (cond hidden [] (id ∷ [])) in
          let one = subst (λ (o : Option (List Row)). CountsAll (rows_of o) (accepted (accepts c.parents.predicate) more) c.parents.source.lookups c.await_parent.new.source.lookups) inv.reads.rows step.asked.timed in
          let same = subst (λ (p : Id → Bool). CountsAll (rows_of c.args.source.now.rows) (accepted p more) c.parents.source.lookups c.await_parent.new.source.lookups) asks.same one in (
            xs ++ more,
            record {
              same = step.asked.same ∙ asks.same;
              asked = asks_more g.P.Accept.goes xs more c.args.predicate.now c.parents.predicate c.await_parent.new.predicate asks.asked step.asked.asked;
              timed = counts_accepted (rows_of c.args.source.now.rows) (accepts c.args.predicate.now) xs more c.args.source.now.lookups c.parents.source.lookups c.await_parent.new.source.lookups asks.timed same;
            },
            (λ honest h told.
                let there = told_over g.F.Lookup.is_honest g.F.Lookup.may_fail g.F.Lookup.table (λ may_fail h. LetsWait may_fail c.args.since h (Contains (accepted (accepts c.parents.predicate) more)) (turns_of c.parents.known) (turns_of c.await_parent.new.known)) c.args.source.now c.parents.source inv.reads.objects inv.reads.rows step.awaits honest h told in
                let may_fail = g.F.Lookup.may_fail c.args.source.now.objects in
                accepted_more may_fail c.args.since h (accepts c.args.predicate.now) xs more (turns_of c.args.known.now) (turns_of c.parents.known) (turns_of c.await_parent.new.known) (waits honest h told)
                (subst (λ (p : Id → Bool). LetsWait may_fail c.args.since h (Contains (accepted p more)) (turns_of c.parents.known) (turns_of c.await_parent.new.known)) asks.same there)),
            meets_step (is_met c.args.known.now.nodes) (is_hidden c.args.known.now.nodes) has has' hidden ids xs c.parents.parent-index id here w (inv.some.painted id)
                (λ x h. stays_met has has' hidden id x step.met h) (parent_or_met has has' hidden id step.met) (parent_met has has' hidden id step.met),
          ));
    }

pub returns-clause-some : goal.returns-clause-some
returns-clause-some g c = subst (λ (ps : List ObjectId). AwaitsSome c.args.known.now ps c.parents.known) (take_all c.args.parents.now c.parents.parent-index c.parents-test.false) c.parents.invariant.some

pub returns-clause-asked : goal.returns-clause-asked
returns-clause-asked g c =
    let (xs, asks, waits, w) = c.parents.invariant.once in
    (xs, subst (λ (ps : List ObjectId). IsListOf (Fresh (is_met c.args.known.now.nodes) (is_hidden c.args.known.now.nodes) ps) xs) (take_all c.args.parents.now c.parents.parent-index c.parents-test.false) w.list, asks)

pub returns-clause-awaits : goal.returns-clause-awaits
returns-clause-awaits g c = λ honest h told.
    let (xs, asks, waits, w) = c.parents.invariant.once in
    let accepts = g.P.Accept.accepts c.args.predicate.now in
    let has = is_met c.args.known.now.nodes in
    let hides = is_hidden c.args.known.now.nodes in
    let all = take_all c.args.parents.now c.parents.parent-index c.parents-test.false in
    waits_same (g.F.Lookup.may_fail c.args.source.now.objects) c.args.since h (Contains (accepted accepts xs)) (λ x. IsFresh c.args.known.now.nodes c.args.parents.now x × (accepts (id_of x) ≡ true)) (turns_of c.args.known.now) (turns_of c.parents.known)
    (λ x k. let a = of_accepted accepts xs x k in (subst (λ (ps : List ObjectId). Fresh has hides ps x) all ((w.list.each x).0 a.0), a.1))
    (λ x k. to_accepted accepts xs x ((w.list.each x).1 (subst (λ (ps : List ObjectId). Fresh has hides ps x) (sym all) k.0)) k.1)
    (waits honest h told)

pub returns-clause-met : goal.returns-clause-met
returns-clause-met g c = subst (λ (ps : List ObjectId). MarksMet c.args.known.now.nodes ps c.parents.known.nodes) (take_all c.args.parents.now c.parents.parent-index c.parents-test.false) c.parents.invariant.met

pub returns-clause-reads : goal.returns-clause-reads
returns-clause-reads g c = reads_within c.parents.parent-index (length c.args.parents.now) c.args.source.now c.parents.source (omega arith) c.parents.invariant.reads

pub returns-in_err-await_parent-clause-reads : goal.returns-in_err-await_parent-clause-reads
returns-in_err-await_parent-clause-reads g c = reads_within (c.parents.parent-index + 1) (length c.args.parents.now) c.args.source.now c.await_parent.new.source (omega arith) (reads_more c.parents.parent-index 1 c.args.source.now c.parents.source c.await_parent.new.source c.parents.invariant.reads c.await_parent.ensures.reads)
