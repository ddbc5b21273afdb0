use Rattle.std.proofs.Common.{◌+◌, length, arith, ◌++◌, ◌∷◌, cond, sym, refl, subst, List, [], get_or, Option}
use Rattle.std.specs.Prelude.{Contains}
use Rattle.std.proofs.lemmas.Option.{slice_get-get_or}
use Rattle.gix_hash.specs.declared.object_id.ObjectId.{ObjectId}
use Rattle.gix_hash.specs.declared.object_id.ObjectId.TheVariants.{Sha1}
use Rattle.gix_traverse_commit.specs.Awaited.{AwaitsSome}
use Rattle.gix_traverse_commit_known.specs.Known.{turns_of}
use Rattle.gix_traverse_commit_known.specs.Nodes.{is_hidden, is_met}
use Rattle.gix_traverse_commit_known.specs.Timely.{LetsWait}
use Rattle.gix_traverse_commit_known.specs.Told.{rows_of}
use Rattle.gix_traverse_graph.specs.declared.rows.Row.{Row}
use Rattle.gix_traverse_commit_known.proofs.Chosen.{take_all}
use Rattle.gix_traverse_commit_known.proofs.Keeping.{met_more, met_itself}
use Rattle.gix_traverse_commit_known.specs.Meeting.{CountsAll, IsFresh, MarksAll}
use Rattle.gix_traverse_graph.specs.Order.{IsListOf}
use Rattle.gix_traverse_commit_known.proofs.Meeting.{Fresh, all_none, all_step, counts_more, meets_none, meets_step, tip_or_met}
use Rattle.gix_traverse_commit_known.proofs.Awaiting.{waits_more, waits_none, waits_same}
use Rattle.gix_traverse_commit.proofs.Awaited.{awaits_next, awaits_none, reads_more, reads_none, reads_within, told_over}
use Rattle.gix_traverse_commit.proofs.simple.timed.await_tips.Goals as goal

pub tips-init : goal.tips-init
tips-init g c = record {
  reads = reads_none c.args.source.now;
  met = all_none c.args.known.now.nodes;
  some = awaits_none c.args.known.now [];
  timed = ([], refl, (λ honest h told. waits_none (g.F.Lookup.may_fail c.args.source.now.objects) c.args.since h (turns_of c.args.known.now)), meets_none (is_met c.args.known.now.nodes) (is_hidden c.args.known.now.nodes));
}

pub tips-preserved : goal.tips-preserved
tips-preserved g c =
    let ids : List ObjectId = c.args.tips.now in
    let id : ObjectId = get_or ids c.tips.tip-index (Sha1 []) in
    let here = slice_get-get_or ids c.tips.tip-index (Sha1 []) c.tips-test.true in
    let inv = c.tips.invariant in
    let step = c.in_ok-await_tip.ensures in
    record {
      reads = reads_more c.tips.tip-index 1 c.args.source.now c.tips.source c.await_tip.new.source inv.reads c.await_tip.ensures.reads;
      met = all_step c.args.known.now.nodes c.tips.known.nodes c.await_tip.new.known.nodes ids c.tips.tip-index id here inv.met step.met;
      some = awaits_next c.args.known.now c.tips.known c.await_tip.new.known ids c.tips.tip-index id here inv.some step.some;
      timed = (let (xs, counts, waits, w) = inv.timed in
          let has = is_met c.tips.known.nodes in
          let has' = is_met c.await_tip.new.known.nodes in
          let hidden = is_hidden c.tips.known.nodes id in
          let more : List ObjectId = cond (has id) [] (cond hidden [] (id ∷ [])) in
          let one = subst (λ (o : Option (List Row)). CountsAll (rows_of o) more c.tips.source.lookups c.await_tip.new.source.lookups) inv.reads.rows step.timed in (
            xs ++ more,
            counts_more (rows_of c.args.source.now.rows) xs more c.args.source.now.lookups c.tips.source.lookups c.await_tip.new.source.lookups counts one,
            (λ honest h told. waits_more (g.F.Lookup.may_fail c.args.source.now.objects) c.args.since h xs more (turns_of c.args.known.now) (turns_of c.tips.known) (turns_of c.await_tip.new.known) (waits honest h told)
                (told_over g.F.Lookup.is_honest g.F.Lookup.may_fail g.F.Lookup.table (λ may_fail h. LetsWait may_fail c.args.since h (Contains more) (turns_of c.tips.known) (turns_of c.await_tip.new.known)) c.args.source.now c.tips.source inv.reads.objects inv.reads.rows step.awaits honest h told)),
            meets_step (is_met c.args.known.now.nodes) (is_hidden c.args.known.now.nodes) has has' hidden ids xs c.tips.tip-index id here w (inv.some.painted id)
                (λ x h. met_more has has' id x step.met h) (tip_or_met has has' id step.met) (λ _. met_itself has has' id step.met),
          ));
    }

pub returns-clause-some : goal.returns-clause-some
returns-clause-some g c = subst (λ (ts : List ObjectId). AwaitsSome c.args.known.now ts c.tips.known) (take_all c.args.tips.now c.tips.tip-index c.tips-test.false) c.tips.invariant.some

pub returns-clause-timed : goal.returns-clause-timed
returns-clause-timed g c =
    let (xs, counts, waits, w) = c.tips.invariant.timed in
    (xs, subst (λ (ts : List ObjectId). IsListOf (Fresh (is_met c.args.known.now.nodes) (is_hidden c.args.known.now.nodes) ts) xs) (take_all c.args.tips.now c.tips.tip-index c.tips-test.false) w.list, counts)

pub returns-clause-awaits : goal.returns-clause-awaits
returns-clause-awaits g c = λ honest h told.
    let (xs, counts, waits, w) = c.tips.invariant.timed in
    let has = is_met c.args.known.now.nodes in
    let hides = is_hidden c.args.known.now.nodes in
    let all = take_all c.args.tips.now c.tips.tip-index c.tips-test.false in
    waits_same (g.F.Lookup.may_fail c.args.source.now.objects) c.args.since h (Contains xs) (IsFresh c.args.known.now.nodes c.args.tips.now) (turns_of c.args.known.now) (turns_of c.tips.known)
    (λ x k. subst (λ (ts : List ObjectId). Fresh has hides ts x) all ((w.list.each x).0 k))
    (λ x k. (w.list.each x).1 (subst (λ (ts : List ObjectId). Fresh has hides ts x) (sym all) k))
    (waits honest h told)

pub returns-clause-met : goal.returns-clause-met
returns-clause-met g c = subst (λ (ts : List ObjectId). MarksAll c.args.known.now.nodes ts c.tips.known.nodes) (take_all c.args.tips.now c.tips.tip-index c.tips-test.false) c.tips.invariant.met

pub returns-clause-reads : goal.returns-clause-reads
returns-clause-reads g c = reads_within c.tips.tip-index (length c.args.tips.now) c.args.source.now c.tips.source (omega arith) c.tips.invariant.reads

pub returns-in_err-await_tip-clause-reads : goal.returns-in_err-await_tip-clause-reads
returns-in_err-await_tip-clause-reads g c = reads_within (c.tips.tip-index + 1) (length c.args.tips.now) c.args.source.now c.await_tip.new.source (omega arith) (reads_more c.tips.tip-index 1 c.args.source.now c.tips.source c.await_tip.new.source c.tips.invariant.reads c.await_tip.ensures.reads)
