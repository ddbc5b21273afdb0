use Rattle.std.proofs.Common.{rules, ap, sym, subst, List, length}
use Rattle.std.specs.Prelude.{Contains, IsSome}
use Rattle.gix_hash.specs.declared.object_id.ObjectId.{ObjectId}
use Rattle.gix_traverse_commit.proofs.Awaited.{counts_timed, reads_timed}
use Rattle.gix_traverse_commit_known.specs.Fetching.{LooksUpAtMost}
use Rattle.gix_traverse_commit.specs.Awaited.{times_of}
use Rattle.gix_traverse_commit_known.specs.Meeting.{CountsAll, unmet}
use Rattle.gix_traverse_commit_known.specs.Told.{rows_of}
use Rattle.gix_traverse_graph.specs.Sorting.{timing_of}
use Rattle.gix_traverse_graph.specs.declared.parents.Parents.TheVariants.{All}
use Rattle.gix_traverse_commit.proofs.simple.Simple.read_tips.Goals as goal

pub returns-in_err-read_times-clause-reads : goal.returns-in_err-read_times-clause-reads
returns-in_err-read_times-clause-reads g c =
    let by : IsSome (timing_of All c.args.sorting) = search rules in
    reads_timed (timing_of All c.args.sorting) c.args.self.now.tips.items c.args.self.now.source c.read_times.new.source by (subst (λ (ts : List ObjectId). LooksUpAtMost (length ts) c.args.self.now.source c.read_times.new.source) c.as_slice.ensures.value (let r = c.read_times.ensures.reads in record { objects = r.objects; rows = r.rows; least = r.least; most = r.most }))

pub returns-clause-reads : goal.returns-clause-reads
returns-clause-reads g c =
    let by : IsSome (timing_of All c.args.sorting) = search rules in
    let r = reads_timed (timing_of All c.args.sorting) c.as_slice.result.now c.args.self.now.source (record c.read_times.new.source { buffer = c.replace-content.result }) by (let r = c.read_times.ensures.reads in record { objects = r.objects; rows = r.rows; least = r.least; most = r.most }) in
    subst (λ (ts : List ObjectId). LooksUpAtMost (times_of (timing_of All c.args.sorting) ts) c.args.self.now.source (record c.read_times.new.source { buffer = c.replace-content.result })) c.as_slice.ensures.value r

pub returns-clause-times : goal.returns-clause-times
returns-clause-times g c =
    let by : IsSome (timing_of All c.args.sorting) = search rules in
    let rows = rows_of c.args.self.now.source.rows in
    let nodes = c.args.self.now.known.nodes in
    let before = c.args.self.now.source.lookups in
    let after = c.read_times.new.source.lookups in
    let tips = c.as_slice.ensures.value in
    record {
      content = ap (λ v. v.items) c.replace-content.ensures.value;
      each = counts_timed (timing_of All c.args.sorting) rows (unmet nodes c.args.self.now.tips.items) before after by (subst (λ (ts : List ObjectId). CountsAll rows (unmet nodes ts) before after) tips c.in_ok-read_times.ensures.each);
      told = λ honest _ x k u. c.in_ok-read_times.ensures.told honest x (subst (λ (ts : List ObjectId). Contains ts x) (sym tips) k) u;
    }
