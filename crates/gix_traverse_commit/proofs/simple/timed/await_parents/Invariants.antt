use Rattle.std.proofs.Common.{List, take}
use Rattle.std.specs.Prelude.{Contains}
use Rattle.gix_hash.specs.declared.object_id.ObjectId.{ObjectId}
use Rattle.gix_traverse_commit_known.specs.Fetching.{LooksUpAtMost}
use Rattle.gix_traverse_commit.specs.Awaited.{AsksTimes, AwaitsSome}
use Rattle.gix_traverse_commit_known.specs.Meeting.{MarksMet, accepted}
use Rattle.gix_traverse_commit_known.specs.Known.{turns_of}
use Rattle.gix_traverse_commit_known.specs.Nodes.{is_hidden, is_met}
use Rattle.gix_traverse_commit_known.specs.Timely.{LetsWait}
use Rattle.gix_traverse_commit_known.specs.Told.{OverTold, rows_of}
use Rattle.gix_traverse_commit_known.proofs.Meeting.{MeetsOnce}
use Rattle.gix_traverse_commit.proofs.simple.timed.await_parents.Given as goal

abbrev pub invariant-parents : goal.invariant-parents
invariant-parents g l = record {
  reads : LooksUpAtMost l.parent-index l.fn.source l.source;
  met : MarksMet l.fn.known.nodes (take l.parent-index l.parents) l.known.nodes;
  some : AwaitsSome l.fn.known (take l.parent-index l.parents) l.known;
  once : (xs : List ObjectId) × AsksTimes g.P.Accept.accepts g.P.Accept.goes (rows_of l.fn.source.rows) xs l.fn.predicate l.fn.source.lookups l.predicate l.source.lookups
      × OverTold g.F.Lookup.is_honest g.F.Lookup.table l.fn.source (λ h. LetsWait (g.F.Lookup.may_fail l.fn.source.objects) l.since h (Contains (accepted (g.P.Accept.accepts l.fn.predicate) xs)) (turns_of l.fn.known) (turns_of l.known))
      × MeetsOnce (is_met l.fn.known.nodes) (is_hidden l.fn.known.nodes) (is_met l.known.nodes) (take l.parent-index l.parents) xs;
}
