use Rattle.std.proofs.Common.{take}
use Rattle.gix_traverse_commit_known.specs.Fetching.{LooksUpAtMost}
use Rattle.gix_traverse_commit.specs.Giving.{IsReadBefore}
use Rattle.gix_traverse_commit_known.specs.Meeting.{CountsAll, unmet}
use Rattle.gix_traverse_commit_known.specs.Told.{rows_of}
use Rattle.gix_traverse_commit.proofs.simple.timed.read_times.Given as goal

abbrev pub invariant-tips : goal.invariant-tips
invariant-tips g l = record {
  reads : LooksUpAtMost l.tip-index l.fn.source l.source;
  each : CountsAll (rows_of l.fn.source.rows) (unmet l.known.nodes (take l.tip-index l.tips)) l.fn.source.lookups l.source.lookups;
  told : IsReadBefore (g.F.Lookup.is_honest l.fn.source.objects) (rows_of l.fn.source.rows) (g.F.Lookup.table l.fn.source.objects) l.known.nodes l.tips l.tip-index;
}
