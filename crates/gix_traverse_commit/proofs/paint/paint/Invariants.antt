use Rattle.std.proofs.Common.{◌≡◌, ℕ, ◌<◌, ◌≤◌, ◌+◌, ◌-◌, length, take}
use Rattle.gix_hash.specs.declared.object_id.ObjectId.{ObjectId}
use Rattle.gix_traverse_graph.specs.Commits.{Commits}
use Rattle.gix_traverse_commit_known.specs.Keeping.{KeptAll}
use Rattle.gix_traverse_commit_known.specs.Nodes.{is_hidden}
use Rattle.gix_traverse_graph.specs.Order.{At}
use Rattle.gix_traverse_commit_known.specs.Painting.{IsPainted, IsUnpainted, every}
use Rattle.gix_traverse_graph.specs.Rows.{AllHeld}
use Rattle.gix_traverse_commit_known.specs.Meeting.{CountsAll}
use Rattle.gix_traverse_commit_known.specs.Asked.{IsKnown}
use Rattle.gix_traverse_commit_known.specs.Told.{AreTold, rows_of}
use Rattle.gix_traverse_commit.specs.Awaited.{PaintsOnly}
use Rattle.gix_traverse_commit.proofs.paint.paint.Given as goal

abbrev pub invariant-painted : goal.invariant-painted
invariant-painted g l = record {
  objects : l.source.objects ≡ l.fn.source.objects;
  rows : l.source.rows ≡ l.fn.source.rows;
  only : PaintsOnly l.fn.known l.known;
  within : l.read ≤ length l.painted.items;
  painted : IsPainted l.known.nodes l.painted.items;
  known : (k : ℕ) (x : ObjectId) → k < l.read → At l.painted.items k x → IsKnown (rows_of l.fn.source.rows) (g.F.Lookup.ids l.fn.source.objects) x;
  rowed : AllHeld (rows_of l.fn.source.rows) l.hidden → AllHeld (rows_of l.fn.source.rows) l.painted.items × (l.source.lookups ≡ l.fn.source.lookups);
  counted : CountsAll (rows_of l.fn.source.rows) (take l.read l.painted.items) l.fn.source.lookups l.source.lookups;
  walked : IsUnpainted l.fn.known.nodes → g.F.Lookup.is_honest l.fn.source.objects → (commits : Commits ObjectId)
      → AreTold (rows_of l.fn.source.rows) (g.F.Lookup.table l.fn.source.objects) commits
      → KeptAll (λ y. (commits y).parents) l.hidden every (is_hidden l.known.nodes) l.painted.items l.read;
}

abbrev pub decreases-painted : goal.decreases-painted
decreases-painted g l = (length (rows_of l.fn.source.rows) + length (g.F.Lookup.ids l.fn.source.objects)) - l.read
