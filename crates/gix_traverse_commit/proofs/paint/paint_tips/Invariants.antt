use Rattle.std.proofs.Common.{List}
use Rattle.gix_hash.specs.declared.object_id.ObjectId.{ObjectId}
use Rattle.gix_traverse_commit_known.specs.Keeping.{Kept}
use Rattle.gix_traverse_commit_known.specs.Nodes.{is_hidden}
use Rattle.gix_traverse_commit_known.specs.Painting.{IsPainted, every}
use Rattle.gix_traverse_graph.specs.Rows.{AllHeld}
use Rattle.gix_traverse_graph.specs.declared.rows.Row.{Row}
use Rattle.gix_traverse_commit.specs.Awaited.{PaintsOnly}
use Rattle.gix_traverse_commit.proofs.paint.paint_tips.Given as goal

abbrev pub invariant-tips : goal.invariant-tips
invariant-tips l = record {
  only : PaintsOnly l.fn.known l.known;
  painted : IsPainted l.fn.known.nodes l.fn.painted.items → IsPainted l.known.nodes l.painted.items;
  rowed : (rows : List Row) → AllHeld rows l.fn.painted.items → AllHeld rows l.hidden → AllHeld rows l.painted.items;
  walked : (along : ObjectId → List ObjectId) → Kept along l.hidden every (is_hidden l.fn.known.nodes) l.fn.painted.items 0 0
      → Kept along l.hidden every (is_hidden l.known.nodes) l.painted.items 0 l.id-index;
}
