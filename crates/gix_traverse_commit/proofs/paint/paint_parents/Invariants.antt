use Rattle.std.proofs.Common.{◌≡◌, ℕ, List}
use Rattle.gix_hash.specs.declared.object_id.ObjectId.{ObjectId}
use Rattle.gix_traverse_commit_known.specs.Keeping.{Kept}
use Rattle.gix_traverse_commit_known.specs.Nodes.{is_hidden}
use Rattle.gix_traverse_graph.specs.Order.{At}
use Rattle.gix_traverse_commit_known.specs.Painting.{IsPainted, every}
use Rattle.gix_traverse_graph.specs.Rows.{AllHeld}
use Rattle.gix_traverse_graph.specs.Standing.{Reads}
use Rattle.gix_traverse_graph.specs.declared.rows.Row.{Row}
use Rattle.gix_traverse_commit.specs.Awaited.{PaintsOnly}
use Rattle.gix_traverse_commit.proofs.paint.paint_parents.Given as goal

abbrev pub invariant-parents : goal.invariant-parents
invariant-parents l = record {
  only : PaintsOnly l.fn.known l.known;
  painted : IsPainted l.fn.known.nodes l.fn.painted.items → IsPainted l.known.nodes l.painted.items;
  rowed : (rows : List Row) → AllHeld rows l.fn.painted.items → AllHeld rows l.parents → AllHeld rows l.painted.items;
  longer : (k : ℕ) (x : ObjectId) → At l.fn.painted.items k x → At l.painted.items k x;
  walked : (along : ObjectId → List ObjectId) (tips : List ObjectId) (id : ObjectId) (p : ℕ) → l.parents ≡ along id
      → Kept along tips every (is_hidden l.fn.known.nodes) l.fn.painted.items p 0 → Reads l.fn.painted.items p id
      → Kept along tips every (is_hidden l.known.nodes) l.painted.items p l.parent-index × Reads l.painted.items p id;
}
