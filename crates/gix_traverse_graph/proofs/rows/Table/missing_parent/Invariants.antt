use Rattle.std.proofs.Common.{◌<◌, ℕ}
use Rattle.gix_hash.specs.declared.object_id.ObjectId.{ObjectId}
use Rattle.gix_traverse_graph.specs.Order.{At}
use Rattle.gix_traverse_graph.specs.Rows.{Holds}
use Rattle.gix_traverse_graph.proofs.rows.Table.missing_parent.Given as goal

abbrev pub invariant-parents : goal.invariant-parents
invariant-parents l = (k : ℕ) (p : ObjectId) → k < l.parent-index → At l.parent-items k p → Holds l.self.rows.items p
