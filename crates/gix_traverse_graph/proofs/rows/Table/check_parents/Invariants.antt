use Rattle.std.proofs.Common.{◌<◌, ℕ}
use Rattle.gix_traverse_graph.specs.declared.rows.Row.{Row}
use Rattle.gix_traverse_graph.specs.Order.{At}
use Rattle.gix_traverse_graph.specs.Rows.{HasParents}
use Rattle.gix_traverse_graph.proofs.rows.Table.check_parents.Given as goal

abbrev pub invariant-rows : goal.invariant-rows
invariant-rows l = (k : ℕ) (row : Row) → k < l.row-index → At l.self.rows.items k row → HasParents l.self.rows.items row
