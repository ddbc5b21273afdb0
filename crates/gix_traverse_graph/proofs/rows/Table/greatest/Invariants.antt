use Rattle.std.proofs.Common.{take}
use Rattle.gix_traverse_graph.specs.Rows.{IsGreatest}
use Rattle.gix_traverse_graph.proofs.rows.Table.greatest.Given as goal

abbrev pub invariant-parents : goal.invariant-parents
invariant-parents l = IsGreatest l.self.rows.items (take l.parent-index l.parents) l.greatest
