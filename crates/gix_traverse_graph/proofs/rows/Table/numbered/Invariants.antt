use Rattle.gix_traverse_graph.specs.Numbered.{NumbersBelow}
use Rattle.gix_traverse_graph.proofs.rows.Table.numbered.Given as goal

abbrev pub invariant-rows : goal.invariant-rows
invariant-rows l = NumbersBelow l.row-items l.number l.numbers
