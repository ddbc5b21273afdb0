use Rattle.gix_traverse_graph.proofs.RowLemmas.{once_from_numbers}
use Rattle.gix_traverse_graph.proofs.rows.Table.checked.Goals as goal

pub returns-clause-whole : goal.returns-clause-whole
returns-clause-whole c = record {
  once = once_from_numbers c.in_ok-table.table.rows.items c.in_ok-table.table.numbers c.in_ok-table.ensures.numbers;
  parents = c.in_ok-check_parents.ensures.checked;
  generations = c.in_ok-check_generations.ensures.checked;
}
