use Rattle.std.proofs.Common.{◌≤◌, List, subst, refl, length}
use Rattle.gix_traverse_graph.specs.Order.{At}
use Rattle.gix_traverse_graph.specs.Rows.{HasParents}
use Rattle.gix_traverse_graph.specs.declared.rows.Row.{Row}
use Rattle.gix_traverse_graph.proofs.Lists.{contains_from_at}
use Rattle.gix_traverse_graph.proofs.RowLemmas.{at_item, below_and_here, of_all, once_from_numbers}
use Rattle.gix_traverse_graph.proofs.rows.Table.check_parents.Goals as goal

pub returns-in-Some-clause-refused : goal.returns-in-Some-clause-refused
returns-in-Some-clause-refused c =
    let rows = c.args.self.now.rows.items in
    let there : At c.deref-row-items.result.now c.rows.row-index c.row-item.result = at_item c.deref-row-items.result.now c.rows.row-index c.row-item.result c.rows-test.true c.row-item.is in
    let here : At rows c.rows.row-index c.row-item.result = subst (λ (xs : List Row). At xs c.rows.row-index c.row-item.result) c.deref-row-items.ensures.value there in
    (once_from_numbers rows c.args.self.now.numbers c.requires, (c.row-item.result, contains_from_at rows c.rows.row-index c.row-item.result here, refl, c.in-Some.ensures.missing))

pub rows-preserved : goal.rows-preserved
rows-preserved c =
    let rows = c.args.self.now.rows.items in
    let there : At c.deref-row-items.result.now c.rows.row-index c.row-item.result = at_item c.deref-row-items.result.now c.rows.row-index c.row-item.result c.rows-test.true c.row-item.is in
    let here : At rows c.rows.row-index c.row-item.result = subst (λ (xs : List Row). At xs c.rows.row-index c.row-item.result) c.deref-row-items.ensures.value there in
    below_and_here (HasParents rows) rows c.rows.row-index c.row-item.result c.rows.invariant here c.in_default.ensures.none

pub returns-clause-checked : goal.returns-clause-checked
returns-clause-checked c =
    let rows = c.args.self.now.rows.items in
    of_all (HasParents rows) rows c.rows.row-index c.rows.invariant (subst (λ (xs : List Row). length xs ≤ c.rows.row-index) c.deref-row-items.ensures.value c.rows-test.false)
