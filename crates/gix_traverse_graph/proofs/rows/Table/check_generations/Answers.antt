use Rattle.std.proofs.Common.{◌≡◌, ◌+◌, ◌<◌, ◌≤◌, ℕ, List, subst, refl, length, arith}
use Rattle.std.specs.Prelude.{Contains}
use Rattle.gix_hash.specs.declared.object_id.ObjectId.{ObjectId}
use Rattle.gix_traverse_graph.specs.Order.{At}
use Rattle.gix_traverse_graph.specs.Rows.{HasGeneration, IsGreatest}
use Rattle.gix_traverse_graph.specs.declared.rows.Row.{Row}
use Rattle.gix_traverse_graph.proofs.Lists.{contains_from_at}
use Rattle.gix_traverse_graph.proofs.RowLemmas.{at_item, below_and_here, of_all, once_from_numbers, generation_once}
use Rattle.gix_traverse_graph.proofs.rows.Table.check_generations.Goals as goal
use Rattle.gix_traverse_graph.proofs.rows.Table.check_generations.Goals.{then-greatest-ge-GENERATION_LIMIT-via-then-greatest-ge-GENERATION_LIMIT, then-greatest-ge-GENERATION_LIMIT-via-else-greatest-ge-GENERATION_LIMIT+then-row-greatest}

-- the row that a loop reads is one of the rows
item_in : (rows xs : List Row) (i : ℕ) (row : Row) → xs ≡ rows → i < length xs → At xs i row → Contains rows row
item_in rows xs i row e l a = contains_from_at rows i row (subst (λ (ys : List Row). At ys i row) e a)

pub greatest-greatest-requires-clause-rows : goal.greatest-greatest-requires-clause-rows
greatest-greatest-requires-clause-rows c =
    let rows = c.args.self.now.rows.items in
    let row = c.row-item.result in
    let here = item_in rows c.deref-row-items.result.now c.rows.row-index row c.deref-row-items.ensures.value c.rows-test.true (at_item c.deref-row-items.result.now c.rows.row-index row c.rows-test.true c.row-item.is) in
    λ p named. c.requires.parents row here p (subst (λ (ids : List ObjectId). Contains ids p) c.as_slice.ensures named)

pub returns-then-greatest-ge-GENERATION_LIMIT-clause-refused : goal.returns-then-greatest-ge-GENERATION_LIMIT-clause-refused
returns-then-greatest-ge-GENERATION_LIMIT-clause-refused c =
    let rows = c.args.self.now.rows.items in
    let row = c.row-item.result in
    let here = item_in rows c.deref-row-items.result.now c.rows.row-index row c.deref-row-items.ensures.value c.rows-test.true (at_item c.deref-row-items.result.now c.rows.row-index row c.rows-test.true c.row-item.is) in
    let g : IsGreatest rows row.parents.items c.greatest-greatest.result = subst (λ (ids : List ObjectId). IsGreatest rows ids c.greatest-greatest.result) c.as_slice.ensures c.greatest-greatest.ensures in (
      once_from_numbers rows c.args.self.now.numbers c.requires.numbers,
      c.requires.parents,
      (
        row,
        here,
        refl,
        λ h.
            let r = generation_once rows row c.greatest-greatest.result g h in
            elim c.then-greatest-ge-GENERATION_LIMIT.branch [
              | then-greatest-ge-GENERATION_LIMIT-via-then-greatest-ge-GENERATION_LIMIT w ↦ omega arith
              | then-greatest-ge-GENERATION_LIMIT-via-else-greatest-ge-GENERATION_LIMIT+then-row-greatest w ↦ w.if-row-greatest.true r.0
            ],
      ),
    )

pub rows-preserved : goal.rows-preserved
rows-preserved c =
    let rows = c.args.self.now.rows.items in
    let row = c.row-item.result in
    let there : At c.deref-row-items.result.now c.rows.row-index row = at_item c.deref-row-items.result.now c.rows.row-index row c.rows-test.true c.row-item.is in
    let here : At rows c.rows.row-index row = subst (λ (xs : List Row). At xs c.rows.row-index row) c.deref-row-items.ensures.value there in
    let g : IsGreatest rows row.parents.items c.greatest-greatest.result = subst (λ (ids : List ObjectId). IsGreatest rows ids c.greatest-greatest.result) c.as_slice.ensures c.greatest-greatest.ensures in
    let next : row.generation ≡ c.greatest-greatest.result + 1 = c.if-row-greatest.false in
    below_and_here (HasGeneration rows) rows c.rows.row-index row c.rows.invariant here (record { greatest = c.greatest-greatest.result; is_greatest = g; one_more = next; within = omega arith })

pub returns-clause-checked : goal.returns-clause-checked
returns-clause-checked c =
    let rows = c.args.self.now.rows.items in
    of_all (HasGeneration rows) rows c.rows.row-index c.rows.invariant (subst (λ (xs : List Row). length xs ≤ c.rows.row-index) c.deref-row-items.ensures.value c.rows-test.false)
