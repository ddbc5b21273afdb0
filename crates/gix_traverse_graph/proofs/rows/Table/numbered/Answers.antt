use Rattle.std.proofs.Common.{◌≡◌, ◌<◌, ℕ, List, Some, None, Option, true, false, sym, ◌∙◌, subst, refl}
use Rattle.std.specs.Prelude.{is_some}
use Rattle.std.specs.HashMap.{get}
use Rattle.gix_traverse_graph.specs.Order.{At}
use Rattle.gix_traverse_graph.specs.Numbered.{NumbersBelow, NumberMap, same_id}
use Rattle.gix_traverse_graph.specs.declared.rows.Row.{Row}
use Rattle.gix_traverse_graph.proofs.RowLemmas.{at_item, numbers_push}
use Rattle.gix_traverse_graph.proofs.rows.Table.numbered.Goals as goal

-- a row whose commit has a number is after another of that commit
twice : (rows xs : List Row) (n : ℕ) (m : NumberMap) (row : Row) (o : Option ℕ) → xs ≡ rows → NumbersBelow xs n m → At xs n row → o ≡ get same_id m row.id → is_some o ≡ true → (j : ℕ) × (k : ℕ) × (r : Row) × (s : Row) × (j < k) × At rows j r × At rows k s × (r.id ≡ row.id) × (s.id ≡ row.id)
twice rows xs n m row None e h here got some = let z : ⊥ = cc in absurd z
twice rows xs n m row (Some j) e h here got some =
    let (lt, old) = h.only row.id j (sym got) in
    let (r, a, same) = old in
    (j, n, r, row, lt, subst (λ (ys : List Row). At ys j r) e a, subst (λ (ys : List Row). At ys n row) e here, same, refl)

-- no number before
fresh : (o p : Option ℕ) → o ≡ p → is_some o ≡ false → p ≡ None
fresh None p e f = sym e
fresh (Some j) p e f = let z : ⊥ = cc in absurd z

pub returns-then-is_some-clause-refused : goal.returns-then-is_some-clause-refused
returns-then-is_some-clause-refused c =
    twice c.args.rows.items c.deref-row-items.result.now c.rows.number c.rows.numbers c.row-item.result c.in_ok-before.before c.deref-row-items.ensures.value c.rows.invariant
    (at_item c.deref-row-items.result.now c.rows.number c.row-item.result c.rows-test.true c.row-item.is) c.in_ok-before.ensures.old (sym c.is_some.ensures ∙ c.if-is_some.true)

pub rows-preserved : goal.rows-preserved
rows-preserved c =
    numbers_push c.deref-row-items.result.now c.rows.number c.rows.numbers c.insert.new.self c.row-item.result c.rows.invariant
    (at_item c.deref-row-items.result.now c.rows.number c.row-item.result c.rows-test.true c.row-item.is)
    (fresh c.in_ok-before.before (get same_id c.rows.numbers c.row-item.result.id) c.in_ok-before.ensures.old (sym c.is_some.ensures ∙ c.if-is_some.false)) c.in_ok-before.ensures.updates.0
