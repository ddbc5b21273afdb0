use Rattle.std.proofs.Common.{Some, None, sym}
use Rattle.history_word.specs.LineTable.{items_of}
use Rattle.history_word.specs.Words.{left}
use Rattle.history_word.specs.declared.logs.LogLine.{LogLine}
use Rattle.history_word.proofs.LogLemmas.{no_order, behind_order, no_words, no_parents, behind_parents, no_items, whole_line}
use Rattle.history_word.proofs.logs.LogLine.new.Goals as goal

pub returns-in_err-order : goal.returns-in_err-order
returns-in_err-order c = rw c.from_residual.ensures (no_order (left c.args.words.now) (left c.order.new.words) c.in_err-order.ensures)

pub returns-in_err-next : goal.returns-in_err-next
returns-in_err-next c =
    rw c.from_residual-in_err-next.ensures
    (behind_order (left c.args.words.now) (left c.order.new.words) c.in_ok-order.order None c.in_ok-order.ensures (λ order is. no_words order _ c.in_err-next.ensures.none.0))

pub returns-in_err-first_parents : goal.returns-in_err-first_parents
returns-in_err-first_parents c =
    rw c.from_residual-in_err-first_parents.ensures
    (behind_order (left c.args.words.now) (left c.order.new.words) c.in_ok-order.order None c.in_ok-order.ensures
    (λ order is. no_parents order _ _ _ c.in_ok-next.ensures.found (sym c.in_err-first_parents.ensures)))

pub returns-in_err-items : goal.returns-in_err-items
returns-in_err-items c =
    rw c.from_residual-in_err-items.ensures
    (behind_order (left c.args.words.now) (left c.order.new.words) c.in_ok-order.order None c.in_ok-order.ensures
    (λ order is. behind_parents order _ _ _ c.in_ok-first_parents.first_parents None c.in_ok-next.ensures.found (sym c.in_ok-first_parents.ensures)
    (no_items order c.in_ok-first_parents.first_parents (items_of (left c.next.new.self)) c.in_err-items.ensures)))

pub returns : goal.returns
returns c =
    let line : LogLine = record { order = c.in_ok-order.order; first_parents = c.in_ok-first_parents.first_parents; items = c.in_ok-items.items; paths = c.in_ok-items.paths } in
    behind_order (left c.args.words.now) (left c.order.new.words) c.in_ok-order.order (Some line) c.in_ok-order.ensures
    (λ order is. behind_parents order _ _ _ c.in_ok-first_parents.first_parents (Some line) c.in_ok-next.ensures.found (sym c.in_ok-first_parents.ensures)
    (whole_line order c.in_ok-order.order c.in_ok-first_parents.first_parents c.in_ok-items.items c.in_ok-items.paths (items_of (left c.next.new.self)) is c.in_ok-items.ensures))
