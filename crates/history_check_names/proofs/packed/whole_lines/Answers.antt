use Rattle.std.proofs.Common.{arith, refl}
use Rattle.history_check_names.proofs.LogPieces.{behind_shorter}
use Rattle.history_check_names.proofs.Returns.{all_counted, count_small, none_counted, one_counted}
use Rattle.history_check_names.proofs.packed.whole_lines.Goals as goal

pub lines-init : goal.lines-init
lines-init c = none_counted c.args.text.now c.args.text.now 0 refl refl

pub overflow_add-count : goal.overflow_add-count
overflow_add-count c = omega (arith, count_small c.args.text.now c.lines.rest.now c.lines.count c.lines.invariant)

pub lines-preserved : goal.lines-preserved
lines-preserved c = one_counted c.args.text.now c.lines.rest.now c.lines.count c.lines.invariant c.in-Some.field-0-0.now c.in-Some.behind.now c.in-Some.ensures.0 c.in-Some.ensures.1

pub lines-smaller : goal.lines-smaller
lines-smaller c = behind_shorter c.lines.rest.now c.in-Some.field-0-0.now c.in-Some.behind.now c.in-Some.ensures.0

pub returns : goal.returns
returns c = all_counted c.args.text.now c.lines.rest.now c.lines.count c.lines.invariant _ _ c.in_default.ensures refl refl
