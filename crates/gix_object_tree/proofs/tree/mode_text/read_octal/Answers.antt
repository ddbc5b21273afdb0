use Rattle.std.proofs.Common.{◌<◌, ◌≤◌, ◌+◌, ◌*◌, length, arith, rules}
use Rattle.gix_object_tree.proofs.Octals.{read_large}
use Rattle.gix_object_tree.proofs.tree.mode_text.read_octal.Goals as goal

pub overflow_mul-number : goal.overflow_mul-number
overflow_mul-number c = let small : c.loop-byte.number < 65536 = c.loop-byte.invariant.small in search rules

pub returns-then-number-gt65535 : goal.returns-then-number-gt65535
returns-then-number-gt65535 c =
    let within : c.loop-byte.byte-index < length c.args.text.now = omega arith in
    let above = c.if-number-gt65535.true in
    let large : 65536 ≤ c.loop-byte.number * 8 + c.in_ok-number.field-0 = omega arith in
    λ h. read_large c.args.text.now c.loop-byte.byte-index c.loop-byte.number c.in_ok-number.field-0 0 within c.loop-byte.invariant c.in_ok-number.ensures.0 large
