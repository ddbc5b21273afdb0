use Rattle.std.proofs.Common.{◌≡◌, arith, ℕ, ◌+◌, ◌-◌, ◌≤◌, ◌/◌, ◌%◌}
use Rattle.std.specs.Char.{IsNotAsciiDigit}
use Rattle.gix_object_lines.proofs.lines.digits.read_two_digits.Goals as goal
use Rattle.gix_object_lines.proofs.lines.digits.read_two_digits.Goals.{else-is_ascii_digit-via-then-is_ascii_digit+else-is_ascii_digit-2, else-is_ascii_digit-via-else-is_ascii_digit}
use Rattle.gix_object_lines.proofs.TimeLemmas.{two_spelled}

not_digit : (c : ℕ) → IsNotAsciiDigit c → 48 ≤ c → c ≤ 57 → ⊥
not_digit c e low high = grind (arith, e)

pub returns-then-is_ascii_digit-2 : goal.returns-then-is_ascii_digit-2
returns-then-is_ascii_digit-2 c =
    let high = c.if-is_ascii_digit.ensures in
    let low = c.if-is_ascii_digit-2.ensures in
    (omega (arith, high.cases, low.cases), two_spelled c.args.tens c.args.ones high.cases.0 high.cases.1 low.cases.0 low.cases.1)

pub returns-else-is_ascii_digit : goal.returns-else-is_ascii_digit
returns-else-is_ascii_digit c n below spells =
    let tens : c.args.tens ≡ 48 + n / 10 = cc in
    let ones : c.args.ones ≡ 48 + n % 10 = cc in
    elim c.else-is_ascii_digit.branch [
      | else-is_ascii_digit-via-then-is_ascii_digit+else-is_ascii_digit-2 w ↦ not_digit c.args.ones w.if-is_ascii_digit-2.ensures.cases (omega arith) (omega arith)
      | else-is_ascii_digit-via-else-is_ascii_digit w ↦ not_digit c.args.tens w.if-is_ascii_digit.ensures.cases (omega arith) (omega arith)
    ]
