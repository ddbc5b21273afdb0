use Rattle.std.proofs.Common.{◌∙◌, ◌%◌, ◌≡◌, arith}
use Rattle.gix_hash.proofs.DigitsCompared.{even_cmp, odd_cmp}
use Rattle.gix_hash.proofs.prefix.compare_digits.Goals as goal

pub returns-then-count-eq0 : goal.returns-then-count-eq0
returns-then-count-eq0 c =
    c.cmp-order.ensures ∙ even_cmp c.args.bytes.now c.args.candidate.now c.args.count c.if-count-eq0.true

pub returns : goal.returns
returns c =
    let odd : c.args.count % 2 ≡ 1 = omega arith in
    rw (c.then.ensures, c.cmp-order.ensures, c.cmp.ensures)
    (odd_cmp c.args.bytes.now c.args.candidate.now c.args.count odd c.requires.bytes c.requires.candidate)
