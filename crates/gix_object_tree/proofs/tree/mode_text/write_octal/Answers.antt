use Rattle.std.proofs.Common.{◌≡◌, ap, subst, ◌<◌, ◌+◌, ◌-◌, ◌/◌, ◌^◌, suc, false, length, drop, arith}
use Rattle.std.specs.Fmt.{digits, digits_onto}
use Rattle.gix_object_tree.proofs.Octals.{drop_all, write_digit, write_last, eighth}
use Rattle.gix_object_tree.proofs.tree.mode_text.write_octal.Goals as goal

pub digits-init : goal.digits-init
unfolding digits
digits-init c =
    let fits = c.ranges.number.fits in
    let told = c.told-bytes in
    let long : 6 ≡ length c.args.bytes.now = omega arith in
    (omega arith, omega arith, omega arith, ap (digits_onto 64 8 false c.args.number) (drop_all c.args.bytes.now 6 long))

pub digits-preserved : goal.digits-preserved
digits-preserved c =
    let at = c.digits.at in
    let test = c.digits-test.true in
    let old = c.digits.invariant in
    let high = old.1 in
    let told = c.told-bytes in
    let before : at ≡ suc (at - 1) = omega arith in
    let within : at - 1 < length c.digits.bytes = omega arith in
    let other = c.if-rest-eq0.false in
    let more : 0 < c.digits.rest / 8 = omega arith in
    let less : c.digits.rest < 8 ^ suc (at - 1) = subst (λ n. c.digits.rest < 8 ^ n) before old.2 in
    let line = subst (λ n. digits_onto (58 + n) 8 false c.digits.rest (drop n c.digits.bytes) ≡ digits 8 false c.args.number) before old.3 in
    (omega arith, omega arith, eighth (at - 1) c.digits.rest less, write_digit (at - 1) c.digits.rest c.args.number c.digits.bytes within line more)

pub returns-clause-digits : goal.returns-clause-digits
returns-clause-digits c =
    let at = c.digits.at in
    let test = c.digits-test.false in
    let old = c.digits.invariant in
    let low = old.0 in
    let told = c.told-bytes in
    let one : at ≡ 1 = omega arith in
    let within : 0 < length c.digits.bytes = omega arith in
    let less : c.digits.rest < 8 = subst (λ n. c.digits.rest < 8 ^ n) one old.2 in
    let line = subst (λ n. digits_onto (58 + n) 8 false c.digits.rest (drop n c.digits.bytes) ≡ digits 8 false c.args.number) one old.3 in
    let last : c.digits.rest / 8 ≡ 0 = omega arith in
    write_last 0 c.digits.rest c.args.number c.digits.bytes within line last
