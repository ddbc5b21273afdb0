use Rattle.std.proofs.Common.{◌+◌, ◌*◌, arith, rules}
use Rattle.std.specs.Prelude.{FitsSigned}
use Rattle.std.specs.Int.{w32}
use Rattle.std.proofs.lemmas.Int.{to_z-of_z}
use Rattle.gix_object_lines.proofs.TimeLemmas.{offset_length, no_offset, offset_ahead, offset_behind, neg_read}
use Rattle.gix_object_lines.proofs.lines.digits.read_offset.Goals as goal

pub returns-in_default : goal.returns-in_default
returns-in_default c offset spells = let five = offset_length c.args.text.now offset spells in omega (arith, five)

pub returns-in_default-2 : goal.returns-in_default-2
returns-in_default-2 c offset spells = let five = offset_length c.args.text.now offset spells in omega (arith, five)

pub returns-in_err-amount : goal.returns-in_err-amount
returns-in_err-amount c = rw c.from_residual.ensures (λ offset spells. no_offset c.args.text.now offset c.in_err-amount.ensures spells)

pub returns-in-43 : goal.returns-in-43
returns-in-43 c =
    let small : FitsSigned w32 c.in_ok-amount.amount = search rules in
    offset_ahead c.args.text.now c.in_ok-amount.amount _ (omega (arith, c.in-len5.len_at_least, c.in-len5.len_below)) c.in-43.is c.in_ok-amount.ensures (to_z-of_z w32 _ small)

pub returns-in-45 : goal.returns-in-45
returns-in-45 c =
    let clock = c.in_ok-amount.ensures in
    offset_behind c.args.text.now c.in_ok-amount.amount _ (omega (arith, c.in-len5.len_at_least, c.in-len5.len_below)) c.in-45.is clock
    (neg_read c.in_ok-amount.amount (3600 * clock.hours + 60 * clock.minutes) clock.amount_is (omega (arith, clock.hours_low, clock.minutes_low)))
