use Rattle.std.proofs.Common.{◌∙◌, ap, refl, sym, subst}
use Rattle.gix_hash.specs.Id.{id_of}
use Rattle.gix_hash.specs.Views.{IsHexOfId}
use Rattle.gix_object_lines.specs.HexLine.{IsHex}
use Rattle.gix_object_lines.proofs.HexDigits.{is_id_of_hex}
use Rattle.gix_object_tag.specs.Tokens.{Target}
use Rattle.gix_object_tag.proofs.OnePart.{at_target, one_id}
use Rattle.gix_object_tag.proofs.tag.ref_iter.read_target.Goals as goal

-- so many hexadecimal digits are always an id's
pub id_of_digits-id-requires : goal.id_of_digits-id-requires
id_of_digits-id-requires c = is_id_of_hex c.args.hash_kind c.in_ok-digits.digits.now (subst (λ n. IsHex n c.in_ok-digits.digits.now) c.len_in_hex.ensures c.in_ok-digits.ensures.read.1)

pub returns-in_err-digits-clause-every : goal.returns-in_err-digits-clause-every
returns-in_err-digits-clause-every c = λ part rest is.
    let there = at_target c.args.hash_kind c.args.input.now rest part is in
    absurd (c.in_err-digits.ensures.back there.2.0 rest (subst (λ n. IsHex n there.2.0) (sym c.len_in_hex.ensures) there.2.1.hex) there.2.1.spelled)

pub returns-clause-read : goal.returns-clause-read
returns-clause-read c = (
  refl,
  record {
    digits = c.in_ok-digits.digits.now;
    spelled = record { spelled = c.in_ok-digits.ensures.read.0; hex = subst (λ n. IsHex n c.in_ok-digits.digits.now) c.len_in_hex.ensures c.in_ok-digits.ensures.read.1 };
    id_spelled = c.id_of_digits-id.ensures;
  },
)

pub returns-clause-every : goal.returns-clause-every
returns-clause-every c = λ part rest is.
    let there = at_target c.args.hash_kind c.args.input.now rest part is in
    let same = c.in_ok-digits.ensures.back there.2.0 rest (subst (λ n. IsHex n there.2.0) (sym c.len_in_hex.ensures) there.2.1.hex) there.2.1.spelled in
    let id = one_id c.in_ok-digits.digits.now (id_of c.id_of_digits-id.result) there.0 c.id_of_digits-id.ensures (subst (λ t. IsHexOfId t there.0) (sym same.0) there.2.2) in
    (ap Target id ∙ sym there.1, same.1)
