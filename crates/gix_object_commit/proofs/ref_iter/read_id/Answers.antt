use Rattle.std.proofs.Common.{sym, subst}
use Rattle.gix_hash.specs.Id.{id_of}
use Rattle.gix_hash.specs.Views.{IsHexOfId}
use Rattle.gix_object_lines.specs.HexLine.{IsHex}
use Rattle.gix_object_lines.proofs.HexDigits.{is_id_of_hex}
use Rattle.gix_object_commit.proofs.OnePart.{one_id}
use Rattle.gix_object_commit.proofs.ref_iter.read_id.Goals as goal

-- so many hexadecimal digits are always an id's
pub id_of_digits-requires : goal.id_of_digits-requires
id_of_digits-requires c = is_id_of_hex c.args.hash_kind c.in_ok-digits.digits.now (subst (λ n. IsHex n c.in_ok-digits.digits.now) c.len_in_hex.ensures c.in_ok-digits.ensures.read.1)

pub returns-clause-every : goal.returns-clause-every
returns-clause-every c = λ id rest is.
    let same = c.in_ok-digits.ensures.back is.digits rest (subst (λ n. IsHex n is.digits) (sym c.len_in_hex.ensures) is.hex) is.spelled in
    (one_id c.in_ok-digits.digits.now (id_of c.id_of_digits.result) id c.id_of_digits.ensures (subst (λ t. IsHexOfId t id) (sym same.0) is.id_spelled), same.1)
