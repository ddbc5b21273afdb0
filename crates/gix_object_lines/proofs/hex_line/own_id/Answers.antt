use Rattle.std.proofs.Common.{subst, refl}
use Rattle.hex.specs.Hex.{hex_digit_value}
use Rattle.bstr.specs.BStr.{bstr_bytes}
use Rattle.gix_hash.specs.Id.{id_of}
use Rattle.gix_hash.specs.Views.{IsFaultOf, IsHexOfId}
use Rattle.gix_object_lines.proofs.HexDigits.{id_of_spelled, not_refused}
use Rattle.gix_object_lines.proofs.hex_line.own_id.Goals as goal

pub returns-in-Ok-clause-tested : goal.returns-in-Ok-clause-tested
returns-in-Ok-clause-tested c =
    let spelled = subst (λ t. IsHexOfId t (id_of c.in-Ok.id)) c.as_bytes.ensures c.in-Ok.ensures in
    id_of_spelled (bstr_bytes c.args.digits) (id_of c.in-Ok.id) spelled

pub returns-in-Err-clause-refused : goal.returns-in-Err-clause-refused
returns-in-Err-clause-refused c =
    (refl, λ is. not_refused (bstr_bytes c.args.digits) c.in-Err.field-0 is (subst (λ t. IsFaultOf hex_digit_value t c.in-Err.field-0) c.as_bytes.ensures c.in-Err.ensures))
