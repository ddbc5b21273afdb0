use Rattle.std.proofs.Common.{refl}
use Rattle.std.proofs.lemmas.Result.{err_from_is_err_and}
use Rattle.gix_object_tag.specs.Signing.{NotOwned, Owned}
use Rattle.gix_object_tag.proofs.tag.TagRef.sign.Goals as goal

pub returns-in_err-tag-clause-signed : goal.returns-in_err-tag-clause-signed
returns-in_err-tag-clause-signed g c =
    let p = err_from_is_err_and c.from_residual.result c.from_residual.ensures.1 in
    rw (p.1, p.2) (NotOwned c.in_err-tag.field-0.0 c.in_err-tag.ensures.refused refl refl)

pub returns-in_err-sign-clause-signed : goal.returns-in_err-sign-clause-signed
returns-in_err-sign-clause-signed g c =
    let p = err_from_is_err_and c.from_residual-in_err-sign.result c.from_residual-in_err-sign.ensures.1 in
    rw (p.1, p.2) (Owned c.in_ok-tag.tag c.in_ok-tag.ensures.own c.in_err-sign.ensures.signed)

pub returns-clause-signed : goal.returns-clause-signed
returns-clause-signed g c = Owned c.in_ok-tag.tag c.in_ok-tag.ensures.own c.in_ok-sign.ensures.signed
