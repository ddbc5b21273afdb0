use Rattle.std.proofs.Common.{refl}
use Rattle.std.proofs.lemmas.Result.{err_from_is_err_and}
use Rattle.gix_object_signature.specs.Run.{Answers}
use Rattle.gix_object_tag.specs.Signing.{Asked}
use Rattle.gix_object_tag.proofs.SigningLemmas.{not_asked}
use Rattle.gix_object_tag.proofs.tag.sign.signature_over.Goals as goal

pub returns-in_err-text-clause-signed : goal.returns-in_err-text-clause-signed
returns-in_err-text-clause-signed g c = λ is.
    let p = err_from_is_err_and c.from_residual.result c.from_residual.ensures.1 in
    rw (p.1, p.2) (not_asked (Answers g.F.FnMut) _ c.args.tag.now c.args.options.now c.in_err-text.field-0.0 c.in_err-text.ensures.refused)

pub returns-clause-signed : goal.returns-clause-signed
returns-clause-signed g c = λ is.
    let told = c.in_ok-text.ensures.text is in
    Asked told.0 c.in_ok-text.text.items told.1 c.sign.result (rw c.as_slice.ensures.value at c.sign.ensures.signed) refl
