use Rattle.std.proofs.Common.{◌∙◌, ap, sym, subst, Ok, Some}
use Rattle.std.proofs.lemmas.Result.{err_from_is_err_and}
use Rattle.gix_object_signature.specs.Run.{Answers}
use Rattle.gix_object_tag.specs.Signing.{SignsTag}
use Rattle.gix_object_tag.proofs.tag.owned.Tag.sign.Goals as goal

pub returns-in_err-signature-clause-signed : goal.returns-in_err-signature-clause-signed
returns-in_err-signature-clause-signed g c =
    let p = err_from_is_err_and c.from_residual-in_err-signature.result c.from_residual-in_err-signature.ensures.1 in
    rw (p.1, p.2) (c.in_err-signature.ensures.signed (c.as_bstr.ensures ∙ c.in_ok-message.ensures))

pub returns-clause-signed : goal.returns-clause-signed
returns-clause-signed g c =
    let tag = c.args.self.now in
    let same = ap Ok (c.put_signature.ensures ∙ ap (λ message. record tag { message = message; pgp_signature = Some c.in_ok-signature.signature }) c.in_ok-message.ensures) in
    subst (λ left. SignsTag (Answers g.F.FnMut) c.args.runner.now tag c.args.options.now left c.signature_over.new.runner) (sym same)
    (c.in_ok-signature.ensures.signed (c.as_bstr.ensures ∙ c.in_ok-message.ensures))
