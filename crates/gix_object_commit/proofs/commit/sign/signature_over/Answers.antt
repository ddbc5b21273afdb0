use Rattle.std.proofs.Common.{◌∙◌, subst}
use Rattle.std.proofs.lemmas.Result.{err_from_is_err_and}
use Rattle.gix_object_signature.specs.Run.{Answers}
use Rattle.gix_object_signature.specs.Signing.{Signs}
use Rattle.gix_object_commit.proofs.SigningLemmas.{no_text, signed_so, not_signed}
use Rattle.gix_object_commit.proofs.commit.sign.signature_over.Goals as goal

pub returns-in_err-text-clause-refused : goal.returns-in_err-text-clause-refused
returns-in_err-text-clause-refused g c =
    let p = err_from_is_err_and c.from_residual.result c.from_residual.ensures.1 in
    rw (p.1, p.2) (no_text (Answers g.F.FnMut) c.args.runner.now c.args.options.now c.args.commit.now c.in_err-text.field-0.0 c.in_err-text.ensures.refused)

pub returns-clause-made : goal.returns-clause-made
returns-clause-made g c =
    let text = c.as_slice.ensures.value ∙ c.in_ok-text.ensures.text.1 in
    let signs = subst (λ t. Signs (Answers g.F.FnMut) c.args.runner.now t c.args.options.now c.sign.result c.sign.new.runner) text c.sign.ensures.signed in
    signed_so (Answers g.F.FnMut) c.args.runner.now c.args.options.now c.sign.new.runner c.args.commit.now c.in_ok-text.ensures.text.0 c.sign.result signs

pub returns-clause-refused : goal.returns-clause-refused
returns-clause-refused g c =
    let text = c.as_slice.ensures.value ∙ c.in_ok-text.ensures.text.1 in
    let signs = subst (λ t. Signs (Answers g.F.FnMut) c.args.runner.now t c.args.options.now c.sign.result c.sign.new.runner) text c.sign.ensures.signed in
    not_signed (Answers g.F.FnMut) c.args.runner.now c.args.options.now c.sign.new.runner c.args.commit.now c.in_ok-text.ensures.text.0 c.sign.result signs
