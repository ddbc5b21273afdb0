use Rattle.std.proofs.Common.{◌∙◌, ap, [], Some}
use Rattle.gix_object_tag.specs.OwnedText.{own_parts}
use Rattle.gix_object_tag.specs.TagText.{tag_text}
use Rattle.gix_object_tag.proofs.SigningLemmas.{text_to_sign}
use Rattle.gix_object_tag.proofs.tag.sign.text_to_sign.Goals as goal

pub returns-in-Ok-clause-text : goal.returns-in-Ok-clause-text
returns-in-Ok-clause-text c = λ is.
    let written = rw (c.new.ensures, c.new-text.ensures.items) at c.in-Ok.ensures in
    (written.0, text_to_sign c.args.tag.now _ (written.1 ∙ ap (λ message. tag_text (own_parts (record c.args.tag.now { message = message; pgp_signature = Some [] }))) is))
