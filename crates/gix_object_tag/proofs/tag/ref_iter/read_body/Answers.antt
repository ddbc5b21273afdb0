use Rattle.std.proofs.Common.{◌∙◌, sym, refl}
use Rattle.gix_object_tag.specs.Tokens.{Body}
use Rattle.gix_object_tag.proofs.OnePart.{at_body}
use Rattle.gix_object_tag.proofs.tag.ref_iter.read_body.Goals as goal

pub returns-in_err-message-clause-every : goal.returns-in_err-message-clause-every
returns-in_err-message-clause-every c = λ part rest is.
    let there = at_body c.args._hash_kind c.args.input.now rest part is in
    absurd (c.in_err-message.ensures.every there.0 there.1 there.3)

pub returns-clause-every : goal.returns-clause-every
returns-clause-every c = λ part rest is.
    let there = at_body c.args._hash_kind c.args.input.now rest part is in
    let same = c.in_ok-message.ensures.every there.0 there.1 there.3 in
    ((λ i. Body (same.0 i) (same.1 i)) ∙ sym there.2, sym there.4)

pub returns-clause-read : goal.returns-clause-read
returns-clause-read c = (refl, c.in_ok-message.ensures.read, refl)
