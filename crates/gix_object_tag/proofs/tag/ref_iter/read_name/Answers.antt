use Rattle.std.proofs.Common.{◌∙◌, ap, sym}
use Rattle.gix_object_tag.specs.Tokens.{Name}
use Rattle.gix_object_tag.proofs.OnePart.{at_name}
use Rattle.gix_object_tag.proofs.tag.ref_iter.read_name.Goals as goal

pub returns-in_err-name-clause-every : goal.returns-in_err-name-clause-every
returns-in_err-name-clause-every c = λ part rest is.
    let there = at_name c.args._hash_kind c.args.input.now rest part is in
    absurd (c.in_err-name.ensures.every there.0 rest there.2)

pub returns-clause-every : goal.returns-clause-every
returns-clause-every c = λ part rest is.
    let there = at_name c.args._hash_kind c.args.input.now rest part is in
    let same = c.in_ok-name.ensures.every there.0 rest there.2 in
    (ap Name (c.new.ensures ∙ same.0) ∙ sym there.1, same.1)
