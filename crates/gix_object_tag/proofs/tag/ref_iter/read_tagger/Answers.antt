use Rattle.std.proofs.Common.{◌∙◌, ap, sym}
use Rattle.gix_object_tag.specs.Tokens.{Tagger}
use Rattle.gix_object_tag.proofs.OnePart.{at_tagger}
use Rattle.gix_object_tag.proofs.tag.ref_iter.read_tagger.Goals as goal

pub returns-in_err-tagger-clause-every : goal.returns-in_err-tagger-clause-every
returns-in_err-tagger-clause-every c = λ part rest is.
    let there = at_tagger c.args._hash_kind c.args.input.now rest part is in
    absurd (c.in_err-tagger.ensures.every there.0 rest there.2)

pub returns-clause-every : goal.returns-clause-every
returns-clause-every c = λ part rest is.
    let there = at_tagger c.args._hash_kind c.args.input.now rest part is in
    let same = c.in_ok-tagger.ensures.every there.0 rest there.2 in
    (ap Tagger (same.0) ∙ sym there.1, same.1)
