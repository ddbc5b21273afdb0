use Rattle.std.proofs.Common.{◌∙◌, ap, sym}
use Rattle.gix_object_tag.specs.Tokens.{TargetKind}
use Rattle.gix_object_tag.proofs.OnePart.{at_kind}
use Rattle.gix_object_tag.proofs.tag.ref_iter.read_target_kind.Goals as goal

pub returns-in_err-kind-clause-every : goal.returns-in_err-kind-clause-every
returns-in_err-kind-clause-every c = λ part rest is.
    let there = at_kind c.args._hash_kind c.args.input.now rest part is in
    absurd (c.in_err-kind.ensures.every there.0 rest there.2)

pub returns-clause-every : goal.returns-clause-every
returns-clause-every c = λ part rest is.
    let there = at_kind c.args._hash_kind c.args.input.now rest part is in
    let same = c.in_ok-kind.ensures.every there.0 rest there.2 in
    (ap TargetKind (same.0) ∙ sym there.1, same.1)
