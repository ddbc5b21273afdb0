use Rattle.std.proofs.Common.{◌∙◌, ap, sym}
use Rattle.gix_object_commit.specs.Tokens.{Parent}
use Rattle.gix_object_commit.proofs.Stages.{at_parent}
use Rattle.gix_object_commit.proofs.ref_iter.read_parent_or_author.Goals as goal

pub returns-in_err-id-clause-every : goal.returns-in_err-id-clause-every
returns-in_err-id-clause-every c = λ part rest is.
    let parent = at_parent c.args.hash_kind c.args.input.now part rest is (c.starts_with.ensures.0 c.if-starts_with.true) in
    absurd (c.in_err-id.ensures.every parent.0 rest parent.2)

pub returns-in_ok-id-clause-every : goal.returns-in_ok-id-clause-every
returns-in_ok-id-clause-every c = λ part rest is.
    let parent = at_parent c.args.hash_kind c.args.input.now part rest is (c.starts_with.ensures.0 c.if-starts_with.true) in
    let same = c.in_ok-id.ensures.every parent.0 rest parent.2 in
    (ap Parent same.0 ∙ sym parent.1, same.1)
