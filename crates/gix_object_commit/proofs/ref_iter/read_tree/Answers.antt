use Rattle.std.proofs.Common.{◌∙◌, ap, sym}
use Rattle.gix_object_commit.specs.Tokens.{Tree}
use Rattle.gix_object_commit.proofs.Stages.{at_tree}
use Rattle.gix_object_commit.proofs.ref_iter.read_tree.Goals as goal

pub returns-in_err-id-clause-every : goal.returns-in_err-id-clause-every
returns-in_err-id-clause-every c = λ part rest is.
    let tree = at_tree c.args.hash_kind c.args.input.now part rest is in
    absurd (c.in_err-id.ensures.every tree.0 rest tree.2)

pub returns-clause-every : goal.returns-clause-every
returns-clause-every c = λ part rest is.
    let tree = at_tree c.args.hash_kind c.args.input.now part rest is in
    let same = c.in_ok-id.ensures.every tree.0 rest tree.2 in
    (ap Tree same.0 ∙ sym tree.1, same.1)
