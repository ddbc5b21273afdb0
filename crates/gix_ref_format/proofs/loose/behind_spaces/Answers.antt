use Rattle.std.proofs.Common.{◌∙◌, sym}
use Rattle.gix_ref_format.proofs.SpaceLemmas.{no_space}
use Rattle.gix_ref_format.proofs.loose.behind_spaces.Goals as goal

pub returns : goal.returns
returns c = sym (c.loop-rest.invariant ∙ no_space c.loop-rest.left.now c.in_default.ensures)
