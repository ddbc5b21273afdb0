use Rattle.std.proofs.Common.{◌∙◌, ap}
use Rattle.gix_object_message.specs.Blocks.{blocks_of}
use Rattle.gix_object_message.proofs.BlockLemmas.{blocks_of-nil}
use Rattle.gix_object_message.proofs.blocks.MessageBlocksIterator.next.Goals as goal

pub returns-in_err-block-clause-steps : goal.returns-in_err-block-clause-steps
returns-in_err-block-clause-steps c =
    let none = ap blocks_of c.in_err-block.ensures ∙ blocks_of-nil in
    rw c.from_residual.ensures (none, none)
