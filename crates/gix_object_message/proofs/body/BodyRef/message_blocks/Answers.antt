use Rattle.std.proofs.Common.{◌∙◌, ap, sym, subst}
use Rattle.gix_object_message.specs.Blocks.{AreBlocks}
use Rattle.gix_object_message.proofs.BlockLemmas.{all_bytes, all_bytes-blocks_of, AreBlocks-blocks_of}
use Rattle.gix_object_message.proofs.body.BodyRef.message_blocks.Goals as goal

pub returns-clause-joined : goal.returns-clause-joined
returns-clause-joined c = ap all_bytes c.new.ensures ∙ all_bytes-blocks_of c.args.self.text.now

pub returns-clause-parted : goal.returns-clause-parted
returns-clause-parted c = subst (AreBlocks _) (sym c.new.ensures) (AreBlocks-blocks_of c.args.self.text.now)
