-- What a clause reads of bodies and blocks.
use Rattle.std.specs.Prelude.{ℕ, List}
use Rattle.bstr.specs.BStr.{bstr_bytes}
use Rattle.gix_object_message.specs.Blocks.{Block, blocks_of}
use Rattle.gix_object_message.specs.declared.body.BodyRef.{BodyRef}
use Rattle.gix_object_message.specs.declared.blocks.MessageBlock.{MessageBlock}
use Rattle.gix_object_message.specs.declared.blocks.MessageBlocks.{MessageBlocks}

-- the whole body
abbrev pub body_text : BodyRef → List ℕ
body_text body = body.text.now

abbrev pub block_text : MessageBlock → Block
block_text block =
    record { message = bstr_bytes block.message; trailers = bstr_bytes block.trailer_bytes }

-- the blocks that are left
abbrev pub blocks_left : MessageBlocks → List Block
blocks_left blocks = blocks_of blocks.text.now
