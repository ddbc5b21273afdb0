use Rattle.std.proofs.Common.{◌∙◌, ◌<◌, ◌∷◌, ap, sym, length, rules}
use Rattle.bstr.specs.BStr.{bstr_bytes}
use Rattle.gix_object_message.specs.Blocks.{blocks_of}
use Rattle.gix_object_message.proofs.BlockLemmas.{block_from, blocks_of_cut}
use Rattle.gix_object_message.proofs.blocks.MessageBlock.split.Goals as goal

pub returns : goal.returns
returns c =
    let some : 0 < length c.args.text.now = search rules in
    let message = c.split_run.result.0.now in
    let trailers = c.split_run-2.result.0.now in
    let rest = c.split_run-2.result.1.now in
    blocks_of_cut c.args.text.now message c.split_run.result.1.now trailers rest some c.split_run.ensures c.split_run-2.ensures
    ∙ ap (λ m. block_from m trailers ∷ blocks_of rest) (sym c.new.ensures)
    ∙ ap (λ t. block_from (bstr_bytes c.new.result) t ∷ blocks_of rest) (sym c.new-2.ensures)
