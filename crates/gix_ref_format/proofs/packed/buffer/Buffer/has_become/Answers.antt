use Rattle.std.proofs.Common.{List, subst}
use Rattle.gix_ref_format.specs.PackedBuffer.{entry_records}
use Rattle.gix_ref_format.specs.PackedText.{IsAround}
use Rattle.gix_ref_format.specs.declared.packed.buffer.Entry.{Entry}
use Rattle.gix_ref_format.proofs.RunLemmas.{joined_is}
use Rattle.gix_ref_format.proofs.packed.buffer.Buffer.has_become.Goals as goal

pub returns : goal.returns
returns c = λ are.
    let name = c.args.gone.now in
    let front = c.around.result.0 in
    let back = c.around.result.1 in
    let around = subst (λ (es : List Entry). IsAround name (entry_records es) (entry_records front.entries.now) (entry_records back.entries.now)) c.run.ensures c.around.ensures in
    joined_is name (entry_records c.args.self.now.entries.items) (entry_records front.entries.now) (entry_records back.entries.now) c.args.bytes.now front.text.now back.text.now around front.ascend back.ascend
    (c.are_joined.ensures are) front.lines back.lines
