use Rattle.std.proofs.Common.{sym}
use Rattle.gix_ref_format.specs.PackedBuffer.{entry_records}
use Rattle.gix_ref_format.proofs.MergeLemmas.{ascend_from}
use Rattle.gix_ref_format.proofs.RunLemmas.{after_first, after_none}
use Rattle.gix_ref_format.proofs.packed.run.Run.after.Goals as goal

pub returns-then-not-is_first : goal.returns-then-not-is_first
returns-then-not-is_first c =
    let xs = c.args.self.entries.now in
    after_none c.args.name.now xs (sym c.if-not-is_first.ensures) c.requires (ascend_from (entry_records xs) c.args.self.ascend)

pub returns : goal.returns
returns c =
    let xs = c.args.self.entries.now in
    after_first c.args.name.now xs c.split_at.result.1.entries.now (sym c.if-not-is_first.ensures) c.split_at.ensures.back (ascend_from (entry_records xs) c.args.self.ascend)
