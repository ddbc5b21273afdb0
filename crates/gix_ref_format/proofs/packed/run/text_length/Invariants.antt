use Rattle.std.proofs.Common.{◌≡◌, ◌+◌, drop, length}
use Rattle.gix_ref_format.specs.PackedBuffer.{entry_records}
use Rattle.gix_ref_format.specs.Written.{records_text}
use Rattle.gix_ref_format.proofs.packed.run.text_length.Given as goal

abbrev pub invariant-loop-entry : goal.invariant-loop-entry
invariant-loop-entry l = l.count + length (records_text (entry_records (drop l.entry-index l.entries))) ≡ length (records_text (entry_records l.entries))
