use Rattle.std.proofs.Common.{◌≡◌, ◌++◌, map, drop}
use Rattle.gix_ref_format.specs.Packed.{record_of}
use Rattle.gix_ref_format.specs.PackedBuffer.{entry_records}
use Rattle.gix_ref_format.proofs.packed.open.records_of.Given as goal

abbrev pub invariant-loop-entry : goal.invariant-loop-entry
invariant-loop-entry l = map record_of l.records.items ++ entry_records (drop l.entry-index l.entries) ≡ entry_records l.entries
