use Rattle.std.proofs.Common.{drop}
use Rattle.gix_ref_format.specs.PackedBuffer.{entry_records}
use Rattle.gix_ref_format.specs.PackedText.{AllStand}
use Rattle.gix_ref_format.proofs.laws.written.entries_can_stand.Given as goal

-- what holds of the records that are left holds of all
abbrev pub invariant-loop-entry : goal.invariant-loop-entry
invariant-loop-entry l = AllStand (entry_records (drop l.entry-index l.entries)) → AllStand (entry_records l.entries)
