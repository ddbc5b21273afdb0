use Rattle.std.proofs.Common.{◌≡◌, length}
use Rattle.gix_ref_format.specs.PackedBuffer.{entry_records}
use Rattle.gix_ref_format.specs.PackedText.{ascends}
use Rattle.gix_ref_format.proofs.packed.open.ascend.Given as goal

abbrev pub invariant-entries : goal.invariant-entries
invariant-entries l = ascends (entry_records l.rest) ≡ ascends (entry_records l.entries)

abbrev pub decreases-entries : goal.decreases-entries
decreases-entries l = length l.rest
