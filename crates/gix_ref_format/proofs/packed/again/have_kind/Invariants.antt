use Rattle.std.proofs.Common.{drop}
use Rattle.gix_ref_format.specs.PackedBuffer.{entry_records}
use Rattle.gix_ref_format.specs.Written.{AllHaveKind}
use Rattle.gix_ref_format.proofs.packed.again.have_kind.Given as goal

-- what holds of the entries that are left holds of all
abbrev pub invariant-loop-entry : goal.invariant-loop-entry
invariant-loop-entry l = AllHaveKind l.kind (entry_records (drop l.entry-index l.entries)) → AllHaveKind l.kind (entry_records l.entries)
