use Rattle.std.proofs.Common.{take}
use Rattle.std.specs.List.{AllByRecursion}
use Rattle.gix_ref_format.specs.Packed.{record_of}
use Rattle.gix_ref_format.specs.declared.packed.Reference.{Reference}
use Rattle.history_check_names.specs.Sound.{IsSoundRecord}
use Rattle.history_check_objects.specs.Stored.{facts_in}
use Rattle.history_check_names.proofs.records.test_records.Given as goal

-- the records so far are sound
abbrev pub invariant-loop-entry : goal.invariant-loop-entry
invariant-loop-entry g l = g.F.Files.is_honest l.fn.files
    → AllByRecursion (λ (r : Reference). IsSoundRecord l.kind (facts_in l.fn.stored) (g.F.Files.history l.fn.files).tree (record_of r)) (take l.entry-index l.entry-items)
