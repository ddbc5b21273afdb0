use Rattle.std.proofs.Common.{◌≡◌}
use Rattle.gix_ref_format.specs.PackedBuffer.{entry_records}
use Rattle.gix_ref_format.specs.PackedIter.{items_left}
use Rattle.gix_ref_format.proofs.GatherLemmas.{gathered}
use Rattle.gix_ref_format.proofs.packed.open.gather.Given as goal

abbrev pub invariant-loop-item : goal.invariant-loop-item
invariant-loop-item l =
    (goal.iterator-loop-item).can_next l.left × (goal.iterator-loop-item).is_finite l.left
    × (items_left l.fn.records ≡ gathered (entry_records l.entries.items) (items_left l.left))
