use Rattle.gix_ref_format.specs.PackedIter.{items_left}
use Rattle.history_check_names.proofs.ReadSoFar.{IsSoFar}
use Rattle.history_check_names.proofs.packed.Packed.read_plain.Given as goal

-- a file of packed names may have the records so far
abbrev pub invariant-loop-item : goal.invariant-loop-item
invariant-loop-item l =
    (goal.iterator-loop-item).can_next l.left × (goal.iterator-loop-item).is_finite l.left
    × IsSoFar l.fn.kind l.fn.text (items_left l.left) l.records.items l.names.keys l.sorted l.number
