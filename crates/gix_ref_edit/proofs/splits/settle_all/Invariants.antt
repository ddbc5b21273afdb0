use Rattle.std.proofs.Common.{◌≡◌, take, length}
use Rattle.gix_ref_edit.specs.Splits as spec
use Rattle.gix_ref_edit.proofs.splits.settle_all.Given as goal

abbrev pub invariant-loop-i : goal.invariant-loop-i
invariant-loop-i l =
    (l.edits.items ≡ spec.settled_by (take l.i l.marks) l.fn.edits.items)
    × (length l.edits.items ≡ length l.fn.edits.items)
