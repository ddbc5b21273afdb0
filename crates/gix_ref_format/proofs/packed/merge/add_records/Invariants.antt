use Rattle.std.proofs.Common.{◌≡◌, ◌++◌, map, length}
use Rattle.gix_ref_format.specs.PackedKept.{records_left}
use Rattle.gix_ref_format.specs.Edited as spec
use Rattle.gix_ref_format.proofs.packed.merge.add_records.Given as goal

abbrev pub invariant-loop-record : goal.invariant-loop-record
invariant-loop-record l =
    spec.lines_of l.lines.items ++ map spec.own_line (records_left l.left) ≡ spec.lines_of l.fn.lines.items ++ map spec.own_line (records_left l.fn.records)

abbrev pub decreases-loop-record : goal.decreases-loop-record
decreases-loop-record l = length (records_left l.left)
