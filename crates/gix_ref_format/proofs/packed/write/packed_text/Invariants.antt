use Rattle.std.proofs.Common.{◌≡◌, ◌++◌, map, drop}
use Rattle.gix_ref_format.specs.Packed.{record_of}
use Rattle.gix_ref_format.specs.Written as spec
use Rattle.gix_ref_format.proofs.packed.write.packed_text.Given as goal

abbrev pub invariant-loop-record : goal.invariant-loop-record
invariant-loop-record l =
    l.text.items ++ spec.records_text (map record_of (drop l.record-index l.records)) ≡ spec.packed_text (map record_of l.records)
