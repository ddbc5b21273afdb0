use Rattle.std.proofs.Common.{map, drop}
use Rattle.gix_ref_format.specs.Packed.{record_of}
use Rattle.gix_ref_format.specs.Written.{AreRecordsOf, AllHaveKind}
use Rattle.gix_ref_format.proofs.laws.written.records_can_stand.Given as goal

-- what holds of the records that are left holds of all
abbrev pub invariant-loop-record : goal.invariant-loop-record
invariant-loop-record l =
    (AllHaveKind l.fn.kind (map record_of l.records) → AllHaveKind l.fn.kind (map record_of (drop l.record-index l.records)))
    × ((AllHaveKind l.fn.kind (map record_of l.records) → AreRecordsOf l.fn.kind (map record_of (drop l.record-index l.records)))
    → AllHaveKind l.fn.kind (map record_of l.records) → AreRecordsOf l.fn.kind (map record_of l.records))
