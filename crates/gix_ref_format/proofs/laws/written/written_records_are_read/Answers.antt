use Rattle.std.proofs.Common.{map}
use Rattle.gix_ref_format.specs.Packed.{record_of}
use Rattle.gix_ref_format.proofs.ReadBack.{packed_reads}
use Rattle.gix_ref_format.proofs.laws.written.written_records_are_read.Goals as goal

pub returns : goal.returns
returns c = λ all. packed_reads c.args.kind (map record_of c.args.records.now) (c.records_can_stand.ensures all)
