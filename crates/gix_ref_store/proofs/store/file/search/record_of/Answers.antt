use Rattle.std.proofs.Common.{refl, Some, None}
use Rattle.gix_ref_format.specs.Packed.{record_of}
use Rattle.gix_ref_format.specs.PackedKept.{kept}
use Rattle.gix_ref_store.proofs.Among.{told_record}
use Rattle.gix_ref_store.proofs.store.file.search.record_of.Goals as goal

pub returns-in-Some : goal.returns-in-Some
returns-in-Some c = (refl, told_record (kept c.args.packed.now) _ c.args.name (Some (record_of c.in-Some.record)) c.in-Some.ensures c.as_ref.ensures)

pub returns-in-None : goal.returns-in-None
returns-in-None c = told_record (kept c.args.packed.now) _ c.args.name None c.in-None.ensures c.as_ref.ensures
