use Rattle.std.specs.Prelude.{unwrap_or}
use Rattle.gix_ref_store.specs.declared.reference.Reference.{Reference}
use Rattle.gix_ref_store.proofs.store.file.raw_ext.ReferenceReferenceExt.peel_to_id_packed.Goals as goal

pub returns-clause-peeled : goal.returns-clause-peeled
returns-clause-peeled g c = λ honest objects.
    let last : Reference = unwrap_or c.in_ok-id.field-0-1 c.args.self.now in
    (last.name, c.in_ok-id.ensures.peeled honest objects)
