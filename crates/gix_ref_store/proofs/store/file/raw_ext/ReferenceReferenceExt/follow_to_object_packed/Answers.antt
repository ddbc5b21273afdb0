use Rattle.std.specs.Prelude.{unwrap_or, option_map}
use Rattle.gix_hash.specs.Id.{id_of}
use Rattle.gix_ref_store.specs.declared.reference.Reference.{Reference}
use Rattle.gix_ref_store.proofs.store.file.raw_ext.ReferenceReferenceExt.follow_to_object_packed.Goals as goal

pub returns-clause-followed : goal.returns-clause-followed
returns-clause-followed g c = λ honest.
    let last : Reference = unwrap_or c.in_ok-id.field-0-1 c.args.self.now in
    (last.name, option_map id_of last.peeled, (c.in_ok-id.ensures.followed honest).1)
