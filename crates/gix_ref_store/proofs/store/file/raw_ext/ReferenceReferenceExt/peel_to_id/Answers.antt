use Rattle.std.proofs.Common.{[]}
use Rattle.gix_hash.specs.Id.{id_of}
use Rattle.gix_ref_format.specs.PackedKept.{kept}
use Rattle.gix_ref_store.specs.Peels.{IsPeeled}
use Rattle.gix_ref_store.specs.RefStates.{ref_state, state_among}
use Rattle.gix_ref_store.specs.Stores.{base_of}
use Rattle.gix_ref_store.proofs.Among.{kept_reads, none_reads}
use Rattle.gix_ref_store.proofs.PeelLemmas.{opened_peels}
use Rattle.gix_ref_store.proofs.store.file.raw_ext.ReferenceReferenceExt.peel_to_id.Goals as goal

pub returns-in-Some-clause-peeled : goal.returns-in-Some-clause-peeled
returns-in-Some-clause-peeled g c = λ honest objects.
    let b = base_of c.args.store.now in
    let tree = (g.F.Files.history c.args.store.now.files).tree in
    let table = g.T.Lookup.table c.args.objects.now in
    let keeps = rw c.in-Some.is at (c.in_ok-packed.ensures.kept honest) in
    opened_peels b tree (state_among b tree (kept c.in-Some.packed)) (ref_state b tree) table c.args.self.now c.peel_to_id_packed.result (λ read id. IsPeeled read table c.args.self.now (id_of id))
    (λ i n. kept_reads b tree (kept c.in-Some.packed) n keeps i) (c.peel_to_id_packed.ensures.peeled honest objects)

pub returns-in-None-clause-peeled : goal.returns-in-None-clause-peeled
returns-in-None-clause-peeled g c = λ honest objects.
    let b = base_of c.args.store.now in
    let tree = (g.F.Files.history c.args.store.now.files).tree in
    let table = g.T.Lookup.table c.args.objects.now in
    let keeps = rw c.in-None.is at (c.in_ok-packed.ensures.kept honest) in
    opened_peels b tree (state_among b tree []) (ref_state b tree) table c.args.self.now c.peel_to_id_packed-in-None.result (λ read id. IsPeeled read table c.args.self.now (id_of id))
    (λ i n. none_reads b tree n keeps i) (c.peel_to_id_packed-in-None.ensures.peeled honest objects)
