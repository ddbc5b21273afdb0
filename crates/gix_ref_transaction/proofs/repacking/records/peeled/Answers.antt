use Rattle.std.proofs.Common.{◌∙◌, refl, sym, subst, None}
use Rattle.gix_hash.specs.Id.{Id, id_of}
use Rattle.gix_hash.specs.OrderLaws.{id_eq-same}
use Rattle.gix_ref_name.specs.declared.target.Target.TheVariants.{Object}
use Rattle.gix_ref_store.specs.Lookups.{reads_with}
use Rattle.gix_ref_store.specs.Peels.{PeelsTo}
use Rattle.gix_ref_transaction.proofs.RecordLines.{peels_own}
use Rattle.std.proofs.lemmas.Result.{err_from_is_err_and}
use Rattle.gix_ref_transaction.proofs.Unresolved.{lost_own}
use Rattle.gix_ref_transaction.proofs.repacking.records.peeled.Goals as goal

pub returns-then-eq-clause-said : goal.returns-then-eq-clause-said
returns-then-eq-clause-said g c = λ honest told.
    let end = id_of c.in_ok-end.end in
    let id = id_of c.args.id in
    let table = g.O.Lookup.table c.args.objects.now in
    let read = reads_with c.args.store.now (g.F.Files.history c.args.store.now.files).tree None in
    let to = peels_own read table (record { name = c.args.name; target = Object c.args.id; peeled = None }) id end refl refl (c.in_ok-end.ensures.peeled honest told) in
    subst (λ (i : Id). PeelsTo table id i) (id_eq-same end id (sym c.eq.ensures ∙ c.if-eq.true)) to

pub returns-in_err-end-clause-resolves : goal.returns-in_err-end-clause-resolves
returns-in_err-end-clause-resolves g c = λ honest told.
    let table = g.O.Lookup.table c.args.objects.now in
    let read = reads_with c.args.store.now (g.F.Files.history c.args.store.now.files).tree None in
    let p = err_from_is_err_and c.from_residual.result c.from_residual.ensures.1 in
    rw (p.1, p.2) (lost_own g.F.Files.reading_may_fail (g.O.Lookup.may_fail c.args.objects.now) read table (record { name = c.args.name; target = Object c.args.id; peeled = None }) (id_of c.args.id) refl c.in_err-end.field-0.0
    (c.in_err-end.ensures.peeled honest told) c.in_err-end.ensures.failed)
