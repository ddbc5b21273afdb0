use Rattle.std.specs.Prelude.{unwrap_or}
use Rattle.std.proofs.lemmas.Result.{err_from_is_err_and}
use Rattle.gix_ref_store.specs.Searches.{reads_in}
use Rattle.gix_ref_store.proofs.PeelLemmas.{lost_on}
use Rattle.gix_ref_store.proofs.store.file.peel.peeled_end.Goals as goal

pub returns-in_err-id-in-None-clause-peeled : goal.returns-in_err-id-in-None-clause-peeled
returns-in_err-id-in-None-clause-peeled g c = λ honest objects.
    let read = reads_in (g.F.Files.history c.args.search.now.store.now.files).tree c.args.search.now in
    let table = g.T.Lookup.table c.args.objects.now in
    let from = c.args.from.now in
    let p = err_from_is_err_and c.from_residual-in_err-id-in-None.result c.from_residual-in_err-id-in-None.ensures.1 in
    rw (p.1, p.2) (lost_on read table from (g.T.Lookup.is_honest c.args.objects.now) (g.T.Lookup.may_fail c.args.objects.now) (unwrap_or c.in_ok-first-in-None.end from) c.in_ok-first-in-None.first
    c.in_err-id-in-None.field-0.0 c.in-None.is (c.in_ok-first-in-None.ensures.followed honest) objects c.in_err-id-in-None.ensures.refused)
