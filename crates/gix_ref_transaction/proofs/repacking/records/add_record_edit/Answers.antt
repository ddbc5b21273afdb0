use Rattle.std.proofs.Common.{option_map}
use Rattle.gix_ref_transaction.specs.Modes.{objects_in}
use Rattle.gix_ref_lock.specs.RecordEdits.{line_in}
use Rattle.std.proofs.lemmas.Result.{err_from_is_err_and}
use Rattle.gix_ref_transaction.specs.Resolving.{ChangeFault, PackFault}
use Rattle.gix_ref_transaction.proofs.Unresolved.{anyhow}
use Rattle.gix_ref_transaction.proofs.repacking.records.add_record_edit.Goals as goal

pub returns-clause-said : goal.returns-clause-said
returns-clause-said g c = λ honest told. (option_map line_in c.in_ok-own.own, c.in_ok-own.ensures.said honest told, c.in_ok-push_some.ensures.said)

pub returns-in_err-own-clause-resolves : goal.returns-in_err-own-clause-resolves
returns-in_err-own-clause-resolves g c = λ honest told.
    let p = err_from_is_err_and c.from_residual.result c.from_residual.ensures.1 in
    rw (p.1, p.2) (c.in_err-own.ensures.resolves honest told)

pub returns-in_err-push_some-clause-resolves : goal.returns-in_err-push_some-clause-resolves
returns-in_err-push_some-clause-resolves g c = λ honest told.
    let why = PackFault g.F.Files.reading_may_fail g.O.Lookup.may_fail g.O.Lookup.table (objects_in c.args.packed_refs.now) in
    let p = err_from_is_err_and c.from_residual-in_err-push_some.result c.from_residual-in_err-push_some.ensures.1 in
    rw (p.1, p.2) (anyhow (ChangeFault why c.args.edit.now.change) c.in_err-push_some.field-0.0 c.in_err-push_some.ensures.resolved)
