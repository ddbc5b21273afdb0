use Rattle.std.proofs.Common.{ap}
use Rattle.std.specs.Prelude.{Err}
use Rattle.std.proofs.lemmas.Result.{err_from_is_err_and}
use Rattle.gix_ref_transaction.proofs.Counting.{counts_file, file_memory}
use Rattle.gix_ref_transaction.proofs.Takings.{file_io}
use Rattle.gix_ref_transaction.proofs.plan.fill.Goals as goal

pub returns-in_err-fill-clause-counted : goal.returns-in_err-fill-clause-counted
returns-in_err-fill-clause-counted g c = λ honest held.
    let f = g.F.Files.failures in
    let p = err_from_is_err_and c.from_residual-in_err-fill.result c.from_residual-in_err-fill.ensures.1 in
    rw (p.1, p.2) (counts_file c.in_err-fill.field-0.0 (f c.args.files.now) (f c.fill.new.files) (λ is. c.in_err-fill.ensures.failed honest held (ap Err is)))

pub returns-in_err-fill-clause-failed : goal.returns-in_err-fill-clause-failed
returns-in_err-fill-clause-failed g c =
    let p = err_from_is_err_and c.from_residual-in_err-fill.result c.from_residual-in_err-fill.ensures.1 in
    rw (p.1, p.2) (file_io c.in_err-fill.field-0.0)

pub returns-in_err-fill-clause-keeps : goal.returns-in_err-fill-clause-keeps
returns-in_err-fill-clause-keeps g c =
    let kept = c.in_err-fill.ensures.keeps in
    let p = err_from_is_err_and c.from_residual-in_err-fill.result c.from_residual-in_err-fill.ensures.1 in
    rw (p.1, p.2) (record { honest = kept.honest; later = kept.later; quiet = λ other. kept.quiet (file_memory c.in_err-fill.field-0.0 other); folders = kept.folders })
