use Rattle.std.proofs.Common.{◌≡◌, ◌∙◌, ap, Err}
use Rattle.std.proofs.lemmas.Result.{err_from_is_err_and}
use Rattle.gix_ref_file.specs.declared.files.FileError.TheVariants.{Failed}
use Rattle.history_layout.proofs.FullNames.{full_of}
use Rattle.history_store.proofs.Beside.{told_error}
use Rattle.history_store.proofs.names.Names.deletion_of.Goals as goal

pub returns-in_err-full_name-clause-failed : goal.returns-in_err-full_name-clause-failed
returns-in_err-full_name-clause-failed g c = λ honest keeps named held failed.
    let error = err_from_is_err_and c.from_residual-in_err-full_name.result c.from_residual-in_err-full_name.ensures.1 in
    let same : c.full_name.result ≡ Err Failed = c.in_err-full_name.was ∙ ap Err (told_error c.from_residual-in_err-full_name.result c.in_err-full_name.field-0.0 error.0 error.1 error.2 failed) in
    absurd (c.full_name.ensures.failed (full_of c.args.name.now named) same)
