use Rattle.std.proofs.Common.{◌≡◌, ◌∙◌, ap, refl, rules, [], ◌∷◌, Err}
use Rattle.std.proofs.lemmas.Result.{err_from_is_err_and}
use Rattle.gix_ref_file.specs.declared.files.FileError.TheVariants.{Failed}
use Rattle.gix_ref_name.specs.Targets.{ToName}
use Rattle.history_layout.proofs.FullNames.{full_of}
use Rattle.history_store.proofs.Beside.{told_error}
use Rattle.history_store.proofs.head.head_edit.Goals as goal

pub returns-in_err-old-clause-failed : goal.returns-in_err-old-clause-failed
returns-in_err-old-clause-failed c = λ named named_to failed.
    let error = err_from_is_err_and c.from_residual.result c.from_residual.ensures.1 in
    let same : c.full_name.result ≡ Err Failed = c.in_err-old.was ∙ ap Err (told_error c.from_residual.result c.in_err-old.field-0.0 error.0 error.1 error.2 failed) in
    c.full_name.ensures.failed (full_of c.args.from.now named) same

pub returns-in_err-new-clause-failed : goal.returns-in_err-new-clause-failed
returns-in_err-new-clause-failed c = λ named named_to failed.
    let error = err_from_is_err_and c.from_residual-in_err-new.result c.from_residual-in_err-new.ensures.1 in
    let same : c.full_name-2.result ≡ Err Failed = c.in_err-new.was ∙ ap Err (told_error c.from_residual-in_err-new.result c.in_err-new.field-0.0 error.0 error.1 error.2 failed) in
    c.full_name-2.ensures.failed (full_of c.args.to.now named_to) same

pub returns-in_err-head-clause-failed : goal.returns-in_err-head-clause-failed
returns-in_err-head-clause-failed c = λ named named_to failed.
    let error = err_from_is_err_and c.from_residual-in_err-head.result c.from_residual-in_err-head.ensures.1 in
    let same : c.full_name-3.result ≡ Err Failed = c.in_err-head.was ∙ ap Err (told_error c.from_residual-in_err-head.result c.in_err-head.field-0.0 error.0 error.1 error.2 failed) in
    c.full_name-3.ensures.failed (refl) same
