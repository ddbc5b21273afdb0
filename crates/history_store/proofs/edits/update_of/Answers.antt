use Rattle.std.proofs.Common.{◌≡◌, ◌∙◌, ap, Err}
use Rattle.std.proofs.lemmas.Result.{err_from_is_err_and}
use Rattle.gix_object_lines.specs.NameTest.{is_full_name}
use Rattle.gix_ref_file.specs.declared.files.FileError.TheVariants.{Failed}
use Rattle.history_layout.proofs.FullNames.{full_of}
use Rattle.history_store.specs.Changing.{moved_text}
use Rattle.history_store.proofs.Beside.{told_error}
use Rattle.history_store.proofs.edits.update_of.Goals as goal

pub returns-in_err-full_name-clause-failed : goal.returns-in_err-full_name-clause-failed
returns-in_err-full_name-clause-failed c = λ named failed.
    let error = err_from_is_err_and c.from_residual-in_err-full_name.result c.from_residual-in_err-full_name.ensures.1 in
    let same : c.full_name.result ≡ Err Failed = c.in_err-full_name.was ∙ ap Err (told_error c.from_residual-in_err-full_name.result c.in_err-full_name.field-0.0 error.0 error.1 error.2 failed) in
    c.full_name.ensures.failed (ap is_full_name c.deref-2.ensures.value ∙ full_of (moved_text c.args.named.now) named) same
