use Rattle.std.proofs.Common.{◌≡◌, ◌⊎◌, false, inl, inr, refl, ap}
use Rattle.std.proofs.lemmas.Result.{err_from_is_err_and}
use Rattle.std.specs.Prelude.{Result, Err, is_some}
use Rattle.gix_ref_file.specs.Changes.{is_file_at}
use Rattle.gix_ref_file.specs.History.{HasRisen}
use Rattle.gix_ref_file.specs.Tree.{bytes_of}
use Rattle.gix_ref_file.specs.declared.files.FileError.{FileError}
use Rattle.gix_ref_file.specs.declared.files.FileError.TheVariants.{Failed, Memory}
use Rattle.gix_ref_lock.specs.PackedErrors.{as_commit}
use Rattle.gix_ref_lock.specs.declared.packed.CommitError.{CommitError}
use Rattle.gix_ref_lock.specs.declared.packed.CommitError.TheVariants as commit_case
use Rattle.gix_ref_lock.proofs.packed.given_back.Goals as goal

abbrev told : FileError → Result (Unit {0}) CommitError
told error = Err (as_commit error)

-- the error says that memory was wanting, or a failure is its cause
by_error : (Risen Gone : Type 0) (error : FileError) → (error ≡ Failed → Risen ⊎ Gone) → (told error ≡ Err commit_case.Memory) ⊎ (Risen ⊎ Gone)
by_error Risen Gone Failed h = inr (h refl)
by_error Risen Gone Memory h = inl refl

pub returns-clause-rolled_back : goal.returns-clause-rolled_back
returns-clause-rolled_back g c = λ honest. inr (inr (ap (λ n. is_some (bytes_of n)) (c.in_ok-give_back.ensures.gone honest)))

pub returns-in_err-give_back-clause-rolled_back : goal.returns-in_err-give_back-clause-rolled_back
returns-in_err-give_back-clause-rolled_back g c = λ honest.
    let risen = HasRisen (g.F.Files.failures c.args.files.now) (g.F.Files.failures c.give_back.new.files) in
    let gone = is_file_at (g.F.Files.history c.give_back.new.files).tree c.args.lock.now.path.items ≡ false in
    let p = err_from_is_err_and c.from_residual.result c.from_residual.ensures.1 in
    rw (p.1, p.2) (by_error risen gone c.in_err-give_back.field-0.0 (λ is. c.in_err-give_back.ensures.failed honest (ap Err is)))
