use Rattle.std.proofs.Common.{◌≡◌, ◌∙◌, sym, ap, Err}
use Rattle.std.proofs.lemmas.Result.{err_from_is_err_and}
use Rattle.gix_ref_file.specs.declared.files.FileError.TheVariants.{Failed}
use Rattle.history_layout.proofs.FullNames.{full_of}
use Rattle.history_store.proofs.Beside.{told_error}
use Rattle.history_store.proofs.NamesRead.{fault_told, no_name_told, none_told, some_told}
use Rattle.history_store.proofs.names.Names.find.Goals as goal

pub returns-then-not-is_name-clause-found : goal.returns-then-not-is_name-clause-found
returns-then-not-is_name-clause-found g c = λ honest keeps. no_name_told c.args.self.now.kind (g.F.Files.history c.args.self.now.store.files).tree c.args.name.now (sym c.is_name.ensures ∙ c.if-not-is_name.true)

pub returns-in_err-full-clause-failed : goal.returns-in_err-full-clause-failed
returns-in_err-full-clause-failed g c = λ failed.
    let error = err_from_is_err_and c.from_residual.result c.from_residual.ensures.1 in
    let same : c.full_name.result ≡ Err Failed = c.in_err-full.was ∙ ap Err (told_error c.from_residual.result c.in_err-full.field-0.0 error.0 error.1 error.2 failed) in
    absurd (c.full_name.ensures.failed (full_of c.args.name.now (sym c.is_name.ensures ∙ c.if-not-is_name.false)) same)

pub returns-in-Ok-Some-clause-found : goal.returns-in-Ok-Some-clause-found
returns-in-Ok-Some-clause-found g c = λ honest keeps.
    let self = c.args.self.now in
    let tree = (g.F.Files.history self.store.files).tree in
    c.id_of_target.ensures
    ∙ some_told self tree c.as_ref.result c.as_ref.ensures.value keeps c.args.name.now c.in_ok-full.full c.in_ok-full.ensures.same (sym c.is_name.ensures ∙ c.if-not-is_name.false)
    c.in-Ok-Some.field-0 c.in-Ok-Some.field-0-0 c.in-Ok-Some.field-0-is (c.in-Ok-Some.ensures.told honest)

pub returns-in-Ok-None-clause-found : goal.returns-in-Ok-None-clause-found
returns-in-Ok-None-clause-found g c = λ honest keeps.
    let self = c.args.self.now in
    let tree = (g.F.Files.history self.store.files).tree in
    none_told self tree c.as_ref.result c.as_ref.ensures.value keeps c.args.name.now c.in_ok-full.full c.in_ok-full.ensures.same (sym c.is_name.ensures ∙ c.if-not-is_name.false)
    c.in-Ok-None.field-0 c.in-Ok-None.field-0-is (c.in-Ok-None.ensures.told honest)

pub returns-in-Err-ReferenceCreation-clause-found : goal.returns-in-Err-ReferenceCreation-clause-found
returns-in-Err-ReferenceCreation-clause-found g c = λ honest keeps.
    let self = c.args.self.now in
    let tree = (g.F.Files.history self.store.files).tree in
    fault_told self tree c.as_ref.result c.as_ref.ensures.value keeps c.args.name.now c.in_ok-full.full c.in_ok-full.ensures.same (sym c.is_name.ensures ∙ c.if-not-is_name.false)
    c.in-Err-ReferenceCreation.field-0 c.in-Err-ReferenceCreation.field-0-0 c.in-Err-ReferenceCreation.field-0-is (c.in-Err-ReferenceCreation.ensures.told honest)
