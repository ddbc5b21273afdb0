use Rattle.std.proofs.Common.{◌∙◌, ◌+◌, [], ◌∷◌, Err, ap, Some, length, nat_lt, refl, sym, subst}
use Rattle.std.specs.Prelude.{⊤}
use Rattle.std.specs.List.{list_any}
use Rattle.std.proofs.lemmas.Result.{err_from_is_err_and}
use Rattle.history_model.specs.FileMap as model
use Rattle.history_model.specs.Forms.{max_path}
use Rattle.history_files.specs.Laws.{table_of}
use Rattle.history_files.specs.declared.found.Found.TheVariants.{Folder}
use Rattle.history_files.specs.declared.listing.File.{File}
use Rattle.history_files.proofs.Grafted.{source_files}
use Rattle.history_plans.specs.Files.{TellsRead}
use Rattle.history_plans.proofs.GraftFound.{fault_told}
use Rattle.history_plans.proofs.GraftPaths.{by_listed}
use Rattle.history_plans.proofs.SourcesStand.{source_stands}
use Rattle.history_plans.proofs.grafts.test_grafted_folder.Goals as goal

pub returns-in_err-files-clause-tested : goal.returns-in_err-files-clause-tested
returns-in_err-files-clause-tested g c = λ r source other h good is stands trees.
    let MayFail = g.F.Files.reading_may_fail in
    let one = model.Graft c.args.path.now source other ∷ [] in
    let folder = source_stands r h.whole.whole.store other is.map stands source (Some (Folder c.args.tree)) c.args.tree is refl in
    let fault = c.in_err-files.ensures.files r (source_files source other) h folder trees in
    let stopped = err_from_is_err_and c.from_residual.result c.from_residual.ensures.1 in
    subst (TellsRead {T = Unit {0}} MayFail one (λ _. ⊤)) (sym (stopped.1 ∙ ap Err stopped.2)) (fault_told {T = Unit {0}} MayFail one (λ _. ⊤) c.in_err-files.field-0.0 fault)

pub returns-then-have_long_below-clause-tested : goal.returns-then-have_long_below-clause-tested
returns-then-have_long_below-clause-tested g c = λ r source other h good is stands trees.
    let found = Some (Folder c.args.tree) in
    let folder = source_stands r h.whole.whole.store other is.map stands source found c.args.tree is refl in
    let files = c.in_ok-files.files.items in
    let told = by_listed g.F.Files.reading_may_fail (table_of r) r.kind c.args.path.now source other found good is files (c.in_ok-files.ensures.files r (source_files source other) h folder trees) in
    let long = c.have_long_below.ensures ∙ ap (list_any (λ (file : File). nat_lt max_path (length c.args.path.now + 1 + length file.path.items))) c.deref.ensures.value in
    (refl, sym told ∙ sym long ∙ c.if-have_long_below.true)

pub returns-clause-tested : goal.returns-clause-tested
returns-clause-tested g c = λ r source other h good is stands trees.
    let found = Some (Folder c.args.tree) in
    let folder = source_stands r h.whole.whole.store other is.map stands source found c.args.tree is refl in
    let files = c.in_ok-files.files.items in
    let told = by_listed g.F.Files.reading_may_fail (table_of r) r.kind c.args.path.now source other found good is files (c.in_ok-files.ensures.files r (source_files source other) h folder trees) in
    let long = c.have_long_below.ensures ∙ ap (list_any (λ (file : File). nat_lt max_path (length c.args.path.now + 1 + length file.path.items))) c.deref.ensures.value in
    (sym told ∙ sym long ∙ c.if-have_long_below.false, tt)
