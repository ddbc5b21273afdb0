use Rattle.std.proofs.Common.{◌≡◌, refl, sym, ◌∙◌, ap, subst, Err}
use Rattle.std.specs.Prelude.{MatchOption, Option, Result}
use Rattle.std.proofs.lemmas.Result.{err_from_is_err_and}
use Rattle.history_files.specs.declared.trees.EditedFiles.{EditedFiles}
use Rattle.history_model.specs.declared.Fault.TheVariants.{IdTaken}
use Rattle.history_plans.specs.Plans.{GivesObjects}
use Rattle.history_plans.specs.declared.planning.Below.{Below}
use Rattle.history_plans.specs.declared.planning.NewFiles.{NewFiles}
use Rattle.history_repository.specs.declared.stopped.Stopped.{Stopped}
use Rattle.history_repository.specs.declared.stopped.Stopped.TheVariants as why
use Rattle.history_plans.proofs.TimesLemmas.{absent}
use Rattle.history_plans.proofs.planning.NewFiles.into_objects.Goals as goal

abbrev Gives : NewFiles → Result Below Stopped → Option EditedFiles → Type 0
Gives files result edited = MatchOption edited (result ≡ Err (why.Fault IdTaken)) (λ edited. GivesObjects files.read files.blobs.items edited result)

pub returns-in_err-edited : goal.returns-in_err-edited
returns-in_err-edited c =
    let none = absent c.args.self.edited c.in_err-edited.field-0.0 IdTaken c.in_err-edited.ensures.value in
    let stopped = err_from_is_err_and c.from_residual.result c.from_residual.ensures.1 in
    subst (Gives c.args.self c.from_residual.result) (sym none.1) (stopped.1 ∙ ap Err (stopped.2 ∙ ap why.Fault none.0))

pub returns-in_err-add_trees : goal.returns-in_err-add_trees
returns-in_err-add_trees c =
    let stopped = err_from_is_err_and c.from_residual-in_err-add_trees.result c.from_residual-in_err-add_trees.ensures.1 in
    subst (Gives c.args.self c.from_residual-in_err-add_trees.result) (sym c.in_ok-edited.ensures.ok_part)
    (subst (GivesObjects c.args.self.read c.args.self.blobs.items c.in_ok-edited.edited) (sym (stopped.1 ∙ ap Err stopped.2)) c.in_err-add_trees.ensures)

pub returns-in_err-objects : goal.returns-in_err-objects
returns-in_err-objects c =
    let stopped = err_from_is_err_and c.from_residual-in_err-objects.result c.from_residual-in_err-objects.ensures.1 in
    subst (Gives c.args.self c.from_residual-in_err-objects.result) (sym c.in_ok-edited.ensures.ok_part)
    (subst (GivesObjects c.args.self.read c.args.self.blobs.items c.in_ok-edited.edited) (sym (stopped.1 ∙ ap Err stopped.2)) tt)

pub returns : goal.returns
returns c = subst (Gives c.args.self _) (sym c.in_ok-edited.ensures.ok_part) (refl, (c.add_trees.new.objects.items, c.in_ok-add_trees.ensures, c.in_ok-objects.ensures))
