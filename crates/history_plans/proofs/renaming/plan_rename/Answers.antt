use Rattle.std.proofs.Common.{◌≡◌, ◌∙◌, ap, subst, sym, Err}
use Rattle.std.proofs.lemmas.Result.{err_from_is_err_and}
use Rattle.history_model.specs.Repository.{id_at}
use Rattle.history_plans.specs.Renaming.{MakesName, PlansRename}
use Rattle.history_plans.proofs.RenameCauses.{is_free, test_stopped}
use Rattle.history_plans.proofs.renaming.plan_rename.Goals as goal

pub returns-in_err-id : goal.returns-in_err-id
returns-in_err-id g c = λ r from to h is.
    let stopped = err_from_is_err_and c.from_residual.result c.from_residual.ensures.1 in
    test_stopped g.F.Files.reading_may_fail r from to c.test_rename.result c.from_residual.result c.in_err-id.field-0.0 c.in_err-id.was (stopped.1 ∙ ap Err stopped.2) (c.test_rename.ensures r from to h is)

pub returns-in_err-new_name : goal.returns-in_err-new_name
returns-in_err-new_name g c = λ r from to h is.
    let stopped = err_from_is_err_and c.from_residual-in_err-new_name.result c.from_residual-in_err-new_name.ensures.1 in
    subst (PlansRename g.F.Files.reading_may_fail r from to) (sym (stopped.1 ∙ ap Err stopped.2)) tt

pub returns : goal.returns
returns g c = λ r from to h is.
    let tested = c.in_ok-id.ensures r from to h is in
    let place : c.deref.result.now ≡ to = c.deref.ensures.value ∙ is.to_is in
    let makes = c.in_ok-new_name.ensures r from (c.kind.ensures ∙ h.names_kind) tested.1 (ap (id_at r) place ∙ is_free r from to tested.0) in
    (tested.0, subst (λ n. MakesName r from n c.in_ok-new_name.field-0) place makes)
