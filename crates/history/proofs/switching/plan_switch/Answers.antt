use Rattle.std.proofs.Common.{◌≡◌, ◌∙◌, ap, refl, subst, None, Some, Err}
use Rattle.std.proofs.lemmas.Result.{err_from_is_err_and}
use Rattle.history_model.specs.Causes.{first_cause}
use Rattle.history_model.specs.Commands.{Switch}
use Rattle.history.proofs.MovesPlanned.{refused_so}
use Rattle.history.proofs.switching.plan_switch.Goals as goal

pub returns-in_err-test_switch : goal.returns-in_err-test_switch
returns-in_err-test_switch g c = λ r h.
    let stopped = err_from_is_err_and c.from_residual.result c.from_residual.ensures.1 in
    refused_so g.F.Files.reading_may_fail r (Switch c.args.name.items) c.in_err-test_switch.field-0.0 c.from_residual.result (stopped.1 ∙ ap Err stopped.2)
    (subst (λ n. first_cause r (Switch n) ≡ Some c.in_err-test_switch.field-0.0) c.deref.ensures.value (c.in_err-test_switch.ensures r h))

pub returns : goal.returns
returns g c = λ r h. record { none = subst (λ n. first_cause r (Switch n) ≡ None) c.deref.ensures.value (c.in_ok-test_switch.ensures r h); free = refl; told = refl }
