use Rattle.std.proofs.Common.{◌∙◌, ap, refl, Err}
use Rattle.std.proofs.lemmas.Result.{err_from_is_err_and}
use Rattle.history_plans.specs.Packing.{IsPacking}
use Rattle.history.proofs.MovesPlanned.{names_unread}
use Rattle.history.proofs.packing.plan_pack.Goals as goal

pub returns-in_err-names_to_pack : goal.returns-in_err-names_to_pack
returns-in_err-names_to_pack g c = λ r h.
    let stopped = err_from_is_err_and c.from_residual.result c.from_residual.ensures.1 in
    names_unread g.F.Files.reading_may_fail r c.from_residual.result c.in_err-names_to_pack.field-0.0 (stopped.1 ∙ ap Err stopped.2) (IsPacking r) c.names_to_pack.result c.in_err-names_to_pack.was (c.names_to_pack.ensures r h)

pub returns : goal.returns
returns g c = λ r h. record { none = refl; free = refl; told = c.in_ok-names_to_pack.ensures r h }
