use Rattle.std.proofs.Common.{◌∙◌, ap, refl, Err, Some}
use Rattle.std.proofs.lemmas.Result.{err_from_is_err_and}
use Rattle.history_model.specs.Commands.{Rename}
use Rattle.history.proofs.MovesPlanned.{rename_unplanned, unread}
use Rattle.history.proofs.NamesPlanned.{new_moved}
use Rattle.history.proofs.renaming.plan_renaming.Goals as goal

pub returns-in_err-to : goal.returns-in_err-to
returns-in_err-to g c = λ r from to h is.
    let stopped = err_from_is_err_and c.from_residual.result c.from_residual.ensures.1 in
    rename_unplanned g.F.Files.reading_may_fail r c.from_residual.result c.in_err-to.field-0.0 (stopped.1 ∙ ap Err stopped.2) from to c.plan_rename.result c.in_err-to.was (c.plan_rename.ensures r from to h is)

pub returns-in_err-test_lock : goal.returns-in_err-test_lock
returns-in_err-test_lock g c = λ r from to h is.
    let stopped = err_from_is_err_and c.from_residual-in_err-test_lock.result c.from_residual-in_err-test_lock.ensures.1 in
    unread g.F.Files.reading_may_fail r (Rename from to) c.from_residual-in_err-test_lock.result c.test_lock.result c.in_err-test_lock.field-0.0 (stopped.1 ∙ ap Err stopped.2) c.in_err-test_lock.was c.test_lock.ensures

pub returns-in_err-moves_of_one : goal.returns-in_err-moves_of_one
returns-in_err-moves_of_one g c = λ r from to h is.
    let stopped = err_from_is_err_and c.from_residual-in_err-moves_of_one.result c.from_residual-in_err-moves_of_one.ensures.1 in
    unread g.F.Files.reading_may_fail r (Rename from to) c.from_residual-in_err-moves_of_one.result c.moves_of_one.result c.in_err-moves_of_one.field-0.0 (stopped.1 ∙ ap Err stopped.2) c.in_err-moves_of_one.was c.moves_of_one.ensures.failed

pub returns : goal.returns
returns g c = λ r from to h is.
    let planned = c.in_ok-to.ensures r from to h is in
    record { none = planned.0; free = refl; told = record { is = tt; moves = new_moved r from to c.in_ok-to.to c.in_ok-moves_of_one.field-0.items c.in_ok-moves_of_one.ensures.moved planned.1; takes = ap Some is.from_is } }
