use Rattle.std.proofs.Common.{◌∙◌, ap, refl, Err}
use Rattle.std.proofs.lemmas.Result.{err_from_is_err_and}
use Rattle.history_model.specs.Commands.{Move}
use Rattle.history.proofs.MovesPlanned.{moves_unplanned, unread}
use Rattle.history.proofs.NamesPlanned.{lines_moved}
use Rattle.history.proofs.moving.plan_together.Goals as goal

pub returns-in_err-moved : goal.returns-in_err-moved
returns-in_err-moved g c = λ r sent h is.
    let stopped = err_from_is_err_and c.from_residual.result c.from_residual.ensures.1 in
    moves_unplanned g.F.Files.reading_may_fail r c.from_residual.result c.in_err-moved.field-0.0 (stopped.1 ∙ ap Err stopped.2) sent c.plan_moves.result c.in_err-moved.was (c.plan_moves.ensures r sent h is)

pub returns-in_err-test_locks : goal.returns-in_err-test_locks
returns-in_err-test_locks g c = λ r sent h is.
    let stopped = err_from_is_err_and c.from_residual-in_err-test_locks.result c.from_residual-in_err-test_locks.ensures.1 in
    unread g.F.Files.reading_may_fail r (Move sent) c.from_residual-in_err-test_locks.result c.test_locks.result c.in_err-test_locks.field-0.0 (stopped.1 ∙ ap Err stopped.2) c.in_err-test_locks.was c.test_locks.ensures

pub returns : goal.returns
returns g c = λ r sent h is.
    let planned = c.in_ok-moved.ensures r sent h is in
    record { none = planned.0; free = refl; told = record { is = tt; moves = lines_moved r sent sent.to c.in_ok-moved.moved.items planned.1; takes = refl } }
