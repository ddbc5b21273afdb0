use Rattle.std.proofs.Common.{◌∙◌, ap, refl, Err, Some}
use Rattle.std.proofs.lemmas.Result.{err_from_is_err_and}
use Rattle.history_model.specs.Commands.{Delete}
use Rattle.history.specs.Moving.{edits_of}
use Rattle.history.proofs.MovesPlanned.{tests_failed, unread}
use Rattle.history.proofs.deleting.plan_deletion.Goals as goal

pub returns-in_err-test_delete : goal.returns-in_err-test_delete
returns-in_err-test_delete g c = λ r name at h is.
    let stopped = err_from_is_err_and c.from_residual.result c.from_residual.ensures.1 in
    tests_failed g.F.Files.reading_may_fail r c.from_residual.result c.in_err-test_delete.field-0.0 (stopped.1 ∙ ap Err stopped.2) (Delete name at) c.test_delete.result c.in_err-test_delete.was (c.test_delete.ensures r name at h is)

pub returns-in_err-test_lock : goal.returns-in_err-test_lock
returns-in_err-test_lock g c = λ r name at h is.
    let stopped = err_from_is_err_and c.from_residual-in_err-test_lock.result c.from_residual-in_err-test_lock.ensures.1 in
    unread g.F.Files.reading_may_fail r (Delete name at) c.from_residual-in_err-test_lock.result c.test_lock.result c.in_err-test_lock.field-0.0 (stopped.1 ∙ ap Err stopped.2) c.in_err-test_lock.was c.test_lock.ensures

pub returns : goal.returns
returns g c = λ r name at h is. record { none = c.in_ok-test_delete.ensures r name at h is; free = refl; told = record { is = tt; moves = ap edits_of c.new.ensures.items; takes = ap Some is.name_is } }
