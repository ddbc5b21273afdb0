use Rattle.std.proofs.Common.{◌∙◌, ap, inr, Ok, Err, refl}
use Rattle.std.proofs.lemmas.Result.{err_from_is_err_and}
use Rattle.history_model.specs.Commands.{Commit}
use Rattle.history_layout.specs.OneNameSteps.{commit_move}
use Rattle.history.specs.Runs.{CountsFailure}
use Rattle.history.specs.Storing.{HasStored}
use Rattle.history.proofs.NamesPlanned.{made_id, one_moved}
use Rattle.history.proofs.Puts.{alone_more}
use Rattle.history.proofs.Storing.{commit_stored, commit_unplanned, has_stored, lock_unread, nothing_stored, stored_stopped}
use Rattle.history_repository.specs.declared.stopped.Stopped.TheVariants.{Fault}
use Rattle.history_repository.specs.Faults.{file_fault}
use Rattle.history.proofs.commit.store_commit.Goals as goal

pub returns-in_err-plan-clause-stores : goal.returns-in_err-plan-clause-stores
returns-in_err-plan-clause-stores g c = λ r sent asked.
    let F = g.F.Files in
    let old = c.args.repository.now in
    let stopped = err_from_is_err_and c.from_residual.result c.from_residual.ensures.1 in
    nothing_stored F old r (Commit sent) c.in_err-plan.field-0.0 c.from_residual.result (stopped.1 ∙ ap Err stopped.2)
    (commit_unplanned F.reading_may_fail (CountsFailure F.failures F.reading_may_fail old old) (HasStored F.is_honest F.history old r (Commit sent)) (λ may. inr (inr may))
    r sent c.in_err-plan.field-0.0 (c.in_err-plan.ensures r sent asked))

pub returns-in_err-moved-clause-stores : goal.returns-in_err-moved-clause-stores
returns-in_err-moved-clause-stores g c = λ r sent asked.
    let F = g.F.Files in
    let old = c.args.repository.now in
    let stopped = err_from_is_err_and c.from_residual-in_err-moved.result c.from_residual-in_err-moved.ensures.1 in
    nothing_stored F old r (Commit sent) (Fault (file_fault c.in_err-moved.field-0.0)) c.from_residual-in_err-moved.result (stopped.1 ∙ ap Err stopped.2)
    (lock_unread F.reading_may_fail (CountsFailure F.failures F.reading_may_fail old old) (HasStored F.is_honest F.history old r (Commit sent)) (λ may. inr (inr may))
    r (Commit sent) c.moves_of_one.result c.in_err-moved.field-0.0 c.in_err-moved.was c.moves_of_one.ensures.failed)

pub returns-in_err-put_all-clause-stores : goal.returns-in_err-put_all-clause-stores
returns-in_err-put_all-clause-stores g c = λ r sent asked.
    let plan = c.in_ok-plan.ensures r sent asked in
    let stopped = err_from_is_err_and c.from_residual-in_err-put_all.result c.from_residual-in_err-put_all.ensures.1 in
    stored_stopped g.F.Files c.args.repository.now r (Commit sent) c.put_all.new.repository c.put_all.result c.from_residual-in_err-put_all.result c.in_err-put_all.field-0.0 c.in_err-put_all.was (stopped.1 ∙ ap Err stopped.2) plan.0
    (commit_stored g.F.Files c.args.repository.now r sent c.in_ok-plan.plan plan.0 asked.serves plan.1 c.deref.result.now c.deref.ensures.value c.put_all.new.repository c.put_all.result c.put_all.ensures.puts)

pub returns-clause-stores : goal.returns-clause-stores
returns-clause-stores g c = λ r sent asked.
    let plan = c.in_ok-plan.ensures r sent asked in
    let stored = commit_stored g.F.Files c.args.repository.now r sent c.in_ok-plan.plan plan.0 asked.serves plan.1 c.deref.result.now c.deref.ensures.value c.put_all.new.repository (Ok tt) c.in_ok-put_all.ensures.puts in
    record {
      ends = (
        record {
          none = plan.0;
          free = stored.stores.0;
          told = record {
            is = made_id r (commit_move r sent) c.in_ok-plan.plan.moves plan.1.moves;
            moves = one_moved r (commit_move r sent) c.in_ok-plan.plan.moves c.in_ok-moved.moved.items c.in_ok-moved.ensures.moved plan.1.moves;
            takes = refl;
          };
        },
        has_stored g.F.Files c.args.repository.now r (Commit sent) _ c.put_all.new.repository asked.serves c.in_ok-put_all.ensures.alone stored,
      );
      passes = stored.passes;
    }

pub returns-in_err-put_all-clause-alone : goal.returns-in_err-put_all-clause-alone
returns-in_err-put_all-clause-alone g c =
    let stopped = err_from_is_err_and c.from_residual-in_err-put_all.result c.from_residual-in_err-put_all.ensures.1 in
    alone_more g.F.Files _ _ c.args.repository.now c.put_all.new.repository c.put_all.ensures.alone (λ told. cc (told, c.in_err-put_all.was, stopped.1, stopped.2))

pub returns-clause-alone : goal.returns-clause-alone
returns-clause-alone g c = alone_more g.F.Files _ _ c.args.repository.now c.put_all.new.repository c.in_ok-put_all.ensures.alone (λ told. cc)
