use Rattle.std.proofs.Common.{◌∙◌, ap, inr, refl, Ok, Err}
use Rattle.std.proofs.lemmas.Result.{err_from_is_err_and}
use Rattle.history_model.specs.Commands.{Tag}
use Rattle.history_layout.specs.OneNameSteps.{tag_move}
use Rattle.history.specs.Runs.{CountsFailure}
use Rattle.history.specs.Storing.{HasStored}
use Rattle.history.proofs.NamesPlanned.{made_id, one_moved}
use Rattle.history.proofs.Puts.{alone_more}
use Rattle.history.proofs.Storing.{has_stored, lock_unread, nothing_stored, stored_stopped, tag_stored, tag_unplanned}
use Rattle.history_repository.specs.declared.stopped.Stopped.TheVariants.{Fault}
use Rattle.history_repository.specs.Faults.{file_fault}
use Rattle.history.proofs.tagging.store_tag.Goals as goal

pub returns-in_err-tagged-clause-stores : goal.returns-in_err-tagged-clause-stores
returns-in_err-tagged-clause-stores g c = λ r sent h is.
    let F = g.F.Files in
    let old = c.args.repository.now in
    let stopped = err_from_is_err_and c.from_residual.result c.from_residual.ensures.1 in
    nothing_stored F old r (Tag sent) c.in_err-tagged.field-0.0 c.from_residual.result (stopped.1 ∙ ap Err stopped.2)
    (tag_unplanned F.reading_may_fail (CountsFailure F.failures F.reading_may_fail old old) (HasStored F.is_honest F.history old r (Tag sent)) (λ may. inr (inr may))
    r sent c.in_err-tagged.field-0.0 (c.in_err-tagged.ensures r sent h is))

pub returns-in_err-moved-clause-stores : goal.returns-in_err-moved-clause-stores
returns-in_err-moved-clause-stores g c = λ r sent h is.
    let F = g.F.Files in
    let old = c.args.repository.now in
    let stopped = err_from_is_err_and c.from_residual-in_err-moved.result c.from_residual-in_err-moved.ensures.1 in
    nothing_stored F old r (Tag sent) (Fault (file_fault c.in_err-moved.field-0.0)) c.from_residual-in_err-moved.result (stopped.1 ∙ ap Err stopped.2)
    (lock_unread F.reading_may_fail (CountsFailure F.failures F.reading_may_fail old old) (HasStored F.is_honest F.history old r (Tag sent)) (λ may. inr (inr may))
    r (Tag sent) c.moves_of_one.result c.in_err-moved.field-0.0 c.in_err-moved.was c.moves_of_one.ensures.failed)

pub returns-in_err-put-clause-stores : goal.returns-in_err-put-clause-stores
returns-in_err-put-clause-stores g c = λ r sent h is.
    let planned = c.in_ok-tagged.ensures r sent h is in
    let stopped = err_from_is_err_and c.from_residual-in_err-put.result c.from_residual-in_err-put.ensures.1 in
    stored_stopped g.F.Files c.args.repository.now r (Tag sent) c.put.new.repository c.put.result c.from_residual-in_err-put.result c.in_err-put.field-0.0 c.in_err-put.was (stopped.1 ∙ ap Err stopped.2) planned.none
    (tag_stored g.F.Files c.args.repository.now r sent c.in_ok-tagged.tagged h planned c.put.new.repository c.put.result c.put.ensures.puts)

pub returns-clause-stores : goal.returns-clause-stores
returns-clause-stores g c = λ r sent h is.
    let planned = c.in_ok-tagged.ensures r sent h is in
    let stored = tag_stored g.F.Files c.args.repository.now r sent c.in_ok-tagged.tagged h planned c.put.new.repository (Ok tt) c.in_ok-put.ensures.puts in
    record {
      ends = (
        record {
          none = planned.none;
          free = stored.stores.0;
          told = record {
            is = made_id r (tag_move r sent) c.in_ok-tagged.tagged.moves planned.moves;
            moves = one_moved r (tag_move r sent) c.in_ok-tagged.tagged.moves c.in_ok-moved.moved.items c.in_ok-moved.ensures.moved planned.moves;
            takes = refl;
          };
        },
        has_stored g.F.Files c.args.repository.now r (Tag sent) _ c.put.new.repository h c.in_ok-put.ensures.alone stored,
      );
      passes = stored.passes;
    }

pub returns-in_err-put-clause-alone : goal.returns-in_err-put-clause-alone
returns-in_err-put-clause-alone g c =
    let stopped = err_from_is_err_and c.from_residual-in_err-put.result c.from_residual-in_err-put.ensures.1 in
    alone_more g.F.Files _ _ c.args.repository.now c.put.new.repository c.put.ensures.alone (λ told. cc (told, c.in_err-put.was, stopped.1, stopped.2))

pub returns-clause-alone : goal.returns-clause-alone
returns-clause-alone g c = alone_more g.F.Files _ _ c.args.repository.now c.put.new.repository c.in_ok-put.ensures.alone (λ told. cc)
