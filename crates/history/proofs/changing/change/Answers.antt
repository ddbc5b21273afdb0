use Rattle.std.proofs.Common.{◌∙◌, ap, Err}
use Rattle.std.proofs.lemmas.Result.{err_from_is_err_and}
use Rattle.history_model.specs.Meaning.{after}
use Rattle.history.specs.Runs.{CountsFailure}
use Rattle.history.specs.Storing.{HasStored}
use Rattle.history_plans.specs.Halves.{names_tree}
use Rattle.history_repository.specs.Stands.{Stands}
use Rattle.history.proofs.ChangeLemmas.{acts_done, acts_moving, acts_storing, acts_unmoved, acts_unstored, acts_without_memory, packs_done, packs_nothing}
use Rattle.history.proofs.Counts.{failed_before, more_both, moved_both, stored_both, then_both}
use Rattle.history.proofs.changing.change.Goals as goal

-- ---- what it does

pub returns-in_err-moves-clause-acts : goal.returns-in_err-moves-clause-acts
returns-in_err-moves-clause-acts g c = λ r sent asked.
    let F = g.F.Files in
    let old = c.args.repository.now in
    let mid = c.store_objects.new.repository in
    let stores = c.store_objects.ensures.stores r sent asked in
    let stopped = err_from_is_err_and c.from_residual.result c.from_residual.ensures.1 in
    acts_storing F old mid r sent asked.changes asked.serves _ c.store_objects.ensures.alone stores.passes c.from_residual.result stopped.0 stopped.1
    (acts_unstored (CountsFailure F.failures F.reading_may_fail old mid) (Stands F.is_honest F.history mid) r sent (HasStored F.is_honest F.history mid r sent)
    c.store_objects.result c.from_residual.result c.in_err-moves.field-0.0 c.in_err-moves.was (stopped.1 ∙ ap Err stopped.2) stores.ends)

pub returns-in_err-text-clause-acts : goal.returns-in_err-text-clause-acts
returns-in_err-text-clause-acts g c = λ r sent asked.
    let F = g.F.Files in
    let old = c.args.repository.now in
    let mid = c.store_objects.new.repository in
    let stores = c.store_objects.ensures.stores r sent asked in
    let stopped = err_from_is_err_and c.from_residual-in_err-text.result c.from_residual-in_err-text.ensures.1 in
    acts_storing F old mid r sent asked.changes asked.serves _ c.store_objects.ensures.alone stores.passes c.from_residual-in_err-text.result stopped.0 stopped.1
    (acts_without_memory (CountsFailure F.failures F.reading_may_fail old mid) (Stands F.is_honest F.history mid) r sent c.from_residual-in_err-text.result (stopped.1 ∙ ap Err stopped.2))

pub returns-in_err-move_names-clause-acts : goal.returns-in_err-move_names-clause-acts
returns-in_err-move_names-clause-acts g c = λ r sent asked.
    let F = g.F.Files in
    let old = c.args.repository.now in
    let mid = c.store_objects.new.repository in
    let new = c.move_names.new.repository in
    let stores = c.in_ok-moves.ensures.stores r sent asked in
    let moves = c.move_names.ensures.moves r sent stores.ends.1 stores.ends.0 in
    let stopped = err_from_is_err_and c.from_residual-in_err-move_names.result c.from_residual-in_err-move_names.ensures.1 in
    acts_moving F old mid r sent asked.changes asked.serves _ c.store_objects.ensures.alone stores.passes c.from_residual-in_err-move_names.result
    new c.in_ok-moves.moves stores.ends.0 stores.ends.1 c.move_names.ensures.alone.kept.objects moves.passes
    (acts_unmoved (CountsFailure F.failures F.reading_may_fail old new) (Stands F.is_honest F.history new) r sent (CountsFailure F.failures F.reading_may_fail mid new) (Stands F.is_honest F.history new (after r sent))
    c.move_names.result c.from_residual-in_err-move_names.result c.in_err-move_names.field-0.0 c.in_err-move_names.was (stopped.1 ∙ ap Err stopped.2)
    (failed_before F _ F.reading_may_fail old mid new (stored_both F _ old mid c.store_objects.ensures.alone)) moves.ends)
    (packs_nothing r sent c.from_residual-in_err-move_names.result stopped.0 (names_tree F.history old) (names_tree F.history new) stopped.1)

pub returns-clause-acts : goal.returns-clause-acts
returns-clause-acts g c = λ r sent asked.
    let F = g.F.Files in
    let old = c.args.repository.now in
    let mid = c.store_objects.new.repository in
    let new = c.move_names.new.repository in
    let stores = c.in_ok-moves.ensures.stores r sent asked in
    let moves = c.in_ok-move_names.ensures.moves r sent stores.ends.1 stores.ends.0 in
    acts_moving F old mid r sent asked.changes asked.serves _ c.store_objects.ensures.alone stores.passes _
    new c.in_ok-moves.moves stores.ends.0 stores.ends.1 c.move_names.ensures.alone.kept.objects moves.passes
    (acts_done (CountsFailure F.failures F.reading_may_fail old new) (Stands F.is_honest F.history new) r sent c.in_ok-moves.moves c.in_ok-text.text stores.ends.0
    (c.in_ok-text.ensures r sent stores.ends.0) moves.ends)
    (packs_done r sent c.in_ok-text.text (names_tree F.history old) (names_tree F.history mid) (names_tree F.history new)
    (ap (λ names. (F.history names.store.files).tree) c.store_objects.ensures.alone.kept.names) moves.leaves)

-- ---- what it keeps

pub returns-in_err-moves-clause-keeps : goal.returns-in_err-moves-clause-keeps
returns-in_err-moves-clause-keeps g c =
    let stopped = err_from_is_err_and c.from_residual.result c.from_residual.ensures.1 in
    more_both g.F.Files _ _ c.args.repository.now c.store_objects.new.repository (stored_both g.F.Files _ c.args.repository.now c.store_objects.new.repository c.store_objects.ensures.alone)
    (λ told. cc (told, c.in_err-moves.was, stopped.1, stopped.2))

pub returns-in_err-text-clause-keeps : goal.returns-in_err-text-clause-keeps
returns-in_err-text-clause-keeps g c =
    more_both g.F.Files _ _ c.args.repository.now c.store_objects.new.repository (stored_both g.F.Files _ c.args.repository.now c.store_objects.new.repository c.in_ok-moves.ensures.alone) (λ told. cc)

pub returns-in_err-move_names-clause-keeps : goal.returns-in_err-move_names-clause-keeps
returns-in_err-move_names-clause-keeps g c =
    let F = g.F.Files in
    let mid = c.store_objects.new.repository in
    let new = c.move_names.new.repository in
    let stopped = err_from_is_err_and c.from_residual-in_err-move_names.result c.from_residual-in_err-move_names.ensures.1 in
    then_both F _ _ c.args.repository.now mid new (stored_both F _ c.args.repository.now mid c.in_ok-moves.ensures.alone)
    (more_both F _ _ mid new (moved_both F _ mid new c.move_names.ensures.alone) (λ told. cc (told, c.in_err-move_names.was, stopped.1, stopped.2))) (λ told. cc)

pub returns-clause-keeps : goal.returns-clause-keeps
returns-clause-keeps g c =
    let F = g.F.Files in
    let mid = c.store_objects.new.repository in
    let new = c.move_names.new.repository in
    then_both F _ _ c.args.repository.now mid new (stored_both F _ c.args.repository.now mid c.in_ok-moves.ensures.alone)
    (more_both F _ _ mid new (moved_both F _ mid new c.in_ok-move_names.ensures.alone) (λ told. cc)) (λ told. cc)
