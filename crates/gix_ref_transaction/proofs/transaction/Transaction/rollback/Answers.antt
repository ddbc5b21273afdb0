use Rattle.std.proofs.Common.{⊎_elim, inl, inr, sym, subst, List}
use Rattle.std.proofs.lemmas.Result.{err_from_is_err_and}
use Rattle.gix_ref_lock.proofs.Kept.{kept_joined}
use Rattle.gix_ref_lock.specs.Committing.{AreUnlocked, commit_paths}
use Rattle.gix_ref_lock.specs.Moves.{LocksHeld, Once, lock_paths}
use Rattle.gix_ref_lock.specs.declared.act.Move.{Move}
use Rattle.gix_ref_lock.proofs.LockPaths.{locks_joined}
use Rattle.gix_ref_transaction.proofs.Counting.{worse_done, worse_unfailed}
use Rattle.gix_ref_transaction.proofs.Givings.{both_risen, giving_done, giving_failed, giving_memory, none_of_done}
use Rattle.gix_ref_transaction.proofs.Rollbacks.{all_gone, locks_held, locks_once, paths_once}
use Rattle.gix_ref_transaction.proofs.Twice.{once_of}
use Rattle.gix_ref_transaction.proofs.transaction.Transaction.rollback.Goals as goal

pub returns-clause-moments : goal.returns-clause-moments
returns-clause-moments g c = λ honest.
    locks_joined (g.F.Files.history c.args.files.now) (g.F.Files.history c.drop_records-records.new.files) (g.F.Files.history c.give_back_all-locks.new.files)
    (c.drop_records-records.ensures.moments honest) (c.give_back_all-locks.ensures.locks (c.drop_records-records.ensures.keeps.honest honest))

pub returns-in_err-given_back-clause-moments : goal.returns-in_err-given_back-clause-moments
returns-in_err-given_back-clause-moments g c = λ honest.
    locks_joined (g.F.Files.history c.args.files.now) (g.F.Files.history c.drop_records-records.new.files) (g.F.Files.history c.give_back_all-locks.new.files)
    (c.drop_records-records.ensures.moments honest) (c.give_back_all-locks.ensures.locks (c.drop_records-records.ensures.keeps.honest honest))

pub returns-clause-gone : goal.returns-clause-gone
returns-clause-gone g c = λ honest.
    let history = g.F.Files.history in
    let t = c.args.self in
    let first = c.drop_records-records in
    let second = c.give_back_all-locks in
    let mid = (history first.new.files).tree in
    let new = (history second.new.files).tree in
    let parts = worse_done first.result second.result (giving_done first.result second.result _ (sym c.in_ok-given_back.ensures)) in
    let unlocked = subst (λ (ms : List Move). AreUnlocked ms mid new) c.deref.ensures.value (second.ensures.rolled_back (first.ensures.keeps.honest honest) parts.1) in
    all_gone t.moves.items t.packed (history c.args.files.now).tree mid new (first.ensures.gone honest parts.0) unlocked

pub returns-in_err-given_back-clause-failed : goal.returns-in_err-given_back-clause-failed
returns-in_err-given_back-clause-failed g c = λ honest held.
    let f = g.F.Files.failures in
    let history = g.F.Files.history in
    let t = c.args.self in
    let first = c.drop_records-records in
    let second = c.give_back_all-locks in
    let once = paths_once t.packed t.moves.items (once_of (commit_paths t.packed t.moves.items) t.once) in
    let own = locks_held t.packed t.moves.items (history c.args.files.now).tree (history first.new.files).tree (first.ensures.others honest) once held.each in
    let error = c.in_err-given_back.field-0.0 in
    let p = err_from_is_err_and c.from_residual.result c.from_residual.ensures.1 in
    rw (p.1, p.2) (⊎_elim inl (λ is. inr (inl (both_risen (f c.args.files.now) (f first.new.files) (f second.new.files) first.result second.result first.ensures.keeps.later second.ensures.keeps.later (first.ensures.failed honest held.packed)
    (second.ensures.held (subst (λ (ms : List Move). Once (lock_paths ms)) (sym c.deref.ensures.value) (locks_once t.packed t.moves.items once)) (first.ensures.keeps.honest honest) (subst (λ (ms : List Move). LocksHeld ms (history first.new.files).tree) (sym c.deref.ensures.value) own)) is)))
    (giving_failed first.result second.result error (sym c.in_err-given_back.ensures)))

pub returns-in_err-given_back-clause-rolled_back : goal.returns-in_err-given_back-clause-rolled_back
returns-in_err-given_back-clause-rolled_back g c = λ honest held.
    let f = g.F.Files.failures in
    let history = g.F.Files.history in
    let t = c.args.self in
    let first = c.drop_records-records in
    let second = c.give_back_all-locks in
    let once = paths_once t.packed t.moves.items (once_of (commit_paths t.packed t.moves.items) t.once) in
    let own = locks_held t.packed t.moves.items (history c.args.files.now).tree (history first.new.files).tree (first.ensures.others honest) once held.each in
    let error = c.in_err-given_back.field-0.0 in
    let p = err_from_is_err_and c.from_residual.result c.from_residual.ensures.1 in
    rw (p.1, p.2) (⊎_elim inl (λ is. inr (inl (both_risen (f c.args.files.now) (f first.new.files) (f second.new.files) first.result second.result first.ensures.keeps.later second.ensures.keeps.later (first.ensures.failed honest held.packed)
    (second.ensures.held (subst (λ (ms : List Move). Once (lock_paths ms)) (sym c.deref.ensures.value) (locks_once t.packed t.moves.items once)) (first.ensures.keeps.honest honest) (subst (λ (ms : List Move). LocksHeld ms (history first.new.files).tree) (sym c.deref.ensures.value) own)) is)))
    (giving_failed first.result second.result error (sym c.in_err-given_back.ensures)))

pub returns-clause-rolled_back : goal.returns-clause-rolled_back
returns-clause-rolled_back g c = λ honest held. inr (inr (returns-clause-gone g c honest))

pub returns-clause-keeps : goal.returns-clause-keeps
returns-clause-keeps g c =
    let first = c.drop_records-records in
    let second = c.give_back_all-locks in
    kept_joined g.F.Files c.args.files.now first.new.files second.new.files first.ensures.keeps second.ensures.keeps
    (λ quiet. worse_unfailed first.result second.result (none_of_done (giving_done first.result second.result _ (sym c.in_ok-given_back.ensures))))

pub returns-in_err-given_back-clause-keeps : goal.returns-in_err-given_back-clause-keeps
returns-in_err-given_back-clause-keeps g c =
    let first = c.drop_records-records in
    let second = c.give_back_all-locks in
    let error = c.in_err-given_back.field-0.0 in
    let p = err_from_is_err_and c.from_residual.result c.from_residual.ensures.1 in
    rw (p.1, p.2) (kept_joined g.F.Files c.args.files.now first.new.files second.new.files first.ensures.keeps second.ensures.keeps
    (λ short. worse_unfailed first.result second.result (giving_memory first.result second.result error (sym c.in_err-given_back.ensures) short)))
