use Rattle.std.proofs.Common.{◌≡◌, ◌∙◌, inl, refl, sym, ap, subst, [], ◌∷◌}
use Rattle.std.specs.Prelude.{is_some, Err}
use Rattle.std.proofs.lemmas.Result.{err_from_is_err_and}
use Rattle.gix_ref_file.specs.History.{HasRisen}
use Rattle.gix_ref_file.specs.Tree.{is_path, bytes_of}
use Rattle.gix_ref_file.proofs.Histories.{adds_weaker}
use Rattle.gix_ref_lock.specs.Locks.{lock_of, OthersStay, IsTaken}
use Rattle.gix_ref_lock.proofs.FileMoves.{now_of, same_now}
use Rattle.gix_ref_lock.proofs.Kept.{honest_joined, honest_of}
use Rattle.gix_ref_lock.proofs.LockPaths.{same_files}
use Rattle.gix_ref_way.proofs.Rooms.{only_now}
use Rattle.gix_ref_transaction.proofs.Counting.{counts_file, file_memory}
use Rattle.gix_ref_transaction.proofs.Plannings.{keeps_same}
use Rattle.gix_ref_transaction.proofs.Rollbacks.{same_more, trees_more, more_after, untaken}
use Rattle.gix_ref_transaction.proofs.Takings.{blamed, file_no_lock, file_take, found_so, lock_folders, lock_keeps, lock_moments, still_free, still_room}
use Rattle.gix_ref_transaction.proofs.plan.take.Goals as goal

-- ---- no room
pub returns-in_err-clear-clause-moments : goal.returns-in_err-clear-clause-moments
returns-in_err-clear-clause-moments g c = λ honest.
    let old = g.F.Files.history c.args.files.now in
    adds_weaker old (g.F.Files.history c.clear.new.files) (c.clear.ensures.moments honest) (same_files old.tree)

pub returns-in_err-clear-clause-stay : goal.returns-in_err-clear-clause-stay
returns-in_err-clear-clause-stay g c = λ honest.
    let old = g.F.Files.history c.args.files.now in
    let mid = g.F.Files.history c.clear.new.files in
    keeps_same old.tree mid.tree (same_now old mid (c.clear.ensures.moments honest))

pub returns-in_err-clear-clause-failed : goal.returns-in_err-clear-clause-failed
returns-in_err-clear-clause-failed g c =
    let p = err_from_is_err_and c.from_residual.result c.from_residual.ensures.1 in
    rw (p.1, p.2) c.in_err-clear.ensures.failed

-- ---- the lock can't be made
pub returns-in_err-made-clause-moments : goal.returns-in_err-made-clause-moments
returns-in_err-made-clause-moments g c = λ honest.
    lock_moments c.args.place.now (g.F.Files.history c.args.files.now) (g.F.Files.history c.clear.new.files) (g.F.Files.history c.acquire.new.files) (c.clear.ensures.moments honest) (c.acquire.ensures.moments (c.clear.ensures.keeps.honest honest))

pub returns-in_err-made-clause-folders : goal.returns-in_err-made-clause-folders
returns-in_err-made-clause-folders g c = λ honest.
    lock_folders c.args.place.now (g.F.Files.history c.args.files.now) (g.F.Files.history c.clear.new.files) (g.F.Files.history c.acquire.new.files) (c.clear.ensures.folders honest) (c.acquire.ensures.keeps.folders (c.clear.ensures.keeps.honest honest))

pub returns-in_err-made-clause-stay : goal.returns-in_err-made-clause-stay
returns-in_err-made-clause-stay g c = λ honest.
    lock_keeps c.args.place.now (g.F.Files.history c.args.files.now) (g.F.Files.history c.clear.new.files) (g.F.Files.history c.acquire.new.files) (c.clear.ensures.moments honest) (c.acquire.ensures.moments (c.clear.ensures.keeps.honest honest)) (c.acquire.ensures.fresh (c.clear.ensures.keeps.honest honest))

pub returns-in_err-made-clause-failed : goal.returns-in_err-made-clause-failed
returns-in_err-made-clause-failed g c =
    let p = err_from_is_err_and c.from_residual-in_err-made.result c.from_residual-in_err-made.ensures.1 in
    rw (p.1, p.2) (file_take g.F.Files.reading_may_fail c.in_err-made.field-0.0)

-- ---- it exists already
pub returns-in-None-clause-moments : goal.returns-in-None-clause-moments
returns-in-None-clause-moments g c = λ honest.
    lock_moments c.args.place.now (g.F.Files.history c.args.files.now) (g.F.Files.history c.clear.new.files) (g.F.Files.history c.acquire.new.files) (c.clear.ensures.moments honest) (c.acquire.ensures.moments (c.clear.ensures.keeps.honest honest))

pub returns-in-None-clause-folders : goal.returns-in-None-clause-folders
returns-in-None-clause-folders g c = λ honest.
    lock_folders c.args.place.now (g.F.Files.history c.args.files.now) (g.F.Files.history c.clear.new.files) (g.F.Files.history c.acquire.new.files) (c.clear.ensures.folders honest) (c.acquire.ensures.keeps.folders (c.clear.ensures.keeps.honest honest))

pub returns-in-None-clause-stay : goal.returns-in-None-clause-stay
returns-in-None-clause-stay g c = λ honest.
    lock_keeps c.args.place.now (g.F.Files.history c.args.files.now) (g.F.Files.history c.clear.new.files) (g.F.Files.history c.acquire.new.files) (c.clear.ensures.moments honest) (c.acquire.ensures.moments (c.clear.ensures.keeps.honest honest)) (c.acquire.ensures.fresh (c.clear.ensures.keeps.honest honest))

-- ---- it is made
pub returns-in-Some-clause-moments : goal.returns-in-Some-clause-moments
returns-in-Some-clause-moments g c = λ honest.
    lock_moments c.args.place.now (g.F.Files.history c.args.files.now) (g.F.Files.history c.clear.new.files) (g.F.Files.history c.acquire.new.files) (c.clear.ensures.moments honest) (c.acquire.ensures.moments (c.clear.ensures.keeps.honest honest))

pub returns-in-Some-clause-folders : goal.returns-in-Some-clause-folders
returns-in-Some-clause-folders g c = λ honest.
    lock_folders c.args.place.now (g.F.Files.history c.args.files.now) (g.F.Files.history c.clear.new.files) (g.F.Files.history c.acquire.new.files) (c.clear.ensures.folders honest) (c.acquire.ensures.keeps.folders (c.clear.ensures.keeps.honest honest))

pub returns-in-Some-clause-stay : goal.returns-in-Some-clause-stay
returns-in-Some-clause-stay g c = λ honest.
    lock_keeps c.args.place.now (g.F.Files.history c.args.files.now) (g.F.Files.history c.clear.new.files) (g.F.Files.history c.acquire.new.files) (c.clear.ensures.moments honest) (c.acquire.ensures.moments (c.clear.ensures.keeps.honest honest)) (c.acquire.ensures.fresh (c.clear.ensures.keeps.honest honest))

pub returns-in-Some-clause-place : goal.returns-in-Some-clause-place
returns-in-Some-clause-place g c = found_so (λ lock. lock.place.items ≡ c.args.place.now) c.in_ok-made.made c.in-Some.lock c.in-Some.is c.in_ok-made.ensures.place

-- ---- what is kept and left
pub returns-in_err-clear-clause-keeps : goal.returns-in_err-clear-clause-keeps
returns-in_err-clear-clause-keeps g c =
    let p = err_from_is_err_and c.from_residual.result c.from_residual.ensures.1 in
    rw (p.1, p.2) c.in_err-clear.ensures.keeps

pub returns-in_err-clear-clause-untaken : goal.returns-in_err-clear-clause-untaken
returns-in_err-clear-clause-untaken g c = λ honest.
    let old = g.F.Files.history c.args.files.now in
    let mid = g.F.Files.history c.clear.new.files in
    let p = err_from_is_err_and c.from_residual.result c.from_residual.ensures.1 in
    rw (p.1, p.2) (record {
      refused = λ is can. c.in_err-clear.ensures.refused honest is can.way;
      counted = c.in_err-clear.ensures.counted honest;
      rolled_back = inl (same_more old.tree mid.tree (same_now old mid (c.clear.ensures.moments honest)));
    })

pub returns-in_err-made-clause-keeps : goal.returns-in_err-made-clause-keeps
returns-in_err-made-clause-keeps g c =
    let p = err_from_is_err_and c.from_residual-in_err-made.result c.from_residual-in_err-made.ensures.1 in
    rw (p.1, p.2) (honest_joined g.F.Files c.args.files.now c.clear.new.files c.acquire.new.files c.in_ok-clear.ensures.keeps (honest_of g.F.Files c.clear.new.files c.acquire.new.files c.in_err-made.ensures.keeps)
    (λ other. (tt, file_memory c.in_err-made.field-0.0 other)))

pub returns-in_err-made-clause-untaken : goal.returns-in_err-made-clause-untaken
returns-in_err-made-clause-untaken g c = λ honest.
    let f = g.F.Files.failures in
    let old = g.F.Files.history c.args.files.now in
    let mid = g.F.Files.history c.clear.new.files in
    let new = g.F.Files.history c.acquire.new.files in
    let then = c.clear.ensures.keeps.honest honest in
    let still = c.in_ok-clear.ensures.keeps.quiet tt in
    let error = c.in_err-made.field-0.0 in
    let p = err_from_is_err_and c.from_residual-in_err-made.result c.from_residual-in_err-made.ensures.1 in
    rw (p.1, p.2) (record {
      refused = λ is. absurd (file_no_lock error is);
      counted = counts_file error (f c.args.files.now) (f c.acquire.new.files)
          (λ is. subst (λ n. HasRisen n (f c.acquire.new.files)) still (blamed (HasRisen (f c.clear.new.files) (f c.acquire.new.files)) (is_path (lock_of c.args.place.now)) c.requires.1
          ((c.in_err-made.ensures.failed then (ap Err is)).blamed (c.in_ok-clear.ensures.room honest))));
      rolled_back = untaken error (f c.args.files.now) (f c.clear.new.files) (f c.acquire.new.files) old.tree mid.tree new.tree c.clear.ensures.keeps.later
          (same_more old.tree mid.tree (same_now old mid (c.clear.ensures.moments honest))) (λ is. (c.in_err-made.ensures.failed then (ap Err is)).refused);
    })

pub returns-in-None-clause-keeps : goal.returns-in-None-clause-keeps
returns-in-None-clause-keeps g c =
    honest_joined g.F.Files c.args.files.now c.clear.new.files c.acquire.new.files c.in_ok-clear.ensures.keeps (honest_of g.F.Files c.clear.new.files c.acquire.new.files c.in_ok-made.ensures.keeps) (λ other. (tt, tt))

pub returns-in-None-clause-untaken : goal.returns-in-None-clause-untaken
returns-in-None-clause-untaken g c = λ honest.
    let old = g.F.Files.history c.args.files.now in
    let mid = g.F.Files.history c.clear.new.files in
    let new = g.F.Files.history c.acquire.new.files in
    let place = c.args.place.now in
    let busy = c.in_ok-made.ensures.busy (c.clear.ensures.keeps.honest honest) c.in-None.is in
    let same = same_now old mid (c.clear.ensures.moments honest) in
    record {
      refused = λ is can. busy.held (still_free place old.tree mid.tree same (only_now (place ∷ []) old mid (c.clear.ensures.folders honest)) can.free);
      counted = tt;
      rolled_back = inl (λ path there. same_more old.tree mid.tree same path (trees_more mid.tree new.tree busy.kept path there));
    }

pub returns-in-Some-clause-keeps : goal.returns-in-Some-clause-keeps
returns-in-Some-clause-keeps g c =
    honest_joined g.F.Files c.args.files.now c.clear.new.files c.acquire.new.files c.in_ok-clear.ensures.keeps (honest_of g.F.Files c.clear.new.files c.acquire.new.files c.in_ok-made.ensures.keeps) (λ quiet. (tt, tt))

pub returns-in-Some-clause-taken : goal.returns-in-Some-clause-taken
returns-in-Some-clause-taken g c = λ honest.
    let old = g.F.Files.history c.args.files.now in
    let mid = g.F.Files.history c.clear.new.files in
    let new = g.F.Files.history c.acquire.new.files in
    let then = c.clear.ensures.keeps.honest honest in
    let lock = lock_of c.args.place.now in
    let same = same_now old mid (c.clear.ensures.moments honest) in
    let taken = found_so (λ found. IsTaken lock mid.tree new.tree) c.in_ok-made.made c.in-Some.lock c.in-Some.is (c.in_ok-made.ensures.taken then) in
    let stay = now_of (OthersStay lock mid.tree) mid new (λ path apart. refl) (c.acquire.ensures.moments then) in
    record {
      free = sym (same lock) ∙ ap bytes_of taken.free;
      locked = more_after lock old.tree mid.tree new.tree (same_more old.tree mid.tree same) stay;
      held = ap (λ n. is_some (bytes_of n)) taken.held;
      room = still_room c.args.place.now mid new (c.acquire.ensures.keeps.folders then) (c.in_ok-clear.ensures.room honest);
    }
