use Rattle.std.proofs.Common.{subst, None, inl, inr, ⊎_elim, arith}
use Rattle.std.proofs.lemmas.Result.{on_ok_weaker, err_from_is_err_and}
use Rattle.gix_ref_file.proofs.Histories.{adds_weaker, adds_joined}
use Rattle.gix_ref_way.proofs.Rooms.{only_now, onlys_joined, onlys_same}
use Rattle.gix_ref_lock.specs.Committing.{OnTheWay}
use Rattle.gix_ref_lock.specs.Needs.{log_paths, IsOutOfMemory}
use Rattle.gix_ref_lock.proofs.Needed.{after_cause, since, wider as longer, moves_beside, locks_kept, locked_stays, replace_stays}
use Rattle.gix_ref_lock.proofs.FileMoves.{now_of}
use Rattle.gix_ref_lock.proofs.OnWays.{once_moves, wider, replacing, removing, is_committed, then_shown, way_begins, way_dropped}
use Rattle.gix_ref_lock.proofs.Kept.{honest_joined, honest_of}
use Rattle.gix_ref_lock.proofs.commit.make.Goals as goal

pub returns-in_err-replace_packed-in-Ok-clause-moments : goal.returns-in_err-replace_packed-in-Ok-clause-moments
returns-in_err-replace_packed-in-Ok-clause-moments g c = λ once honest.
    let old = g.F.Files.history c.args.files.now in
    let mid = g.F.Files.history c.show_updates.new.files in
    let new = g.F.Files.history c.replace_packed.new.files in
    let t = c.args.packed in
    let ms = c.args.moves.now in
    let shown = c.in-Ok.ensures.shown (once_moves t ms once) honest in
    adds_joined old mid new (adds_weaker old mid (c.show_updates.ensures.moments (once_moves t ms once) honest) (λ x way. wider t ms old.tree x once way))
    (adds_weaker mid new (c.replace_packed.ensures.moments (c.show_updates.ensures.keeps.honest honest)) (replacing t ms old.tree mid.tree once shown))

pub returns-in_ok-replace_packed-in-Ok-clause-moments : goal.returns-in_ok-replace_packed-in-Ok-clause-moments
returns-in_ok-replace_packed-in-Ok-clause-moments g c = λ once honest.
    let old = g.F.Files.history c.args.files.now in
    let mid = g.F.Files.history c.show_updates.new.files in
    let then = g.F.Files.history c.replace_packed.new.files in
    let new = g.F.Files.history c.make_all.new.files in
    let t = c.args.packed in
    let ms = c.args.moves.now in
    let own = once_moves t ms once in
    let shown = c.in-Ok.ensures.shown own honest in
    let still = c.show_updates.ensures.keeps.honest honest in
    let replaced = c.in_ok-replace_packed-in-Ok.ensures.replaced still in
    adds_joined old then new
    (adds_joined old mid then (adds_weaker old mid (c.show_updates.ensures.moments own honest) (λ x way. wider t ms old.tree x once way))
    (adds_weaker mid then (c.replace_packed.ensures.moments still) (replacing t ms old.tree mid.tree once shown)))
    (adds_weaker then new (c.make_all.ensures.moments own (c.replace_packed.ensures.keeps.honest still)) (removing t ms old.tree mid.tree once shown then.tree replaced))

pub returns-in_ok-replace_packed-in-Ok-clause-done : goal.returns-in_ok-replace_packed-in-Ok-clause-done
returns-in_ok-replace_packed-in-Ok-clause-done g c = λ once honest.
    let old = (g.F.Files.history c.args.files.now).tree in
    let mid = (g.F.Files.history c.show_updates.new.files).tree in
    let then = (g.F.Files.history c.replace_packed.new.files).tree in
    let new = (g.F.Files.history c.make_all.new.files).tree in
    let t = c.args.packed in
    let ms = c.args.moves.now in
    let own = once_moves t ms once in
    let shown = c.in-Ok.ensures.shown own honest in
    let still = c.show_updates.ensures.keeps.honest honest in
    let replaced = c.in_ok-replace_packed-in-Ok.ensures.replaced still in
    on_ok_weaker c.make_all.result (is_committed t ms old mid once shown then replaced new) (c.make_all.ensures.made own (c.replace_packed.ensures.keeps.honest still))

pub returns-in-Err-clause-moments : goal.returns-in-Err-clause-moments
returns-in-Err-clause-moments g c = λ once honest.
    let old = g.F.Files.history c.args.files.now in
    let mid = g.F.Files.history c.show_updates.new.files in
    let new = g.F.Files.history c.drop_packed.new.files in
    let t = c.args.packed in
    let ms = c.args.moves.now in
    let first = adds_weaker old mid (c.show_updates.ensures.moments (once_moves t ms once) honest) (λ x way. wider t ms old.tree x once way) in
    let way = now_of (OnTheWay t ms old.tree) old mid (way_begins t ms old.tree) first in
    adds_joined old mid new first
    (adds_weaker mid new (c.drop_packed.ensures.moments (c.show_updates.ensures.keeps.honest honest)) (λ x keeps. way_dropped t ms old.tree mid.tree x once way keeps))

pub returns-in_err-replace_packed-in-Ok-clause-folders : goal.returns-in_err-replace_packed-in-Ok-clause-folders
returns-in_err-replace_packed-in-Ok-clause-folders g c = λ once honest.
    let old = g.F.Files.history c.args.files.now in
    let mid = g.F.Files.history c.show_updates.new.files in
    let t = c.args.packed in
    let ms = c.args.moves.now in
    let own = once_moves t ms once in
    let still = c.show_updates.ensures.keeps.honest honest in
    let new = g.F.Files.history c.replace_packed.new.files in
    onlys_joined (log_paths ms) old mid new (c.show_updates.ensures.folders own honest) (onlys_same (log_paths ms) mid new (c.replace_packed.ensures.keeps.folders still))

pub returns-in_err-replace_packed-in-Ok-clause-failed : goal.returns-in_err-replace_packed-in-Ok-clause-failed
returns-in_err-replace_packed-in-Ok-clause-failed g c = λ once honest can.
    let old = g.F.Files.history c.args.files.now in
    let mid = g.F.Files.history c.show_updates.new.files in
    let t = c.args.packed in
    let ms = c.args.moves.now in
    let own = once_moves t ms once in
    let still = c.show_updates.ensures.keeps.honest honest in
    let shown = c.in-Ok.ensures.shown own honest in
    let only = only_now (log_paths ms) old mid (c.show_updates.ensures.folders own honest) in
    let fails = c.in_err-replace_packed-in-Ok.ensures.failed still (replace_stays t ms old.tree mid.tree once can.apart only shown.others can.packed) in
    let f = g.F.Files.failures in
    let p = err_from_is_err_and c.from_residual.result c.from_residual.ensures.1 in
    rw (p.1, p.2) (⊎_elim inl (λ fault. inr (longer (f c.args.files.now) (f c.show_updates.new.files) (f c.replace_packed.new.files) (f c.replace_packed.new.files) c.show_updates.ensures.keeps.later (omega arith) fault)) fails)

pub returns-in_ok-replace_packed-in-Ok-clause-folders : goal.returns-in_ok-replace_packed-in-Ok-clause-folders
returns-in_ok-replace_packed-in-Ok-clause-folders g c = λ once honest.
    let old = g.F.Files.history c.args.files.now in
    let mid = g.F.Files.history c.show_updates.new.files in
    let t = c.args.packed in
    let ms = c.args.moves.now in
    let own = once_moves t ms once in
    let still = c.show_updates.ensures.keeps.honest honest in
    let then = g.F.Files.history c.replace_packed.new.files in
    let new = g.F.Files.history c.make_all.new.files in
    onlys_joined (log_paths ms) old then new
    (onlys_joined (log_paths ms) old mid then (c.show_updates.ensures.folders own honest) (onlys_same (log_paths ms) mid then (c.replace_packed.ensures.keeps.folders still)))
    (c.make_all.ensures.folders own (c.replace_packed.ensures.keeps.honest still))

pub returns-in_ok-replace_packed-in-Ok-clause-failed : goal.returns-in_ok-replace_packed-in-Ok-clause-failed
returns-in_ok-replace_packed-in-Ok-clause-failed g c = λ once honest can.
    let old = g.F.Files.history c.args.files.now in
    let mid = g.F.Files.history c.show_updates.new.files in
    let t = c.args.packed in
    let ms = c.args.moves.now in
    let own = once_moves t ms once in
    let still = c.show_updates.ensures.keeps.honest honest in
    let then = (g.F.Files.history c.replace_packed.new.files).tree in
    let shown = c.in-Ok.ensures.shown own honest in
    let replaced = c.in_ok-replace_packed-in-Ok.ensures.replaced still in
    let f = g.F.Files.failures in
    since g.F.Files.reading_may_fail (f c.args.files.now) (f c.replace_packed.new.files) (f c.make_all.new.files) c.make_all.result (omega (arith, c.show_updates.ensures.keeps.later, c.replace_packed.ensures.keeps.later))
    (c.make_all.ensures.failed own (moves_beside t ms can.apart) (c.replace_packed.ensures.keeps.honest still) (locks_kept ms old.tree then (then_shown t ms old.tree mid.tree once shown then replaced) can.each))

pub returns-in-Err-clause-folders : goal.returns-in-Err-clause-folders
returns-in-Err-clause-folders g c = λ once honest.
    let old = g.F.Files.history c.args.files.now in
    let mid = g.F.Files.history c.show_updates.new.files in
    let t = c.args.packed in
    let ms = c.args.moves.now in
    let own = once_moves t ms once in
    let still = c.show_updates.ensures.keeps.honest honest in
    let new = g.F.Files.history c.drop_packed.new.files in
    onlys_joined (log_paths ms) old mid new (c.show_updates.ensures.folders own honest) (onlys_same (log_paths ms) mid new (c.drop_packed.ensures.keeps.folders still))

pub returns-in-Err-clause-failed : goal.returns-in-Err-clause-failed
returns-in-Err-clause-failed g c = λ once honest can.
    let old = g.F.Files.history c.args.files.now in
    let mid = g.F.Files.history c.show_updates.new.files in
    let t = c.args.packed in
    let ms = c.args.moves.now in
    let own = once_moves t ms once in
    let f = g.F.Files.failures in
    let first = adds_weaker old mid (c.show_updates.ensures.moments own honest) (λ x showing. showing.way) in
    let way = now_of (OnTheWay None ms old.tree) old mid (way_begins None ms old.tree) first in
    after_cause (f c.args.files.now) (f c.show_updates.new.files) (f c.drop_packed.new.files) c.in-Err.error c.after.result c.drop_packed.result c.show_updates.ensures.keeps.later c.drop_packed.ensures.keeps.later
    (c.in-Err.ensures.failed own (moves_beside t ms can.apart) honest can.each) c.after.ensures.told
    (λ failed. inl (c.drop_packed.ensures.failed (c.show_updates.ensures.keeps.honest honest) (locked_stays t ms old.tree mid.tree once way.others can.packed) failed))

pub returns-in-Err-clause-keeps : goal.returns-in-Err-clause-keeps
returns-in-Err-clause-keeps g c =
    honest_joined g.F.Files c.args.files.now c.show_updates.new.files c.drop_packed.new.files c.in-Err.ensures.keeps (honest_of g.F.Files c.show_updates.new.files c.drop_packed.new.files c.drop_packed.ensures.keeps)
    (λ short. let kept = c.after.ensures.kept short in (subst IsOutOfMemory kept.0 short, kept.1))
