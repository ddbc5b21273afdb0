use Rattle.std.proofs.Common.{refl, inl, subst}
use Rattle.gix_ref_file.proofs.Histories.{adds_weaker}
use Rattle.gix_ref_lock.specs.Locks.{OthersStay}
use Rattle.std.proofs.lemmas.Result.{on_ok_weaker}
use Rattle.gix_ref_lock.specs.Contents.{contents, lock_path_of}
use Rattle.gix_ref_lock.specs.Needs.{KeepsLock}
use Rattle.gix_ref_lock.proofs.Needed.{told_cause}
use Rattle.gix_ref_lock.proofs.ActMoves.{pack_goes, pack_gone, file_goes, file_gone, giving_forgotten, is_given}
use Rattle.gix_ref_lock.proofs.FileMoves.{on_told, now_of}
use Rattle.gix_ref_lock.proofs.steps.remove.Goals as goal

pub returns-in-Pack-clause-moments : goal.returns-in-Pack-clause-moments
returns-in-Pack-clause-moments g c = λ apart honest.
    let m = c.args.made.now in
    let old = g.F.Files.history c.args.files.now in
    adds_weaker old (g.F.Files.history c.remove_locked.new.files) (c.remove_locked.ensures.moments apart honest) (λ x may. pack_goes m apart c.in-Pack.field-0 c.in-Pack.is old.tree x may)

pub returns-in-Pack-clause-made : goal.returns-in-Pack-clause-made
returns-in-Pack-clause-made g c = λ apart honest.
    let m = c.args.made.now in
    let old = (g.F.Files.history c.args.files.now).tree in
    let new = (g.F.Files.history c.remove_locked.new.files).tree in
    on_ok_weaker c.remove_locked.result (pack_gone m apart c.in-Pack.field-0 c.in-Pack.is old new) (c.remove_locked.ensures.made apart honest)

pub returns-in-Remove-clause-moments : goal.returns-in-Remove-clause-moments
returns-in-Remove-clause-moments g c = λ apart honest.
    let m = c.args.made.now in
    let old = g.F.Files.history c.args.files.now in
    adds_weaker old (g.F.Files.history c.remove_locked-in-Remove.new.files) (c.remove_locked-in-Remove.ensures.moments apart honest) (λ x may. file_goes m apart c.in-Remove.is old.tree x may)

pub returns-in-Remove-clause-made : goal.returns-in-Remove-clause-made
returns-in-Remove-clause-made g c = λ apart honest.
    let m = c.args.made.now in
    let old = (g.F.Files.history c.args.files.now).tree in
    let new = (g.F.Files.history c.remove_locked-in-Remove.new.files).tree in
    on_ok_weaker c.remove_locked-in-Remove.result (file_gone m apart c.in-Remove.is old new) (c.remove_locked-in-Remove.ensures.made apart honest)

pub returns-in-Forget-clause-moments : goal.returns-in-Forget-clause-moments
returns-in-Forget-clause-moments g c = λ apart honest.
    let m = c.args.made.now in
    let old = g.F.Files.history c.args.files.now in
    let new = g.F.Files.history c.give_back.new.files in
    adds_weaker old new (c.give_back.ensures.moments honest) (giving_forgotten m apart old.tree c.in-Forget.is)

pub returns-in-Forget-clause-made : goal.returns-in-Forget-clause-made
returns-in-Forget-clause-made g c = λ apart honest.
    let m = c.args.made.now in
    let old = g.F.Files.history c.args.files.now in
    let new = g.F.Files.history c.give_back.new.files in
    let stay = now_of (OthersStay (lock_path_of m) old.tree) old new (λ path apart. refl) (c.give_back.ensures.moments honest) in
    on_told _ c.outcome_of_call.result c.give_back.result tt c.outcome_of_call.ensures.done
    (on_ok_weaker c.give_back.result (is_given m apart old.tree c.in-Forget.is new.tree stay) (c.give_back.ensures.gone honest))

pub returns-in-Pack-clause-failed : goal.returns-in-Pack-clause-failed
returns-in-Pack-clause-failed g c = λ apart honest kept.
    let m = c.args.made.now in
    let old = (g.F.Files.history c.args.files.now).tree in
    c.remove_locked.ensures.failed apart honest (subst (λ act. KeepsLock act (contents m old)) c.in-Pack.is kept)

pub returns-in-Remove-clause-failed : goal.returns-in-Remove-clause-failed
returns-in-Remove-clause-failed g c = λ apart honest kept.
    let m = c.args.made.now in
    let old = (g.F.Files.history c.args.files.now).tree in
    c.remove_locked-in-Remove.ensures.failed apart honest (subst (λ act. KeepsLock act (contents m old)) c.in-Remove.is kept)

pub returns-in-Forget-clause-failed : goal.returns-in-Forget-clause-failed
returns-in-Forget-clause-failed g c = λ apart honest kept.
    let m = c.args.made.now in
    let old = (g.F.Files.history c.args.files.now).tree in
    told_cause c.give_back.result c.outcome_of_call.result c.outcome_of_call.ensures.failed (λ failed. inl (c.give_back.ensures.held honest (subst (λ act. KeepsLock act (contents m old)) c.in-Forget.is kept) failed))

pub returns-in-Forget-clause-keeps : goal.returns-in-Forget-clause-keeps
returns-in-Forget-clause-keeps g c =
    let kept = c.give_back.ensures.keeps in
    record { honest = kept.honest; later = kept.later; quiet = λ quiet. kept.quiet (c.outcome_of_call.ensures.quiet (λ no. no) quiet); folders = kept.folders }
