use Rattle.std.proofs.Common.{refl, sym, ap, ◌∙◌, inl, subst, List, ℕ}
use Rattle.std.specs.Prelude.{is_some}
use Rattle.gix_ref_file.specs.History.{Adds}
use Rattle.gix_ref_file.proofs.Histories.{adds_weaker, adds_joined}
use Rattle.gix_ref_lock.specs.Locks.{OthersStay}
use Rattle.gix_ref_lock.proofs.Kept.{kept_joined}
use Rattle.gix_ref_lock.proofs.Needed.{told_cause, since}
use Rattle.std.proofs.lemmas.Result.{on_ok_weaker, err_from_is_err_and}
use Rattle.gix_ref_lock.specs.Contents.{lock_path_of}
use Rattle.gix_ref_lock.specs.Moments.{MayGo, IsGone}
use Rattle.gix_ref_lock.proofs.ActMoves.{going_file, giving_removed, is_removed}
use Rattle.gix_ref_lock.proofs.FileMoves.{on_told, now_of}
use Rattle.gix_ref_lock.proofs.steps.remove_locked.Goals as goal

pub returns-in_err-remove_file-clause-moments : goal.returns-in_err-remove_file-clause-moments
returns-in_err-remove_file-clause-moments g c = λ apart honest.
    let m = c.args.made.now in
    let old = g.F.Files.history c.args.files.now in
    let mid = g.F.Files.history c.remove_file.new.files in
    let first = subst (λ (p : List ℕ). Adds (MayGo p old.tree) old mid) c.deref.ensures.value (c.remove_file.ensures.moments honest) in
    adds_weaker old mid first (going_file m apart old.tree)

pub returns-clause-moments : goal.returns-clause-moments
returns-clause-moments g c = λ apart honest.
    let m = c.args.made.now in
    let old = g.F.Files.history c.args.files.now in
    let mid = g.F.Files.history c.remove_file.new.files in
    let new = g.F.Files.history c.give_back.new.files in
    let first = subst (λ (p : List ℕ). Adds (MayGo p old.tree) old mid) c.deref.ensures.value (c.remove_file.ensures.moments honest) in
    let gone = subst (λ (p : List ℕ). IsGone p old.tree mid.tree) c.deref.ensures.value (c.in_ok-remove_file.ensures.gone honest) in
    adds_joined old mid new (adds_weaker old mid first (going_file m apart old.tree))
    (adds_weaker mid new (c.give_back.ensures.moments (c.remove_file.ensures.keeps.honest honest)) (giving_removed m apart old.tree mid.tree gone))

pub returns-clause-made : goal.returns-clause-made
returns-clause-made g c = λ apart honest.
    let m = c.args.made.now in
    let old = g.F.Files.history c.args.files.now in
    let mid = g.F.Files.history c.remove_file.new.files in
    let new = g.F.Files.history c.give_back.new.files in
    let gone = subst (λ (p : List ℕ). IsGone p old.tree mid.tree) c.deref.ensures.value (c.in_ok-remove_file.ensures.gone honest) in
    let stay = now_of (OthersStay (lock_path_of m) mid.tree) mid new (λ path apart. refl) (c.give_back.ensures.moments (c.remove_file.ensures.keeps.honest honest)) in
    on_told _ c.outcome_of_call.result c.give_back.result tt c.outcome_of_call.ensures.done
    (on_ok_weaker c.give_back.result (is_removed m apart old.tree mid.tree gone new.tree stay) (c.give_back.ensures.gone (c.remove_file.ensures.keeps.honest honest)))

pub returns-clause-failed : goal.returns-clause-failed
returns-clause-failed g c = λ apart honest held.
    let m = c.args.made.now in
    let old = (g.F.Files.history c.args.files.now).tree in
    let mid = (g.F.Files.history c.remove_file.new.files).tree in
    let f = g.F.Files.failures in
    let gone = subst (λ (p : List ℕ). IsGone p old mid) c.deref.ensures.value (c.in_ok-remove_file.ensures.gone honest) in
    let there = ap is_some (gone.others (lock_path_of m) (λ e. apart.lock (sym e))) ∙ held in
    since g.F.Files.reading_may_fail (f c.args.files.now) (f c.remove_file.new.files) (f c.give_back.new.files) c.outcome_of_call.result c.remove_file.ensures.keeps.later
    (told_cause c.give_back.result c.outcome_of_call.result c.outcome_of_call.ensures.failed (λ failed. inl (c.give_back.ensures.held (c.remove_file.ensures.keeps.honest honest) there failed)))

pub returns-in_err-remove_file-clause-failed : goal.returns-in_err-remove_file-clause-failed
returns-in_err-remove_file-clause-failed g c = λ apart honest held.
    let p = err_from_is_err_and c.from_residual.result c.from_residual.ensures.1 in
    rw (p.1, p.2) (c.in_err-remove_file.ensures.failed honest)

pub returns-clause-keeps : goal.returns-clause-keeps
returns-clause-keeps g c =
    kept_joined g.F.Files c.args.files.now c.remove_file.new.files c.give_back.new.files c.in_ok-remove_file.ensures.keeps c.give_back.ensures.keeps (λ quiet. (tt, c.outcome_of_call.ensures.quiet (λ no. no) quiet))

pub returns-in_err-remove_file-clause-keeps : goal.returns-in_err-remove_file-clause-keeps
returns-in_err-remove_file-clause-keeps g c =
    let kept = c.in_err-remove_file.ensures.keeps in
    let p = err_from_is_err_and c.from_residual.result c.from_residual.ensures.1 in
    rw (p.1, p.2) (record { honest = kept.honest; later = kept.later; quiet = λ short. kept.quiet (λ no. no, short); folders = kept.folders })
