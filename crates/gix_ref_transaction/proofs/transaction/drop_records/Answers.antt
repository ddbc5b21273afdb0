use Rattle.std.proofs.Common.{◌∙◌, ◌≡◌, refl, sym, None}
use Rattle.gix_ref_file.specs.History.{HasRisen}
use Rattle.gix_ref_file.specs.Tree.{node_at}
use Rattle.gix_ref_file.proofs.Histories.{adds_weaker}
use Rattle.gix_ref_lock.specs.Locks.{OthersStay}
use Rattle.gix_ref_lock.proofs.FileMoves.{now_of}
use Rattle.gix_ref_lock.proofs.LockPaths.{one_lock}
use Rattle.gix_ref_transaction.proofs.Givings.{commit_done, commit_failed, commit_quiet}
use Rattle.gix_ref_transaction.proofs.Rollbacks.{none_gone, records_gone, records_held, records_others}
use Rattle.gix_ref_transaction.proofs.transaction.drop_records.Goals as goal

pub returns-in-Some-clause-moments : goal.returns-in-Some-clause-moments
returns-in-Some-clause-moments g c = λ honest.
    let old = g.F.Files.history c.args.files.now in
    let lock = c.in-Some.packed.lock in
    adds_weaker old (g.F.Files.history c.rollback.new.files) (c.rollback.ensures.moments honest) (one_lock lock.place.items lock.path.items lock.beside old.tree)

pub returns-in-Some-clause-failed : goal.returns-in-Some-clause-failed
returns-in-Some-clause-failed g c = λ honest held is.
    let f = g.F.Files.failures in
    commit_failed (HasRisen (f c.args.files.now) (f c.rollback.new.files)) c.rollback.result
    (c.rollback.ensures.failed honest (records_held c.args.packed c.in-Some.packed (g.F.Files.history c.args.files.now).tree c.in-Some.is held)) (sym c.of_commit.ensures ∙ is)

pub returns-in-Some-clause-gone : goal.returns-in-Some-clause-gone
returns-in-Some-clause-gone g c = λ honest is.
    let old = g.F.Files.history c.args.files.now in
    let new = g.F.Files.history c.rollback.new.files in
    let lock = c.in-Some.packed.lock in
    let stay = now_of (OthersStay lock.path.items old.tree) old new (λ path apart. refl) (c.rollback.ensures.moments honest) in
    records_gone c.args.packed c.in-Some.packed old.tree new.tree c.in-Some.is stay
    (commit_done {P = node_at new.tree lock.path.items ≡ None} c.rollback.result (c.rollback.ensures.gone honest) (sym c.of_commit.ensures ∙ is))

pub returns-in-None-clause-gone : goal.returns-in-None-clause-gone
returns-in-None-clause-gone g c = λ honest is. none_gone c.args.packed (g.F.Files.history c.args.files.now).tree c.in-None.is

pub returns-in-Some-clause-others : goal.returns-in-Some-clause-others
returns-in-Some-clause-others g c = λ honest.
    let old = g.F.Files.history c.args.files.now in
    let new = g.F.Files.history c.rollback.new.files in
    records_others c.args.packed c.in-Some.packed old.tree new.tree c.in-Some.is (now_of (OthersStay c.in-Some.packed.lock.path.items old.tree) old new (λ path apart. refl) (c.rollback.ensures.moments honest))

pub returns-in-Some-clause-keeps : goal.returns-in-Some-clause-keeps
returns-in-Some-clause-keeps g c =
    let kept = c.rollback.ensures.keeps in
    record { honest = kept.honest; later = kept.later; quiet = λ none. kept.quiet (commit_quiet c.rollback.result (λ is. none (c.of_commit.ensures ∙ is))); folders = kept.folders }
