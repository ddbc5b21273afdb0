use Rattle.std.proofs.Common.{sym, subst, List}
use Rattle.gix_ref_file.specs.History.{Adds}
use Rattle.gix_ref_file.proofs.Histories.{adds_weaker}
use Rattle.gix_ref_lock.specs.Committing.{IsCommitted, OnTheWay, commit_paths}
use Rattle.std.proofs.lemmas.Result.{err_from_is_err_and}
use Rattle.gix_ref_way.specs.Ways.{FoldersOnlyOf}
use Rattle.gix_ref_lock.specs.Needs.{CanCommit, log_paths}
use Rattle.gix_ref_lock.specs.Moves.{Once}
use Rattle.gix_ref_lock.specs.declared.act.Move.{Move}
use Rattle.gix_ref_transaction.specs.Parts.{parts}
use Rattle.gix_ref_transaction.proofs.ReadingWays.{on_way, at_end}
use Rattle.gix_ref_transaction.proofs.Twice.{once_of}
use Rattle.gix_ref_transaction.proofs.transaction.Transaction.commit.Goals as goal

pub returns-in_err-commit-clause-moments : goal.returns-in_err-commit-clause-moments
returns-in_err-commit-clause-moments g c = λ honest.
    let t = c.args.self in
    let old = g.F.Files.history c.args.files.now in
    let new = g.F.Files.history c.commit.new.files in
    let once = subst (λ (ms : List Move). Once (commit_paths t.packed ms)) (sym c.deref.ensures.value) (once_of (commit_paths t.packed t.moves.items) t.once) in
    subst (λ (ms : List Move). Adds (OnTheWay t.packed ms old.tree) old new) c.deref.ensures.value (c.commit.ensures.moments once honest)

pub returns-clause-moments : goal.returns-clause-moments
returns-clause-moments g c = λ honest.
    let t = c.args.self in
    let old = g.F.Files.history c.args.files.now in
    let new = g.F.Files.history c.commit.new.files in
    let once = subst (λ (ms : List Move). Once (commit_paths t.packed ms)) (sym c.deref.ensures.value) (once_of (commit_paths t.packed t.moves.items) t.once) in
    subst (λ (ms : List Move). Adds (OnTheWay t.packed ms old.tree) old new) c.deref.ensures.value (c.commit.ensures.moments once honest)

pub returns-clause-done : goal.returns-clause-done
returns-clause-done g c = λ honest.
    let t = c.args.self in
    let old = (g.F.Files.history c.args.files.now).tree in
    let new = (g.F.Files.history c.commit.new.files).tree in
    let once = subst (λ (ms : List Move). Once (commit_paths t.packed ms)) (sym c.deref.ensures.value) (once_of (commit_paths t.packed t.moves.items) t.once) in
    subst (λ (ms : List Move). IsCommitted t.packed ms old new) c.deref.ensures.value (c.in_ok-commit.ensures.done once honest)

pub returns-in_err-commit-clause-on_way : goal.returns-in_err-commit-clause-on_way
returns-in_err-commit-clause-on_way g c = λ b packs removes before honest ready.
    let t = c.args.self in
    let old = g.F.Files.history c.args.files.now in
    let new = g.F.Files.history c.commit.new.files in
    let all = once_of (commit_paths t.packed t.moves.items) t.once in
    let once = subst (λ (ms : List Move). Once (commit_paths t.packed ms)) (sym c.deref.ensures.value) all in
    let ways = subst (λ (ms : List Move). Adds (OnTheWay t.packed ms old.tree) old new) c.deref.ensures.value (c.commit.ensures.moments once honest) in
    adds_weaker old new ways (λ x way. on_way b packs removes before old.tree (parts t) all ready x way)

pub returns-clause-on_way : goal.returns-clause-on_way
returns-clause-on_way g c = λ b packs removes before honest ready.
    let t = c.args.self in
    let old = g.F.Files.history c.args.files.now in
    let new = g.F.Files.history c.commit.new.files in
    let all = once_of (commit_paths t.packed t.moves.items) t.once in
    let once = subst (λ (ms : List Move). Once (commit_paths t.packed ms)) (sym c.deref.ensures.value) all in
    let ways = subst (λ (ms : List Move). Adds (OnTheWay t.packed ms old.tree) old new) c.deref.ensures.value (c.commit.ensures.moments once honest) in
    adds_weaker old new ways (λ x way. on_way b packs removes before old.tree (parts t) all ready x way)

pub returns-clause-read : goal.returns-clause-read
returns-clause-read g c = λ b packs removes before honest ready.
    let t = c.args.self in
    let old = (g.F.Files.history c.args.files.now).tree in
    let new = (g.F.Files.history c.commit.new.files).tree in
    let all = once_of (commit_paths t.packed t.moves.items) t.once in
    let once = subst (λ (ms : List Move). Once (commit_paths t.packed ms)) (sym c.deref.ensures.value) all in
    at_end b packs removes before old (parts t) all ready new (subst (λ (ms : List Move). IsCommitted t.packed ms old new) c.deref.ensures.value (c.in_ok-commit.ensures.done once honest))

pub returns-clause-folders : goal.returns-clause-folders
returns-clause-folders g c = λ honest.
    let t = c.args.self in
    let old = g.F.Files.history c.args.files.now in
    let new = g.F.Files.history c.commit.new.files in
    let once = subst (λ (ms : List Move). Once (commit_paths t.packed ms)) (sym c.deref.ensures.value) (once_of (commit_paths t.packed t.moves.items) t.once) in
    subst (λ (ms : List Move). Adds (FoldersOnlyOf (log_paths ms) old.tree) old new) c.deref.ensures.value (c.commit.ensures.folders once honest)

pub returns-in_err-commit-clause-folders : goal.returns-in_err-commit-clause-folders
returns-in_err-commit-clause-folders g c = λ honest.
    let t = c.args.self in
    let old = g.F.Files.history c.args.files.now in
    let new = g.F.Files.history c.commit.new.files in
    let once = subst (λ (ms : List Move). Once (commit_paths t.packed ms)) (sym c.deref.ensures.value) (once_of (commit_paths t.packed t.moves.items) t.once) in
    subst (λ (ms : List Move). Adds (FoldersOnlyOf (log_paths ms) old.tree) old new) c.deref.ensures.value (c.commit.ensures.folders once honest)

pub returns-in_err-commit-clause-failed : goal.returns-in_err-commit-clause-failed
returns-in_err-commit-clause-failed g c = λ honest can.
    let t = c.args.self in
    let old = (g.F.Files.history c.args.files.now).tree in
    let once = subst (λ (ms : List Move). Once (commit_paths t.packed ms)) (sym c.deref.ensures.value) (once_of (commit_paths t.packed t.moves.items) t.once) in
    let own = subst (λ (ms : List Move). CanCommit t.packed ms old) (sym c.deref.ensures.value) can in
    let p = err_from_is_err_and c.from_residual.result c.from_residual.ensures.1 in
    rw (p.1, p.2) (c.in_err-commit.ensures.failed once honest own)

pub returns-in_err-commit-clause-keeps : goal.returns-in_err-commit-clause-keeps
returns-in_err-commit-clause-keeps g c =
    let p = err_from_is_err_and c.from_residual.result c.from_residual.ensures.1 in
    rw (p.1, p.2) c.in_err-commit.ensures.keeps
