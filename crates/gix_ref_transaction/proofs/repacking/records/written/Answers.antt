use Rattle.std.proofs.Common.{◌∙◌, ap, sym, map, subst, inl, inr, ⊎_elim, List, ℕ}
use Rattle.std.specs.Prelude.{is_some}
use Rattle.std.proofs.lemmas.Result.{err_from_is_err_and}
use Rattle.gix_ref_file.specs.Tree.{bytes_of}
use Rattle.gix_ref_file.specs.Changes.{is_file_at}
use Rattle.gix_ref_way.specs.Ways.{file_at}
use Rattle.gix_ref_file.specs.History.{Adds}
use Rattle.gix_ref_lock.specs.Locks.{lock_of, OthersStay}
use Rattle.gix_ref_lock.specs.RecordEdits.{line_in}
use Rattle.gix_ref_lock.proofs.GivenUp.{second_half}
use Rattle.gix_ref_lock.proofs.Kept.{kept_joined}
use Rattle.gix_ref_lock.proofs.LockLemmas.{others_joined}
use Rattle.gix_ref_transaction.proofs.RecordLines.{holds_records, known_of}
use Rattle.gix_ref_transaction.proofs.repacking.records.written.Goals as goal

pub returns-in_err-prepared-clause-moments : goal.returns-in_err-prepared-clause-moments
returns-in_err-prepared-clause-moments g c = λ honest.
    let old = g.F.Files.history c.args.files.now in
    let mid = g.F.Files.history c.new.new.files in
    let new = g.F.Files.history c.prepare.new.files in
    let path = c.in_ok-begun.begun.lock.beside ∙ ap lock_of (c.in_ok-begun.ensures.begun honest).here in
    others_joined (lock_of c.args.place.now) old mid new (c.new.ensures.moments honest)
    (subst (λ (l : List ℕ). Adds (OthersStay l mid.tree) mid new) path (c.prepare.ensures.moments (c.new.ensures.keeps.honest honest)))

pub returns-clause-moments : goal.returns-clause-moments
returns-clause-moments g c = λ honest.
    let old = g.F.Files.history c.args.files.now in
    let mid = g.F.Files.history c.new.new.files in
    let new = g.F.Files.history c.prepare.new.files in
    let path = c.in_ok-begun.begun.lock.beside ∙ ap lock_of (c.in_ok-begun.ensures.begun honest).here in
    others_joined (lock_of c.args.place.now) old mid new (c.new.ensures.moments honest)
    (subst (λ (l : List ℕ). Adds (OthersStay l mid.tree) mid new) path (c.prepare.ensures.moments (c.new.ensures.keeps.honest honest)))

pub returns-clause-held : goal.returns-clause-held
returns-clause-held g c = λ honest some keeps.
    let old = (g.F.Files.history c.args.files.now).tree in
    let mid = (g.F.Files.history c.new.new.files).tree in
    let new = (g.F.Files.history c.prepare.new.files).tree in
    let told = c.in_ok-prepared.ensures in
    let records = c.in_ok-begun.ensures.records honest (known_of c.args.kind (file_at old c.args.place.now) c.args.packed keeps) in
    holds_records c.args.kind c.args.place.now old mid new (map line_in c.args.lines.items) c.in_ok-begun.begun c.in_ok-prepared.prepared (c.in_ok-begun.ensures.begun honest) records told.same.lock told.same.buffer (told.written some)
    (told.prepared (c.new.ensures.keeps.honest honest) some)

pub returns-clause-locked : goal.returns-clause-locked
returns-clause-locked g c = λ honest.
    let new = (g.F.Files.history c.prepare.new.files).tree in
    let told = c.in_ok-prepared.ensures in
    ap (λ l. is_file_at new l.path.items) told.same.lock ∙ told.held (c.new.ensures.keeps.honest honest) (c.in_ok-begun.ensures.held honest)

pub returns-in_err-begun-clause-keeps : goal.returns-in_err-begun-clause-keeps
returns-in_err-begun-clause-keeps g c =
    let p = err_from_is_err_and c.from_residual.result c.from_residual.ensures.1 in
    rw (p.1, p.2) c.in_err-begun.ensures.keeps

pub returns-in_err-prepared-clause-keeps : goal.returns-in_err-prepared-clause-keeps
returns-in_err-prepared-clause-keeps g c =
    let p = err_from_is_err_and c.from_residual-in_err-prepared.result c.from_residual-in_err-prepared.ensures.1 in
    rw (p.1, p.2) (kept_joined g.F.Files c.args.files.now c.new.new.files c.prepare.new.files c.in_ok-begun.ensures.keeps c.in_err-prepared.ensures.keeps (λ short. (tt, short)))

pub returns-clause-keeps : goal.returns-clause-keeps
returns-clause-keeps g c = kept_joined g.F.Files c.args.files.now c.new.new.files c.prepare.new.files c.in_ok-begun.ensures.keeps c.in_ok-prepared.ensures.keeps (λ quiet. (tt, tt))

pub returns-in_err-begun-clause-failed : goal.returns-in_err-begun-clause-failed
returns-in_err-begun-clause-failed g c = λ honest.
    let p = err_from_is_err_and c.from_residual.result c.from_residual.ensures.1 in
    rw (p.1, p.2) (record {
      rolled_back = c.in_err-begun.ensures.rolled_back honest;
      failed = λ place read. inr (⊎_elim inr inl (c.in_err-begun.ensures.failed honest place read));
    })

pub returns-in_err-prepared-clause-failed : goal.returns-in_err-prepared-clause-failed
returns-in_err-prepared-clause-failed g c = λ honest.
    let mid = (g.F.Files.history c.new.new.files).tree in
    let new = (g.F.Files.history c.prepare.new.files).tree in
    let f = g.F.Files.failures in
    let then = c.new.ensures.keeps.honest honest in
    let begun = c.in_ok-begun.ensures.begun honest in
    let path = c.in_ok-begun.begun.lock.beside ∙ ap lock_of begun.here in
    let none = ap (λ o. is_some (bytes_of o)) begun.taken.free in
    let there = ap (is_file_at mid) path ∙ ap (λ o. is_some (bytes_of o)) begun.taken.held in
    let p = err_from_is_err_and c.from_residual-in_err-prepared.result c.from_residual-in_err-prepared.ensures.1 in
    rw (p.1, p.2) (record {
      rolled_back = inr (⊎_elim (λ risen. inl (second_half (f c.args.files.now) (f c.new.new.files) (f c.prepare.new.files) c.new.ensures.keeps.later risen)) inr (c.in_err-prepared.ensures.failed then there));
      failed = λ place read. inr (⊎_elim (λ risen. inr (inl (second_half (f c.args.files.now) (f c.new.new.files) (f c.prepare.new.files) c.new.ensures.keeps.later risen))) inl (c.in_err-prepared.ensures.failed then there));
    })
