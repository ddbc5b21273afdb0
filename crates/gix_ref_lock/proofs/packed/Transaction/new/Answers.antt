use Rattle.std.proofs.Common.{◌∙◌, ap, subst, List, ℕ, ◌≡◌, ◌⊎◌, sym, false, inl, inr}
use Rattle.gix_ref_file.specs.History.{Adds, HasRisen}
use Rattle.gix_ref_file.specs.Changes.{is_file_at}
use Rattle.gix_ref_lock.proofs.GivenUp.{not_begun, second_half}
use Rattle.gix_ref_lock.specs.PackedErrors.{IsShort}
use Rattle.gix_ref_lock.specs.Locks.{lock_of, OthersStay}
use Rattle.gix_ref_lock.proofs.LockLemmas.{others_joined, now_stays, lock_apart}
use Rattle.gix_ref_file.specs.Tree.{bytes_of}
use Rattle.gix_ref_lock.specs.PackedEdits.{IsRead}
use Rattle.gix_ref_lock.proofs.OpenFaults.{no_fault, told_so}
use Rattle.std.specs.Prelude.{Err, Option, is_some}
use Rattle.gix_ref_lock.proofs.Kept.{kept_joined}
use Rattle.gix_ref_lock.proofs.packed.Transaction.new.Goals as goal

pub returns-in-Err-clause-moments : goal.returns-in-Err-clause-moments
returns-in-Err-clause-moments g c = λ honest.
    let old = g.F.Files.history c.args.files.now in
    let mid = g.F.Files.history c.take_lock.new.files in
    let new = g.F.Files.history c.unopened.new.files in
    let path = c.in_ok-lock.lock.beside ∙ ap lock_of c.in_ok-lock.ensures.place in
    others_joined (lock_of c.args.place.now) old mid new (c.take_lock.ensures.moments honest)
    (subst (λ (l : List ℕ). Adds (OthersStay l mid.tree) mid new) path (c.unopened.ensures.moments (c.take_lock.ensures.keeps.honest honest)))

pub returns-in-Err-clause-failed : goal.returns-in-Err-clause-failed
returns-in-Err-clause-failed g c = λ honest place read.
    let old = g.F.Files.history c.args.files.now in
    let mid = g.F.Files.history c.take_lock.new.files in
    let still = c.take_lock.ensures.keeps.honest honest in
    let here = now_stays (lock_of c.args.place.now) old mid (c.take_lock.ensures.moments honest) c.args.place.now (λ same. lock_apart c.args.place.now (sym same)) in
    let read_now = subst (λ (file : Option (List ℕ)). IsRead c.args.kind file) (ap bytes_of (sym here)) read in
    let path = c.in_ok-lock.lock.beside ∙ ap lock_of c.in_ok-lock.ensures.place in
    let locked = ap (is_file_at mid.tree) path ∙ ap (λ o. is_some (bytes_of o)) (c.in_ok-lock.ensures.taken honest).held in
    told_so _ _ c.unopened.result c.in-Err.error (c.unopened.ensures.told still locked) (no_fault c.args.kind _ c.in-Err.error _ read_now (c.in-Err.ensures.faulty still) (λ io. inr (c.open_again.ensures.failed (c.in-Err.is ∙ ap Err io))))
    (λ risen. inl (second_half _ _ _ c.take_lock.ensures.keeps.later risen))

pub returns-in-Err-clause-rolled_back : goal.returns-in-Err-clause-rolled_back
returns-in-Err-clause-rolled_back g c = λ honest.
    let old = (g.F.Files.history c.args.files.now).tree in
    let mid = (g.F.Files.history c.take_lock.new.files).tree in
    let new = (g.F.Files.history c.unopened.new.files).tree in
    let f = g.F.Files.failures in
    let taken = c.in_ok-lock.ensures.taken honest in
    let path = c.in_ok-lock.lock.beside ∙ ap lock_of c.in_ok-lock.ensures.place in
    let locked = ap (is_file_at mid) path ∙ ap (λ o. is_some (bytes_of o)) taken.held in
    let left = c.unopened.ensures.rolled_back (c.take_lock.ensures.keeps.honest honest) locked in
    not_begun (f c.args.files.now) (f c.take_lock.new.files) (f c.unopened.new.files) (is_file_at new (lock_of c.args.place.now)) (is_file_at old (lock_of c.args.place.now)) c.unopened.result c.take_lock.ensures.keeps.later
    (ap (λ o. is_some (bytes_of o)) taken.free)
    (subst (λ (l : List ℕ). (is_file_at new l ≡ false) ⊎ (HasRisen (f c.take_lock.new.files) (f c.unopened.new.files) ⊎ IsShort c.unopened.result)) path left)

pub returns-in-Ok-clause-held : goal.returns-in-Ok-clause-held
returns-in-Ok-clause-held g c = λ honest.
    let mid = (g.F.Files.history c.take_lock.new.files).tree in
    ap (is_file_at mid) (c.in_ok-lock.lock.beside ∙ ap lock_of c.in_ok-lock.ensures.place) ∙ ap (λ o. is_some (bytes_of o)) (c.in_ok-lock.ensures.taken honest).held

pub returns-in-Err-clause-keeps : goal.returns-in-Err-clause-keeps
returns-in-Err-clause-keeps g c = kept_joined g.F.Files c.args.files.now c.take_lock.new.files c.unopened.new.files c.in_ok-lock.ensures.keeps c.unopened.ensures.keeps (λ short. (tt, short))
