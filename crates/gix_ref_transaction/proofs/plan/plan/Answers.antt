use Rattle.std.proofs.Common.{◌≡◌, ◌∙◌, inl, refl, sym, ap, subst, true, ℕ, List, [], ◌∷◌, None, arith}
use Rattle.std.proofs.lemmas.Result.{err_from_is_err_and}
use Rattle.gix_ref_file.proofs.Histories.{adds_nothing, adds_weaker}
use Rattle.gix_ref_store.specs.Finds.{records_in}
use Rattle.gix_ref_store.specs.Places.{place}
use Rattle.gix_ref_store.specs.RefStates.{RefState}
use Rattle.gix_ref_store.specs.Stores.{base_of}
use Rattle.gix_ref_file.specs.Changes.{is_file_at, may_hold_file}
use Rattle.gix_ref_file.specs.History.{Adds}
use Rattle.gix_ref_lock.specs.Locks.{lock_of, OthersStay}
use Rattle.gix_ref_way.specs.Ways.{FoldersOnlyOf, file_at}
use Rattle.gix_ref_way.proofs.Rooms.{onlys_joined, onlys_same}
use Rattle.gix_ref_transaction.specs.Errors.{Counts}
use Rattle.gix_ref_transaction.specs.Calls.{IsUntaken}
use Rattle.gix_ref_transaction.specs.Locking.{ArePaths}
use Rattle.std.specs.Prelude.{IsTrue}
use Rattle.gix_ref_lock.specs.Moments.{SameButLocks}
use Rattle.gix_ref_lock.proofs.FileMoves.{now_of}
use Rattle.gix_ref_lock.proofs.LockPaths.{locks_joined, one_lock}
use Rattle.gix_ref_transaction.specs.Plans.{IsTested}
use Rattle.gix_object_lines.specs.NameTest.{is_full_name}
use Rattle.gix_ref_transaction.specs.LogLines.{has_log, line_in}
use Rattle.gix_ref_transaction.specs.Preparing.{asked_with}
use Rattle.gix_ref_transaction.specs.Causes.{EditFault}
use Rattle.gix_ref_transaction.specs.Rollback.{MoreFilesAt}
use Rattle.gix_ref_transaction.proofs.Counting.{after_no_lock, or_after, take_edit}
use Rattle.gix_ref_transaction.proofs.Rollbacks.{more_on, unplanned_back}
use Rattle.gix_ref_transaction.proofs.Takings.{still_room}
use Rattle.gix_ref_transaction.proofs.Plannings.{among_alike, keeps_but, lined_alike, fault_alike}
use Rattle.gix_ref_transaction.proofs.plan.plan.Goals as goal

pub returns-in-Ok-clause-moments : goal.returns-in-Ok-clause-moments
returns-in-Ok-clause-moments g c = λ honest.
    let old = g.F.Files.history c.args.store.now.files in
    let mid = g.F.Files.history c.take.new.files in
    let new = g.F.Files.history c.act_of.new.store.files in
    let lock = c.in_ok-lock.lock in
    locks_joined old mid new (c.take.ensures.moments honest)
    (adds_weaker mid new (c.act_of.ensures.moments (c.take.ensures.keeps.honest honest)) (one_lock lock.place.items lock.path.items lock.beside mid.tree))

pub returns-clause-moments : goal.returns-clause-moments
returns-clause-moments g c = λ honest.
    let old = g.F.Files.history c.args.store.now.files in
    let mid = g.F.Files.history c.take.new.files in
    let then = g.F.Files.history c.act_of.new.store.files in
    let new = g.F.Files.history c.unplanned.new.files in
    let lock = c.in_ok-lock.lock in
    let first = c.take.ensures.keeps.honest honest in
    locks_joined old then new (locks_joined old mid then (c.take.ensures.moments honest)
    (adds_weaker mid then (c.act_of.ensures.moments first) (one_lock lock.place.items lock.path.items lock.beside mid.tree)))
    (adds_weaker then new (c.unplanned.ensures.moments (c.act_of.ensures.keeps.honest first)) (one_lock lock.place.items lock.path.items lock.beside then.tree))

pub returns-in-Ok-clause-stay : goal.returns-in-Ok-clause-stay
returns-in-Ok-clause-stay g c = λ honest.
    let old = (g.F.Files.history c.args.store.now.files).tree in
    let mid = g.F.Files.history c.take.new.files in
    let new = g.F.Files.history c.act_of.new.store.files in
    let lock = c.in_ok-lock.lock in
    let stay = now_of (OthersStay lock.path.items mid.tree) mid new (λ path apart. refl) (c.act_of.ensures.moments (c.take.ensures.keeps.honest honest)) in
    keeps_but lock.path.items c.deref.result.now old mid.tree new.tree (lock.beside ∙ ap lock_of c.in_ok-lock.ensures.place) (c.in_ok-lock.ensures.taken honest).free (c.take.ensures.stay honest) stay

pub returns-clause-stay : goal.returns-clause-stay
returns-clause-stay g c = λ honest.
    let old = (g.F.Files.history c.args.store.now.files).tree in
    let mid = g.F.Files.history c.take.new.files in
    let then = g.F.Files.history c.act_of.new.store.files in
    let new = g.F.Files.history c.unplanned.new.files in
    let lock = c.in_ok-lock.lock in
    let first = c.take.ensures.keeps.honest honest in
    let beside = lock.beside ∙ ap lock_of c.in_ok-lock.ensures.place in
    let free = (c.in_ok-lock.ensures.taken honest).free in
    let stay = now_of (OthersStay lock.path.items mid.tree) mid then (λ path apart. refl) (c.act_of.ensures.moments first) in
    let still = now_of (OthersStay lock.path.items then.tree) then new (λ path apart. refl) (c.unplanned.ensures.moments (c.act_of.ensures.keeps.honest first)) in
    keeps_but lock.path.items c.deref.result.now old then.tree new.tree beside free
    (keeps_but lock.path.items c.deref.result.now old mid.tree then.tree beside free (c.take.ensures.stay honest) stay) still

pub take-requires : goal.take-requires
take-requires g c = subst ArePaths (sym (c.deref.ensures.value ∙ c.in_ok-place.ensures ∙ ap (place (base_of c.args.store.now)) c.as_ref.ensures)) c.requires

pub returns-in_err-lock-clause-folders : goal.returns-in_err-lock-clause-folders
returns-in_err-lock-clause-folders g c = λ honest.
    let old = g.F.Files.history c.args.store.now.files in
    let here = c.deref.ensures.value ∙ c.in_ok-place.ensures ∙ ap (place (base_of c.args.store.now)) c.as_ref.ensures in
    subst (λ p. Adds (FoldersOnlyOf (p ∷ []) old.tree) old (g.F.Files.history c.take.new.files)) here (c.take.ensures.folders honest)

pub returns-in-Ok-clause-folders : goal.returns-in-Ok-clause-folders
returns-in-Ok-clause-folders g c = λ honest.
    let old = g.F.Files.history c.args.store.now.files in
    let mid = g.F.Files.history c.take.new.files in
    let new = g.F.Files.history c.act_of.new.store.files in
    let paths = c.deref.result.now ∷ [] in
    let here = c.deref.ensures.value ∙ c.in_ok-place.ensures ∙ ap (place (base_of c.args.store.now)) c.as_ref.ensures in
    subst (λ p. Adds (FoldersOnlyOf (p ∷ []) old.tree) old new) here
    (onlys_joined paths old mid new (c.take.ensures.folders honest) (onlys_same paths mid new (c.act_of.ensures.folders (c.take.ensures.keeps.honest honest))))

pub returns-clause-folders : goal.returns-clause-folders
returns-clause-folders g c = λ honest.
    let old = g.F.Files.history c.args.store.now.files in
    let mid = g.F.Files.history c.take.new.files in
    let then = g.F.Files.history c.act_of.new.store.files in
    let new = g.F.Files.history c.unplanned.new.files in
    let first = c.take.ensures.keeps.honest honest in
    let paths = c.deref.result.now ∷ [] in
    let here = c.deref.ensures.value ∙ c.in_ok-place.ensures ∙ ap (place (base_of c.args.store.now)) c.as_ref.ensures in
    subst (λ p. Adds (FoldersOnlyOf (p ∷ []) old.tree) old new) here
    (onlys_joined paths old then new (onlys_joined paths old mid then (c.take.ensures.folders honest) (onlys_same paths mid then (c.act_of.ensures.folders first)))
    (onlys_same paths then new (c.unplanned.ensures.folders (c.act_of.ensures.keeps.honest first))))

pub returns-in_err-place-clause-folders : goal.returns-in_err-place-clause-folders
returns-in_err-place-clause-folders g c = λ honest. adds_nothing (g.F.Files.history c.args.store.now.files)

pub returns-in_err-log-clause-folders : goal.returns-in_err-log-clause-folders
returns-in_err-log-clause-folders g c = λ honest. adds_nothing (g.F.Files.history c.args.store.now.files)

-- ---- what is kept
pub returns-in_err-place-clause-keeps : goal.returns-in_err-place-clause-keeps
returns-in_err-place-clause-keeps g c = record { honest = λ honest. honest; base = refl; options = refl; later = omega arith; quiet = λ quiet. refl }

pub returns-in_err-log-clause-keeps : goal.returns-in_err-log-clause-keeps
returns-in_err-log-clause-keeps g c = record { honest = λ honest. honest; base = refl; options = refl; later = omega arith; quiet = λ quiet. refl }

pub returns-in_err-lock-clause-keeps : goal.returns-in_err-lock-clause-keeps
returns-in_err-lock-clause-keeps g c =
    let kept = c.in_err-lock.ensures.keeps in
    let p = err_from_is_err_and c.from_residual-in_err-lock.result c.from_residual-in_err-lock.ensures.1 in
    rw (p.1, p.2) (record { honest = kept.honest; base = refl; options = refl; later = kept.later; quiet = kept.quiet })

pub returns-in-Ok-clause-keeps : goal.returns-in-Ok-clause-keeps
returns-in-Ok-clause-keeps g c =
    let first = c.in_ok-lock.ensures.keeps in
    let second = c.in-Ok.ensures.keeps in
    record {
      honest = λ honest. second.honest (first.honest honest);
      base = second.base;
      options = second.options;
      later = omega (arith, first.later, second.later);
      quiet = λ quiet. second.quiet quiet ∙ first.quiet tt;
    }

pub returns-clause-keeps : goal.returns-clause-keeps
returns-clause-keeps g c =
    let first = c.in_ok-lock.ensures.keeps in
    let second = c.in-Err.ensures.keeps in
    record {
      honest = λ honest. c.unplanned.ensures.honest (second.honest (first.honest honest));
      base = second.base;
      options = second.options;
      later = omega (arith, first.later, second.later, c.unplanned.ensures.later);
      quiet = λ other.
          let parts = c.unplanned.ensures.memory other in
          parts.1 ∙ second.quiet parts.0 ∙ first.quiet tt;
    }

-- ---- the edit isn't planned
pub returns-in_err-place-clause-failed : goal.returns-in_err-place-clause-failed
returns-in_err-place-clause-failed g c = λ honest.
    let p = err_from_is_err_and c.from_residual.result c.from_residual.ensures.1 in
    rw (p.1, p.2) (record { cause = tt; untaken = record { refused = λ is. cc; counted = tt; rolled_back = inl (λ path there. there) } })

pub returns-in_err-log-clause-failed : goal.returns-in_err-log-clause-failed
returns-in_err-log-clause-failed g c = λ honest.
    let p = err_from_is_err_and c.from_residual-in_err-log.result c.from_residual-in_err-log.ensures.1 in
    rw (p.1, p.2) (record { cause = tt; untaken = record { refused = λ is. cc; counted = tt; rolled_back = inl (λ path there. there) } })

pub returns-in_err-lock-clause-failed : goal.returns-in_err-lock-clause-failed
returns-in_err-lock-clause-failed g c = λ honest.
    let f = g.F.Files.failures in
    let old = (g.F.Files.history c.args.store.now.files).tree in
    let new = (g.F.Files.history c.take.new.files).tree in
    let edit = c.args.edit.now in
    let error = c.in_err-lock.field-0.0 in
    let a = asked_with g.F.Files.history c.args.store.now c.args.packed c.args.committer (edit ∷ []) in
    let here = c.deref.ensures.value ∙ c.in_ok-place.ensures ∙ ap (place (base_of c.args.store.now)) c.as_ref.ensures in
    let p = err_from_is_err_and c.from_residual-in_err-lock.result c.from_residual-in_err-lock.ensures.1 in
    rw (p.1, p.2) (record {
      cause = take_edit a.lines (has_log a.base a.tree edit.name) g.F.Files.reading_may_fail edit error c.in_err-lock.ensures.failed;
      untaken = subst (λ (q : List ℕ). IsUntaken q (f c.args.store.now.files) (f c.take.new.files) old new error) here (c.in_err-lock.ensures.untaken honest);
    })

pub returns-clause-failed : goal.returns-clause-failed
returns-clause-failed g c = λ honest.
    let old = g.F.Files.history c.args.store.now.files in
    let mid = g.F.Files.history c.take.new.files in
    let then = g.F.Files.history c.act_of.new.store.files in
    let new = g.F.Files.history c.unplanned.new.files in
    let b = base_of c.args.store.now in
    let options = c.args.store.now.options in
    let edit = c.args.edit.now in
    let f = g.F.Files.failures in
    let lock = c.in_ok-lock.lock in
    let path = sym (lock.beside ∙ ap lock_of c.in_ok-lock.ensures.place) in
    let taken = c.in_ok-lock.ensures.taken honest in
    let first = c.take.ensures.keeps.honest honest in
    let second = c.act_of.ensures.keeps.honest first in
    let unacted = c.in-Err.ensures.failed first in
    let held = subst (λ p. IsTrue (is_file_at mid.tree p)) path taken.held in
    let same = now_of (SameButLocks old.tree) old mid (λ path none. refl) (c.take.ensures.moments honest) in
    let full = subst (λ (n : List ℕ). is_full_name n ≡ true) c.as_ref.ensures c.as_ref.result.full in
    let a = asked_with g.F.Files.history c.args.store.now c.args.packed c.args.committer (edit ∷ []) in
    let stay = now_of (OthersStay lock.path.items mid.tree) mid then (λ path apart. refl) (c.act_of.ensures.moments first) in
    let still = now_of (OthersStay lock.path.items then.tree) then new (λ path apart. refl) (c.unplanned.ensures.moments second) in
    let came = more_on lock.path.items old.tree mid.tree then.tree (subst (λ (l : List ℕ). MoreFilesAt (l ∷ []) old.tree mid.tree) path taken.locked) stay in
    let counts = c.unplanned.ensures.counted (f c.args.store.now.files) second (omega (arith, c.take.ensures.keeps.later, c.act_of.ensures.keeps.later)) (c.act_of.ensures.held first held)
    (subst (λ n. Counts n (f c.act_of.new.store.files) c.in-Err.error) (c.in_ok-lock.ensures.keeps.quiet tt) (unacted.counted held)) in
    record {
      cause = or_after (EditFault a.lines (has_log b old.tree edit.name) g.F.Files.reading_may_fail edit) c.in-Err.error c.unplanned.result c.unplanned.ensures.told tt tt
          (fault_alike options options b b old.tree mid.tree (records_in c.args.packed) c.args.committer edit g.F.Files.reading_may_fail c.in-Err.error same full refl refl unacted.cause);
      untaken = record {
        refused = λ is. absurd (after_no_lock c.in-Err.error c.unplanned.result c.unplanned.ensures.told unacted.locked is);
        counted = counts;
        rolled_back = unplanned_back (f c.args.store.now.files) (f c.unplanned.new.files) lock.path.items old.tree new.tree c.unplanned.result
            (more_on lock.path.items old.tree then.tree new.tree came still) (c.unplanned.ensures.rolled_back second) counts;
      };
    }

-- ---- it is
pub returns-in-Ok-clause-made : goal.returns-in-Ok-clause-made
returns-in-Ok-clause-made g c = λ honest.
    let old = g.F.Files.history c.args.store.now.files in
    let mid = g.F.Files.history c.take.new.files in
    let new = g.F.Files.history c.act_of.new.store.files in
    let b = base_of c.args.store.now in
    let options = c.args.store.now.options in
    let edit = c.args.edit.now in
    let lock = c.in_ok-lock.lock in
    let path = sym (lock.beside ∙ ap lock_of c.in_ok-lock.ensures.place) in
    let taken = c.in_ok-lock.ensures.taken honest in
    let first = c.take.ensures.keeps.honest honest in
    let acted = c.in-Ok.ensures.acted first in
    let same = now_of (SameButLocks old.tree) old mid (λ path none. refl) (c.take.ensures.moments honest) in
    let full = subst (λ (n : List ℕ). is_full_name n ≡ true) c.as_ref.ensures c.as_ref.result.full in
    let stay = now_of (OthersStay lock.path.items mid.tree) mid new (λ path apart. refl) (c.act_of.ensures.moments first) in
    record {
      acted = record {
        tested = subst (λ (state : RefState). IsTested edit state) (among_alike b old.tree mid.tree (records_in c.args.packed) same edit.name) acted.tested;
        text = acted.text;
        line = lined_alike options options b b old.tree mid.tree (records_in c.args.packed) c.args.committer edit (line_in c.in-Ok.act) same full refl refl acted.line;
      };
      free = subst (λ p. file_at old.tree p ≡ None) path taken.free;
      locked = more_on lock.path.items old.tree mid.tree new.tree (subst (λ (l : List ℕ). MoreFilesAt (l ∷ []) old.tree mid.tree) path taken.locked) stay;
      held = c.act_of.ensures.held first (subst (λ p. IsTrue (is_file_at mid.tree p)) path taken.held);
      room = subst (λ p. IsTrue (may_hold_file new.tree p)) (sym c.in_ok-lock.ensures.place) (still_room c.deref.result.now mid new (c.act_of.ensures.folders first) taken.room);
    }
