use Rattle.std.proofs.Common.{◌≡◌, ◌∙◌, subst, inl, inr, ⊎_elim, List, ℕ, [], ◌∷◌, arith}
use Rattle.std.proofs.lemmas.Result.{err_from_is_err_and}
use Rattle.gix_ref_file.specs.Changes.{MayLeave, to_append}
use Rattle.gix_ref_file.specs.History.{Makes}
use Rattle.gix_ref_file.proofs.Histories.{adds_weaker}
use Rattle.gix_ref_lock.proofs.LockLemmas.{on_ok_both}
use Rattle.std.specs.Prelude.{Some, OnOk, IsTrue}
use Rattle.gix_ref_file.specs.Changes.{may_hold_file}
use Rattle.gix_ref_way.proofs.Clearings.{caused}
use Rattle.gix_ref_way.proofs.FoldersStay.{while_appended}
use Rattle.gix_ref_way.proofs.Rooms.{way_only, onlys_joined, onlys_same}
use Rattle.gix_ref_lock.proofs.Needed.{told_cause, since}
use Rattle.gix_ref_lock.proofs.FileMoves.{on_told, same_now, unnoted, noting_joined, is_noted}
use Rattle.gix_ref_lock.proofs.Kept.{quiet_of}
use Rattle.gix_ref_lock.proofs.notes.append.Goals as goal

pub returns-in_err-outcome_of_call-clause-moments : goal.returns-in_err-outcome_of_call-clause-moments
returns-in_err-outcome_of_call-clause-moments g c = λ honest.
    let old = g.F.Files.history c.args.files.now in
    adds_weaker old (g.F.Files.history c.make_way.new.files) (c.make_way.ensures.moments honest) (unnoted (Some c.args.line.now) c.args.log.now old.tree)

pub returns-clause-moments : goal.returns-clause-moments
returns-clause-moments g c = λ honest.
    let mid = g.F.Files.history c.make_way.new.files in
    let new = g.F.Files.history c.append.new.self in
    let change = subst (λ (bytes : List ℕ). Makes (to_append c.args.log.now bytes) mid new c.append.result) c.deref.ensures.value (c.append.ensures.change (c.make_way.ensures.honest honest)) in
    noting_joined c.args.line.now c.args.log.now (g.F.Files.history c.args.files.now) mid new (c.make_way.ensures.moments honest) change.moments

pub returns-clause-noted : goal.returns-clause-noted
returns-clause-noted g c = λ honest.
    let old = g.F.Files.history c.args.files.now in
    let mid = g.F.Files.history c.make_way.new.files in
    let new = g.F.Files.history c.append.new.self in
    let change = subst (λ (bytes : List ℕ). Makes (to_append c.args.log.now bytes) mid new c.append.result) c.deref.ensures.value (c.append.ensures.change (c.make_way.ensures.honest honest)) in
    on_told _ c.outcome_of_call-2.result c.append.result tt c.outcome_of_call-2.ensures.done
    (on_ok_both c.append.result (is_noted c.args.line.now c.args.log.now old.tree mid.tree new.tree (same_now old mid (c.make_way.ensures.moments honest))) change.allowed change.made)

pub returns-in_err-outcome_of_call-clause-folders : goal.returns-in_err-outcome_of_call-clause-folders
returns-in_err-outcome_of_call-clause-folders g c = λ honest.
    way_only c.args.log.now (g.F.Files.history c.args.files.now) (g.F.Files.history c.make_way.new.files) (c.make_way.ensures.folders honest) (c.make_way.ensures.stay honest)

pub returns-clause-folders : goal.returns-clause-folders
returns-clause-folders g c = λ honest.
    let log = c.args.log.now in
    let old = g.F.Files.history c.args.files.now in
    let mid = g.F.Files.history c.make_way.new.files in
    let new = g.F.Files.history c.append.new.self in
    onlys_joined (log ∷ []) old mid new (way_only log old mid (c.make_way.ensures.folders honest) (c.make_way.ensures.stay honest))
    (onlys_same (log ∷ []) mid new (adds_weaker {P = MayLeave (to_append log c.deref.result.now) mid.tree} mid new (c.append.ensures.change (c.make_way.ensures.honest honest)).moments (λ x left. while_appended log c.deref.result.now mid.tree x left)))

pub returns-clause-failed : goal.returns-clause-failed
returns-clause-failed g c = λ honest can.
    let mid = (g.F.Files.history c.make_way.new.files).tree in
    let f = g.F.Files.failures in
    let may = subst (λ o. OnOk o (IsTrue (may_hold_file mid c.args.log.now))) c.in_ok-outcome_of_call.ensures.done (c.make_way.ensures.room honest can.0 can.1) in
    since g.F.Files.reading_may_fail (f c.args.files.now) (f c.make_way.new.files) (f c.append.new.self) c.outcome_of_call-2.result c.make_way.ensures.later
    (told_cause c.append.result c.outcome_of_call-2.result c.outcome_of_call-2.ensures.failed
    (λ failed. caused (may_hold_file mid c.args.log.now) (f c.make_way.new.files) (f c.append.new.self) c.append.result may (c.append.ensures.cause (c.make_way.ensures.honest honest)) failed))

pub returns-in_err-outcome_of_call-clause-failed : goal.returns-in_err-outcome_of_call-clause-failed
returns-in_err-outcome_of_call-clause-failed g c = λ honest can.
    let p = err_from_is_err_and c.from_residual.result c.from_residual.ensures.1 in
    rw (p.1, p.2) (⊎_elim inl (λ failed. inr (c.make_way.ensures.failed honest can.0 can.1 failed)) c.in_err-outcome_of_call.ensures.failed)

pub returns-in_err-outcome_of_call-clause-keeps : goal.returns-in_err-outcome_of_call-clause-keeps
returns-in_err-outcome_of_call-clause-keeps g c =
    let p = err_from_is_err_and c.from_residual.result c.from_residual.ensures.1 in
    rw (p.1, p.2) (record {
      honest = c.make_way.ensures.honest;
      later = c.make_way.ensures.later;
      quiet = λ short. quiet_of c.make_way.result c.make_way.ensures.unfailed c.make_way.ensures.memory (c.in_err-outcome_of_call.ensures.quiet (λ no. no) short);
    })

pub returns-clause-keeps : goal.returns-clause-keeps
returns-clause-keeps g c =
    let f = g.F.Files.failures in
    let same = subst (λ o. OnOk o (f c.make_way.new.files ≡ f c.args.files.now)) c.in_ok-outcome_of_call.ensures.done c.make_way.ensures.unfailed in
    record {
      honest = λ honest. c.append.ensures.honest (c.make_way.ensures.honest honest);
      later = omega (arith, c.make_way.ensures.later, c.append.ensures.later);
      quiet = λ quiet. quiet_of c.append.result c.append.ensures.unfailed c.append.ensures.memory (c.outcome_of_call-2.ensures.quiet (λ no. no) quiet) ∙ same;
    }
