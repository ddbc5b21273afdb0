use Rattle.std.proofs.Common.{◌≡◌, ◌⊎◌, inl, inr, sym, subst, Option}
use Rattle.std.specs.Prelude.{Result, Ok, Err, IfErr}
use Rattle.gix_ref_file.specs.History.{Adds, HasRisen}
use Rattle.gix_ref_file.proofs.Histories.{adds_weaker}
use Rattle.gix_ref_lock.specs.PackedErrors.{IsUncommitted}
use Rattle.gix_ref_lock.specs.declared.packed.CommitError.{CommitError}
use Rattle.gix_ref_lock.specs.declared.packed.CommitError.TheVariants.{Commit, Memory}
use Rattle.gix_ref_lock.specs.declared.packed.Transaction.{Transaction}
use Rattle.gix_ref_lock.specs.Committing.{KeepsPacked}
use Rattle.gix_ref_lock.specs.Needs.{PackedLocked}
use Rattle.gix_ref_lock.proofs.PackedMoves.{dropping}
use Rattle.gix_ref_lock.proofs.commit.drop_packed.Goals as goal

pub returns-in-Some-clause-moments : goal.returns-in-Some-clause-moments
returns-in-Some-clause-moments g c = λ honest.
    let old = g.F.Files.history c.args.files.now in
    let new = g.F.Files.history c.rollback.new.files in
    subst (λ (p : Option Transaction). Adds (KeepsPacked p old.tree) old new) (sym c.in-Some.is)
    (adds_weaker old new (c.rollback.ensures.moments honest) (dropping c.in-Some.packed old.tree))

-- an error of the files was counted
counted : (P : Type 0) (r : Result (Unit {0}) CommitError) → r ≡ Err Commit → IfErr r (λ error. P ⊎ IsUncommitted error) → P
counted P (Ok u) is told = cc
counted P (Err Commit) is (inl p) = p
counted P (Err Commit) is (inr short) = absurd short
counted P (Err Memory) is told = cc

pub returns-in-Some-clause-keeps : goal.returns-in-Some-clause-keeps
returns-in-Some-clause-keeps g c = record {
  honest = c.rollback.ensures.keeps.honest;
  later = c.rollback.ensures.keeps.later;
  quiet = λ none. c.rollback.ensures.keeps.quiet (c.dropped.ensures.others none);
  folders = c.rollback.ensures.keeps.folders;
}

pub returns-in-Some-clause-failed : goal.returns-in-Some-clause-failed
returns-in-Some-clause-failed g c = λ honest locked failed.
    let f = g.F.Files.failures in
    let held = subst (λ (p : Option Transaction). PackedLocked p (g.F.Files.history c.args.files.now).tree) c.in-Some.is locked in
    counted (HasRisen (f c.args.files.now) (f c.rollback.new.files)) c.rollback.result (c.dropped.ensures.failed failed) (c.rollback.ensures.failed honest held)
