use Rattle.std.proofs.Common.{sym, subst, inl, inr, ⊎_elim, Option}
use Rattle.gix_ref_file.specs.History.{Adds}
use Rattle.gix_ref_lock.specs.declared.packed.Transaction.{Transaction}
use Rattle.gix_ref_lock.specs.Committing.{MayReplace, Replaces}
use Rattle.gix_ref_lock.specs.Needs.{CanReplace}
use Rattle.gix_ref_lock.proofs.PackedMoves.{replacing, replaced}
use Rattle.gix_ref_lock.proofs.commit.replace_packed.Goals as goal

pub returns-in-Ok-clause-moments : goal.returns-in-Ok-clause-moments
returns-in-Ok-clause-moments g c = λ honest.
    let old = g.F.Files.history c.args.files.now in
    let new = g.F.Files.history c.commit.new.files in
    subst (λ (p : Option Transaction). Adds (MayReplace p old.tree) old new) (sym c.in-Some.is)
    (replacing c.in-Some.packed old new (c.commit.ensures.moments honest) (λ unwritten. c.commit.ensures.idle unwritten honest))

pub returns-in-Ok-clause-replaced : goal.returns-in-Ok-clause-replaced
returns-in-Ok-clause-replaced g c = λ honest.
    let old = g.F.Files.history c.args.files.now in
    let new = g.F.Files.history c.commit.new.files in
    subst (λ (p : Option Transaction). Replaces p old.tree new.tree) (sym c.in-Some.is)
    (replaced c.in-Some.packed old new (c.commit.ensures.moments honest) (λ unwritten. c.commit.ensures.idle unwritten honest) (λ written. c.in-Ok.ensures.put honest written) (c.in-Ok.ensures.gone honest))

pub returns-in-Err-clause-moments : goal.returns-in-Err-clause-moments
returns-in-Err-clause-moments g c = λ honest.
    let old = g.F.Files.history c.args.files.now in
    let new = g.F.Files.history c.commit.new.files in
    subst (λ (p : Option Transaction). Adds (MayReplace p old.tree) old new) (sym c.in-Some.is)
    (replacing c.in-Some.packed old new (c.commit.ensures.moments honest) (λ unwritten. c.commit.ensures.idle unwritten honest))

pub returns-in-Err-clause-failed : goal.returns-in-Err-clause-failed
returns-in-Err-clause-failed g c = λ honest can.
    let own = subst (λ (p : Option Transaction). CanReplace p (g.F.Files.history c.args.files.now).tree) c.in-Some.is can in
    ⊎_elim (λ risen. inr (inl risen)) inl (c.in-Err.ensures.failed honest own.0 own.1)
