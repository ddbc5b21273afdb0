use Rattle.std.proofs.Common.{subst, List, ℕ}
use Rattle.gix_ref_file.specs.History.{Adds}
use Rattle.gix_ref_file.proofs.Histories.{adds_weaker}
use Rattle.gix_ref_lock.specs.Moments.{MayGo}
use Rattle.gix_ref_lock.proofs.ActMoves.{forgetting}
use Rattle.gix_ref_lock.proofs.Kept.{quiet_more}
use Rattle.gix_ref_lock.proofs.steps.forget.Goals as goal

pub returns-in-Remove-clause-moments : goal.returns-in-Remove-clause-moments
returns-in-Remove-clause-moments g c = λ apart honest.
    let old = g.F.Files.history c.args.files.now in
    let new = g.F.Files.history c.remove_file.new.files in
    let first = subst (λ (p : List ℕ). Adds (MayGo p old.tree) old new) c.deref.ensures.value (c.remove_file.ensures.moments honest) in
    adds_weaker old new first (forgetting c.args.made.now apart old.tree c.in-Remove.is)

pub returns-in-Remove-clause-keeps : goal.returns-in-Remove-clause-keeps
returns-in-Remove-clause-keeps g c =
    let kept = c.remove_file.ensures.keeps in
    record { honest = kept.honest; later = kept.later; quiet = λ quiet. kept.quiet (quiet_more c.remove_file.result (λ error short. (λ no. no, short)) quiet); folders = kept.folders }
