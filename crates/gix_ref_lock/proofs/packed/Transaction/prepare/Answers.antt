use Rattle.gix_ref_lock.proofs.LockLemmas.{others_joined}
use Rattle.gix_ref_lock.proofs.GivenUp.{not_prepared}
use Rattle.gix_ref_lock.proofs.Kept.{kept_joined}
use Rattle.gix_ref_lock.proofs.packed.Transaction.prepare.Goals as goal

pub returns-clause-moments : goal.returns-clause-moments
returns-clause-moments g c = λ honest.
    let old = g.F.Files.history c.args.files.now in
    let mid = g.F.Files.history c.write_edited.new.files in
    let new = g.F.Files.history c.unprepared.new.files in
    others_joined c.args.self.lock.path.items old mid new (c.write_edited.ensures.moments honest) (c.unprepared.ensures.moments (c.write_edited.ensures.keeps.honest honest))

pub returns-clause-failed : goal.returns-clause-failed
returns-clause-failed g c = λ honest held.
    let then = c.write_edited.ensures.keeps.honest honest in
    not_prepared _ _ _ _ _ c.write_edited.ensures.keeps.later c.unprepared.ensures.keeps.later (c.in-Err.ensures.failed honest held) (c.unprepared.ensures.told then (c.write_edited.ensures.stays honest held))

pub returns-clause-keeps : goal.returns-clause-keeps
returns-clause-keeps g c = kept_joined g.F.Files c.args.files.now c.write_edited.new.files c.unprepared.new.files c.in-Err.ensures.keeps c.unprepared.ensures.keeps (λ short. (c.unprepared.ensures.kept short, short))
