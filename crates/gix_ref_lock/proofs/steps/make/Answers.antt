use Rattle.std.proofs.Common.{subst}
use Rattle.gix_ref_way.proofs.Rooms.{onlys_same}
use Rattle.gix_ref_lock.specs.Needs.{Needs, logs_of}
use Rattle.gix_ref_lock.proofs.steps.make.Goals as goal

pub returns-in-Forget-clause-folders : goal.returns-in-Forget-clause-folders
returns-in-Forget-clause-folders g c = λ honest.
    onlys_same (logs_of c.args.made.now) (g.F.Files.history c.args.files.now) (g.F.Files.history c.forget.new.files) (c.forget.ensures.keeps.folders honest)

pub returns-in-Remove-clause-folders : goal.returns-in-Remove-clause-folders
returns-in-Remove-clause-folders g c = λ honest.
    onlys_same (logs_of c.args.made.now) (g.F.Files.history c.args.files.now) (g.F.Files.history c.remove.new.files) (c.remove.ensures.keeps.folders honest)

pub returns-in-Update-clause-failed : goal.returns-in-Update-clause-failed
returns-in-Update-clause-failed g c = λ apart beside honest needs.
    let m = c.args.made.now in
    let old = (g.F.Files.history c.args.files.now).tree in
    c.update.ensures.failed apart beside honest (subst (λ step. Needs step m old) c.in-Update.is needs)

pub returns-in-Forget-clause-failed : goal.returns-in-Forget-clause-failed
returns-in-Forget-clause-failed g c = λ apart beside honest needs. c.forget.ensures.failed honest

pub returns-in-Remove-clause-failed : goal.returns-in-Remove-clause-failed
returns-in-Remove-clause-failed g c = λ apart beside honest needs.
    let m = c.args.made.now in
    let old = (g.F.Files.history c.args.files.now).tree in
    c.remove.ensures.failed apart honest (subst (λ step. Needs step m old) c.in-Remove.is needs)
