use Rattle.std.proofs.Common.{refl}
use Rattle.history_actions.proofs.acting.perform.Goals as goal

pub returns-in-Create : goal.returns-in-Create
returns-in-Create g c = rw c.in-Create.is (c.create_folder.ensures.files, c.create_folder.ensures.says, refl)

pub returns-in-Run : goal.returns-in-Run
returns-in-Run g c = rw c.in-Run.is c.run_folder.ensures

pub returns-in-Check : goal.returns-in-Check
returns-in-Check g c = rw c.in-Check.is (c.check_folder.ensures.files, c.check_folder.ensures.says, refl)

pub returns-in-Recover : goal.returns-in-Recover
returns-in-Recover g c = rw c.in-Recover.is (c.recover_folder.ensures.files, c.recover_folder.ensures.says, refl)
