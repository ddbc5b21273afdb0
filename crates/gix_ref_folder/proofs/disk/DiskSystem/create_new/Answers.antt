use Rattle.gix_ref_folder.specs.declared.own.Own.TheVariants.{Proof}
use Rattle.gix_ref_folder.specs.Disks.{follows}
use Rattle.gix_ref_folder.proofs.disk.DiskSystem.create_new.Goals as goal

pub returns-clause-change : goal.returns-clause-change
returns-clause-change g c root part path honest place = follows _ root part _ Proof honest

pub returns-clause-free : goal.returns-clause-free
returns-clause-free g c root part path honest place = follows _ root part _ Proof honest

pub returns-clause-taken : goal.returns-clause-taken
returns-clause-taken g c root part path honest place = follows _ root part _ Proof honest
