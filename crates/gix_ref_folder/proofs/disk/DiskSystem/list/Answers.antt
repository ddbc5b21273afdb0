use Rattle.gix_ref_folder.specs.declared.own.Own.TheVariants.{Proof}
use Rattle.gix_ref_folder.specs.Disks.{follows}
use Rattle.gix_ref_folder.proofs.disk.DiskSystem.list.Goals as goal

pub returns-clause-names : goal.returns-clause-names
returns-clause-names g c root part path honest place = follows _ root part _ Proof honest

pub returns-clause-missing : goal.returns-clause-missing
returns-clause-missing g c root part path honest place = follows _ root part _ Proof honest
