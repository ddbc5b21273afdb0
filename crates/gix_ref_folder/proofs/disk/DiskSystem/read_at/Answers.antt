use Rattle.gix_ref_folder.specs.declared.own.Own.TheVariants.{Proof}
use Rattle.gix_ref_folder.specs.Disks.{follows}
use Rattle.gix_ref_folder.proofs.disk.DiskSystem.read_at.Goals as goal

pub returns-clause-count : goal.returns-clause-count
returns-clause-count g c root part path honest place = follows _ root part _ Proof honest

pub returns-clause-bytes : goal.returns-clause-bytes
returns-clause-bytes g c root part path honest place = follows _ root part _ Proof honest
