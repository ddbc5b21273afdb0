use Rattle.gix_ref_folder.specs.declared.own.Own.TheVariants.{Proof}
use Rattle.gix_ref_folder.specs.Disks.{follows}
use Rattle.gix_ref_folder.proofs.disk.DiskSystem.shorten.Goals as goal

pub returns : goal.returns
returns g c = record { change = λ root part path honest place. follows _ root part _ Proof honest }
