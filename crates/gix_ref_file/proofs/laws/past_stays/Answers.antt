use Rattle.gix_ref_file.proofs.Histories.{past_stays as proved}
use Rattle.gix_ref_file.proofs.laws.past_stays.Goals as goal

pub returns : goal.returns
returns c = proved
