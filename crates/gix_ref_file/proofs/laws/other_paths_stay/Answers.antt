use Rattle.gix_ref_file.proofs.Others.{others_stay}
use Rattle.gix_ref_file.proofs.laws.other_paths_stay.Goals as goal

pub returns : goal.returns
returns c = others_stay
