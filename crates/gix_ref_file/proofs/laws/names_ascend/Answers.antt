use Rattle.gix_ref_file.proofs.Ascending.{names_ascend as proved}
use Rattle.gix_ref_file.proofs.laws.names_ascend.Goals as goal

pub returns : goal.returns
returns c = proved
