use Rattle.gix_ref_file.proofs.Histories.{added_stood}
use Rattle.gix_ref_file.proofs.laws.added_trees_stood.Goals as goal

pub returns : goal.returns
returns c = added_stood
