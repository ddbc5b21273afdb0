use Rattle.gix_object_tree.proofs.TreeLaws.{well_formed_written}
use Rattle.gix_object_tree.proofs.laws.well_formed_tree_is_written.Goals as goal

pub returns : goal.returns
returns c = well_formed_written
