use Rattle.gix_traverse_tree.proofs.RecordingInBreadth.{records_in_breadth}
use Rattle.gix_traverse_tree.proofs.laws.records_in_breadth.Goals as goal

pub returns : goal.returns
returns g c = records_in_breadth _ _ _
