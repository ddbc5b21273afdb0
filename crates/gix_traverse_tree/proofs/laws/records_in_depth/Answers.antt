use Rattle.gix_traverse_tree.proofs.RecordingInDepth.{records_in_depth}
use Rattle.gix_traverse_tree.proofs.laws.records_in_depth.Goals as goal

pub returns : goal.returns
returns g c = records_in_depth _ _ _
