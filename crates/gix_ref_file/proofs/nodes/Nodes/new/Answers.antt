use Rattle.gix_ref_file.proofs.Entries.{tree_of_none}
use Rattle.gix_ref_file.proofs.nodes.Nodes.new.Goals as goal

pub returns : goal.returns
returns c = tree_of_none _ c.new.ensures.empty
