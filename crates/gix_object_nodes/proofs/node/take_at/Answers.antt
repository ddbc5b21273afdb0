use Rattle.std.proofs.Common.{◌∙◌}
use Rattle.gix_object_nodes.proofs.Slots.{set_here}
use Rattle.gix_object_nodes.proofs.NodeMarks.{set_rest}
use Rattle.gix_object_nodes.proofs.node.take_at.Goals as goal

pub returns-clause-here : goal.returns-clause-here
returns-clause-here c = set_here c.args.nodes.now c.args.at.0 c.take.new.self c.args.name.now c.requires ∙ c.take.ensures.here

pub returns-clause-rest : goal.returns-clause-rest
returns-clause-rest c = set_rest c.args.nodes.now c.args.at.0 c.index-nodes-at.result c.take.new.self c.args.name.now c.requires c.take.ensures.others c.take.ensures.mark
