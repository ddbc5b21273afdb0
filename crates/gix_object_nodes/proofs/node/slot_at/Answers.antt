use Rattle.std.proofs.Common.{◌∙◌, sym, ap}
use Rattle.gix_object_nodes.specs.Nodes.{slot_in}
use Rattle.gix_object_nodes.proofs.Slots.{node_at}
use Rattle.gix_object_nodes.proofs.node.slot_at.Goals as goal

pub returns : goal.returns
returns c = c.slot.ensures ∙ sym (node_at c.args.nodes.now c.args.at.0 c.index-nodes-at.result c.args.name.now c.requires ∙ ap (λ n. slot_in n c.args.name.now) (sym c.index-nodes-at.is))
