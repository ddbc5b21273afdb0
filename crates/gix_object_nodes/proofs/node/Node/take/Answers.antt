use Rattle.gix_object_nodes.proofs.Slots.{others_kept}
use Rattle.gix_object_nodes.proofs.node.Node.take.Goals as goal

pub returns-clause-others : goal.returns-clause-others
returns-clause-others c = λ other ne. others_kept c.args.name.now other c.args.self.now.slots.entries c.remove.new.self.entries c.remove.ensures.updates.3 ne
