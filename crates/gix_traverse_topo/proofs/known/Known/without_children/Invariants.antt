use Rattle.gix_traverse_topo.specs.Nodes.{all_facts, counts, hidden_in}
use Rattle.gix_traverse_topo.proofs.Updates.{FreeTo}
use Rattle.gix_traverse_topo.proofs.known.Known.without_children.Given as goal

abbrev pub invariant-commits : goal.invariant-commits
invariant-commits l = FreeTo (hidden_in l.self.nodes.items) l.place (all_facts l.self.nodes.items) (counts l.self.nodes.items) l.first.items
