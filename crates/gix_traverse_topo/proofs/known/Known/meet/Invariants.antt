use Rattle.std.proofs.Common.{◌≡◌}
use Rattle.gix_traverse_topo.specs.Walking.{Names}
use Rattle.gix_traverse_topo.proofs.Walking.{MeetsSo}
use Rattle.gix_traverse_topo.specs.Nodes.{hidden_in}
use Rattle.gix_traverse_topo.proofs.known.Known.meet.Given as goal

abbrev pub invariant-met : goal.invariant-met
invariant-met l = record {
  hidden : hidden_in l.self.nodes.items ≡ hidden_in l.fn.self.nodes.items;
  meets : MeetsSo l.met l.fn.self.ids.keys l.fn.self.nodes.items l.self.ids.keys l.self.nodes.items l.id-index;
  names : Names (λ y. 0) l.fn.self.ids.keys l.fn.self.nodes.items l.self.ids.keys l.self.nodes.items;
}
