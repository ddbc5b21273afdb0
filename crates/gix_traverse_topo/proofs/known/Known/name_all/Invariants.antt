use Rattle.std.proofs.Common.{◌≡◌, take}
use Rattle.gix_traverse_graph.specs.Numbered.{same_id}
use Rattle.gix_traverse_topo.specs.Turns.{times}
use Rattle.gix_traverse_topo.specs.Walking.{Names}
use Rattle.gix_traverse_topo.proofs.Walking.{MeetsSo}
use Rattle.gix_traverse_topo.specs.Nodes.{hidden_in}
use Rattle.gix_traverse_topo.proofs.known.Known.name_all.Given as goal

abbrev pub invariant-row : goal.invariant-row
invariant-row l = record {
  hidden : hidden_in l.self.nodes.items ≡ hidden_in l.fn.self.nodes.items;
  meets : MeetsSo l.parents l.fn.self.ids.keys l.fn.self.nodes.items l.self.ids.keys l.self.nodes.items l.id-index;
  names : Names (λ y. times (same_id y) (take l.id-index l.parents)) l.fn.self.ids.keys l.fn.self.nodes.items l.self.ids.keys l.self.nodes.items;
}
