use Rattle.std.proofs.Common.{◌≤◌, List, length}
use Rattle.gix_traverse_tree.specs.Breadth.{Tree}
use Rattle.gix_traverse_tree.specs.Nodes.{IsLinked, AreAllFrom}
use Rattle.gix_traverse_tree.proofs.Levelled.{Levelled}
use Rattle.gix_traverse_tree.proofs.breadthfirst.State.read_level.Given as goal

abbrev pub invariant-trees : goal.invariant-trees
invariant-trees g l = record {
  linked : IsLinked l.self.nodes.items;
  longer : length l.initial.self.nodes.items ≤ length l.self.nodes.items;
  levelled : (trees : List Tree) → AreAllFrom l.initial.self.nodes.items l.start trees → Levelled g.V.Visit.goes (g.F.Lookup.is_honest l.objects) (g.F.Lookup.may_fail l.objects) (g.F.Lookup.table l.objects) (g.F.Lookup.ids l.objects) trees l.number l.end l.initial.delegate l.initial.self.nodes.items l.delegate l.self.nodes.items;
}
