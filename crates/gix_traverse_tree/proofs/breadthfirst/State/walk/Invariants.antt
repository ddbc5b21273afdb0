use Rattle.std.proofs.Common.{◌≤◌, length}
use Rattle.gix_object_tree.specs.Reading.{place_of}
use Rattle.gix_traverse_tree.specs.Nodes.{IsLinked}
use Rattle.gix_traverse_tree.proofs.Walked.{Walked, levels_left}
use Rattle.gix_traverse_tree.proofs.breadthfirst.State.walk.Given as goal

abbrev pub invariant-levels : goal.invariant-levels
invariant-levels g l = record {
  linked : IsLinked l.self.nodes.items;
  within : l.start ≤ length l.self.nodes.items;
  walked : Walked g.V.Visit.goes (g.F.Lookup.is_honest l.objects) (g.F.Lookup.may_fail l.objects) (g.F.Lookup.table l.objects) (g.F.Lookup.ids l.objects) (place_of l.fn.root).kind (place_of l.fn.root).input l.start l.fn.delegate l.delegate l.self.nodes.items;
}

abbrev pub decreases-levels : goal.decreases-levels
decreases-levels g l = levels_left (g.F.Lookup.ids l.objects) l.self.nodes.items l.start
