use Rattle.std.proofs.Common.{◌≡◌}
use Rattle.gix_object_tree.specs.Reading.{place_of}
use Rattle.gix_traverse_tree.proofs.Listed.{Listed}
use Rattle.gix_traverse_tree.proofs.breadthfirst.show_entries.Given as goal

abbrev pub invariant-entries : goal.invariant-entries
invariant-entries g l = record {
  can : (goal.iterator-entries g).can_next l.rest;
  finite : (goal.iterator-entries g).is_finite l.rest;
  kind : (place_of l.rest).kind ≡ (place_of l.initial.rest).kind;
  listed : Listed g.V.Visit.goes (place_of l.initial.rest).kind (place_of l.initial.rest).input (place_of l.rest).input l.above l.initial.delegate l.initial.nodes.items l.delegate l.nodes.items;
}
