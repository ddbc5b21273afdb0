use Rattle.std.proofs.Common.{◌≡◌, ◌-◌, ◌^◌, ◌≤◌, List, length}
use Rattle.gix_hash.specs.declared.object_id.ObjectId.{ObjectId}
use Rattle.gix_traverse_graph.specs.Commits.{Commits, asked}
use Rattle.gix_traverse_graph.specs.Order.{At}
use Rattle.gix_traverse_topo.specs.Nodes.{all_facts, counts, IsOnce, hidden_in}
use Rattle.gix_traverse_topo.specs.Standing.{weight, GoesOff, RowOff}
use Rattle.gix_traverse_topo.specs.declared.known.Facts.{Facts}
use Rattle.gix_traverse_topo.proofs.iter.count_row_off.Given as goal

abbrev pub invariant-row : goal.invariant-row
invariant-row l = record {
  ids : l.known.ids ≡ l.fn.known.ids;
  hidden : hidden_in l.known.nodes.items ≡ hidden_in l.fn.known.nodes.items;
  as_many : length l.known.nodes.items ≡ length l.fn.known.nodes.items;
  told : all_facts l.known.nodes.items ≡ all_facts l.fn.known.nodes.items;
  off : (way : ObjectId → List ObjectId) (h : Commits ObjectId) (before hs xs : List ObjectId) (facts : Facts) → At (all_facts l.fn.known.nodes.items) l.number.0 facts → GoesOff way h before (asked l.along facts.parents.items) hs xs l.fn.known → IsOnce xs → RowOff (hidden_in l.fn.known.nodes.items) l.fn.known.ids.keys way h before (asked l.along facts.parents.items) xs l.fn.ready l.index (counts l.known.nodes.items) l.ready;
  falls : weight l.known l.ready ≤ weight l.fn.known l.fn.ready;
}

abbrev pub decreases-row : goal.decreases-row
decreases-row l = 2 ^ 64 - l.index
