use Rattle.std.proofs.Common.{◌≡◌, ℕ, ◌+◌, ◌-◌, ◌^◌, ◌≤◌, length, take}
use Rattle.gix_traverse_commit_known.specs.Meeting.{CountsAll}
use Rattle.gix_traverse_graph.specs.Rows.{AllHeld, Holds}
use Rattle.gix_traverse_topo.proofs.Lookups.{IsCountedFrom}
use Rattle.gix_hash.specs.declared.object_id.ObjectId.{ObjectId}
use Rattle.gix_traverse_commit_known.specs.Told.{rows_of}
use Rattle.gix_traverse_topo.specs.Walking.{Walking}
use Rattle.gix_traverse_topo.specs.Nodes.{hidden_in}
use Rattle.gix_traverse_topo.proofs.known.Known.walk.Given as goal

abbrev pub invariant-walk : goal.invariant-walk
invariant-walk g l = record {
  hidden : hidden_in l.self.nodes.items ≡ hidden_in l.fn.self.nodes.items;
  objects : l.source.objects ≡ l.fn.source.objects;
  rows : l.source.rows ≡ l.fn.source.rows;
  walking : Walking (g.F.Lookup.is_honest l.fn.source.objects) (g.F.Lookup.may_fail l.fn.source.objects) (rows_of l.fn.source.rows) (g.F.Lookup.table l.fn.source.objects) l.along l.fn.tips l.fn.self.ids.keys l.fn.self.nodes.items l.place l.self.ids.keys l.self.nodes.items;
  rowed : AllHeld (rows_of l.fn.source.rows) l.fn.self.ids.keys → AllHeld (rows_of l.fn.source.rows) l.fn.tips → AllHeld (rows_of l.fn.source.rows) l.self.ids.keys × (l.source.lookups ≡ l.fn.source.lookups);
  each : ((x : ObjectId) → ¬ Holds (rows_of l.fn.source.rows) x) → IsCountedFrom l.fn.source.lookups (length l.fn.self.nodes.items) l.source.lookups l.place;
  asked : length l.fn.self.nodes.items ≡ length l.fn.self.ids.keys → (first : ℕ) → CountsAll (rows_of l.fn.source.rows) l.fn.self.ids.keys first l.fn.source.lookups → CountsAll (rows_of l.fn.source.rows) (take l.place l.self.ids.keys) first l.source.lookups;
  counted : l.source.lookups + length l.fn.self.nodes.items ≤ l.fn.source.lookups + l.place;
}

abbrev pub decreases-walk : goal.decreases-walk
decreases-walk g l = 2 ^ 64 - l.place
