use Rattle.std.proofs.Common.{◌≡◌, ◌<◌, ◌≤◌, List, length}
use Rattle.std.specs.List.{FoldsTo}
use Rattle.gix_object_nodes.specs.Files.{Path}
use Rattle.gix_object_nodes.specs.Nodes.{Way}
use Rattle.gix_object_nodes.specs.Marks.{due_in}
use Rattle.gix_object_nodes.specs.Writing.{ids_of}
use Rattle.gix_object_nodes.specs.Written.{HandedOut, HandsOut}
use Rattle.gix_object_nodes.specs.Below.{IsHandedOutFrom}
use Rattle.gix_object_nodes.proofs.write.below.write_below.Given as goal

-- the trees from this number on are handed out
abbrev pub invariant-nodes : goal.invariant-nodes
invariant-nodes g l = record {
  callable : goal.F-IsAlwaysCallable g l.out;
  len : length l.ids.items ≡ length l.nodes;
  some : l.from.0 < l.at;
  within : l.at ≤ length l.nodes;
  written : (base : Path) → Way (due_in l.nodes l.from.0) base l.from.0 → (handed : List HandedOut) × FoldsTo (HandsOut g.F.FnMut) l.initial.out handed l.out × IsHandedOutFrom (due_in l.nodes l.from.0) base (length l.nodes) (ids_of l.ids.items) handed l.at;
}

abbrev pub decreases-nodes : goal.decreases-nodes
decreases-nodes g l = l.at
