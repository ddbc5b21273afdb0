use Rattle.std.proofs.Common.{◌≡◌, length}
use Rattle.gix_object_nodes.specs.Marks.{due_in}
use Rattle.gix_object_nodes.proofs.ReachedTrees.{AreMarked}
use Rattle.gix_object_nodes.proofs.write.reached.reached.Given as goal

-- what is reached through the first nodes is marked
abbrev pub invariant-loop-i : goal.invariant-loop-i
invariant-loop-i l = record {
  len : length l.marks.items ≡ length l.nodes;
  marked : AreMarked (due_in l.nodes l.fn.from.0) l.fn.from.0 l.marks.items l.i;
}
