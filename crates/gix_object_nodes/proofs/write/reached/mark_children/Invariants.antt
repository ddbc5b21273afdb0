use Rattle.std.proofs.Common.{ℕ, ◌≡◌, ◌||◌, false, length, get_or, map}
use Rattle.std.specs.Map.{values_of}
use Rattle.gix_object_nodes.specs.Marks.{changed_in, slot_if}
use Rattle.gix_object_nodes.proofs.ReachedTrees.{AreWithin, has_child}
use Rattle.gix_object_nodes.proofs.write.reached.mark_children.Given as goal

-- the marks so far, and those that the slots that are left set
abbrev pub invariant-loop-slot : goal.invariant-loop-slot
invariant-loop-slot l = record {
  next : (goal.iterator-loop-slot).can_next l.slot-iterator;
  finite : (goal.iterator-loop-slot).is_finite l.slot-iterator;
  opened : AreWithin (length l.nodes) l.slot-iterator;
  within : AreWithin (length l.marks) l.slot-iterator;
  marks : (j : ℕ) → (get_or l.marks j false || has_child j (map (slot_if (changed_in l.nodes)) l.slot-iterator))
      ≡ (get_or l.initial.marks j false || has_child j (map (slot_if (changed_in l.nodes)) (values_of l.node.slots.entries)));
}
