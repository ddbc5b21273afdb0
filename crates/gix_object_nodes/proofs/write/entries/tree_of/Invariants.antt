use Rattle.std.proofs.Common.{◌≡◌, ◌++◌, length, map}
use Rattle.std.specs.Map.{values_of}
use Rattle.gix_object_tree.specs.Entry.{own_item}
use Rattle.gix_object_nodes.specs.Writing.{ids_of}
use Rattle.gix_object_nodes.specs.Marks.{changed_in}
use Rattle.gix_object_nodes.proofs.Due.{entry_if}
use Rattle.gix_object_nodes.proofs.ReachedTrees.{AreWithin}
use Rattle.gix_object_nodes.proofs.WrittenEntries.{entries_of}
use Rattle.gix_object_nodes.proofs.write.entries.tree_of.Given as goal

-- the entries so far, and those of the slots that are left
abbrev pub invariant-loop-name : goal.invariant-loop-name
invariant-loop-name l = record {
  next : (goal.iterator-loop-name).can_next l.name-iterator;
  finite : (goal.iterator-loop-name).is_finite l.name-iterator;
  opened : AreWithin (length l.nodes) (values_of l.name-iterator);
  within : AreWithin (length l.ids) (values_of l.name-iterator);
  entries : map own_item l.entries.items ++ entries_of (ids_of l.ids) (map (entry_if (changed_in l.nodes)) l.name-iterator)
      ≡ entries_of (ids_of l.ids) (map (entry_if (changed_in l.nodes)) l.node.slots.entries);
}
