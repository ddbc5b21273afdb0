use Rattle.std.proofs.Common.{◌≡◌, map, take}
use Rattle.gix_object_tree.specs.Entry.{item_of, own_item}
use Rattle.gix_object_tree.proofs.tree.whole.TreeRef.to_owned.Given as goal

abbrev pub invariant-loop-entry : goal.invariant-loop-entry
invariant-loop-entry l = map own_item l.entries.items ≡ map item_of (take l.entry-index l.self.entries.items)
