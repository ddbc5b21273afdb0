use Rattle.std.proofs.Common.{◌≡◌, length, map, take}
use Rattle.gix_object_tree.specs.Writing.{tree_text}
use Rattle.gix_object_tree.proofs.tree.write.length_of.Given as goal

abbrev pub invariant-loop-entry : goal.invariant-loop-entry
invariant-loop-entry g l = l.total ≡ length (tree_text (map g.T.AsEntry.item (take l.entry-index l.entries)))
