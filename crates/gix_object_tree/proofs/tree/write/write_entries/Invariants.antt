use Rattle.std.proofs.Common.{◌≡◌, false, map, take}
use Rattle.std.specs.List.{list_any}
use Rattle.std.specs.Io.KnownBytes.{Appends}
use Rattle.gix_object_tree.specs.Writing.{tree_text, has_zero}
use Rattle.gix_object_tree.proofs.tree.write.write_entries.Given as goal

abbrev pub invariant-loop-entry : goal.invariant-loop-entry
invariant-loop-entry g l =
    (list_any has_zero (map g.T.AsEntry.item (take l.entry-index l.entries)) ≡ false)
    × Appends (g.W.Write.contents l.fn.out) (g.W.Write.contents l.out) (tree_text (map g.T.AsEntry.item (take l.entry-index l.entries)))
