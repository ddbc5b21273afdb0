use Rattle.std.proofs.Common.{◌≡◌, ◌∷◌, ◌-◌, None, length}
use Rattle.gix_object_nodes.specs.Files.{Bytes, Path, Trees}
use Rattle.gix_object_nodes.specs.Nodes.{slots_of, files_of_node}
use Rattle.gix_object_editor.proofs.Filled.{AreOf, NoFiles}
use Rattle.gix_object_editor.proofs.tree.editor.filled.+has_file.Given as goal

abbrev pub decreases-has_file : goal.decreases-has_file
decreases-has_file l = length l.nodes.now - l.at.0

-- those that are left are in the tree; where they have no file, the tree has none
abbrev pub invariant-loop-slot : goal.invariant-loop-slot
invariant-loop-slot l = record {
  next : (goal.iterator-loop-slot).can_next l.slot-iterator;
  finite : (goal.iterator-loop-slot).is_finite l.slot-iterator;
  of : AreOf (slots_of l.nodes l.fn.at.0) l.slot-iterator;
  none : NoFiles (slots_of l.nodes) l.slot-iterator → (trees : Trees) (m : Bytes) (rest : Path) → files_of_node trees (slots_of l.nodes) l.fn.at.0 (m ∷ rest) ≡ None;
}
