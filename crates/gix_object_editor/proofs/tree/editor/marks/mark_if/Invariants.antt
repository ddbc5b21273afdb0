use Rattle.std.proofs.Common.{◌≡◌, ◌<◌, length}
use Rattle.gix_object_nodes.specs.Nodes.{slots_of, HasSlotsOf}
use Rattle.gix_object_nodes.specs.Marks.{marks_of}
use Rattle.gix_object_editor.proofs.Marked.{IsClimbing}
use Rattle.gix_object_editor.proofs.tree.editor.marks.mark_if.Given as goal

-- the trees so far are marked, each lying in the next
abbrev pub invariant-trees : goal.invariant-trees
invariant-trees l = record {
  within : l.above.0 < length l.nodes;
  len : length l.nodes ≡ length l.initial.nodes;
  slots : HasSlotsOf l.initial.nodes l.nodes;
  climb : IsClimbing (slots_of l.initial.nodes) (marks_of l.initial.nodes) (marks_of l.nodes) l.fn.at.0 l.above.0 (length l.initial.nodes);
}

abbrev pub decreases-trees : goal.decreases-trees
decreases-trees l = l.above.0
