use Rattle.std.proofs.Common.{◌∙◌, ap, Some, None}
use Rattle.gix_object_nodes.specs.Nodes.{child_or, child_of}
use Rattle.gix_object_editor.proofs.tree.editor.marks.removal_is_change.Goals as goal

pub is_changed-requires : goal.is_changed-requires
is_changed-requires c = c.requires c.in-Some-child.child.0 (ap child_of c.in-Some.is ∙ ap (λ o. child_or o (λ k. Some k) None) c.in-Some-child.is)
