use Rattle.std.proofs.Common.{Some, None, ap}
use Rattle.gix_object_nodes.specs.Nodes.{child_or}
use Rattle.gix_object_nodes.proofs.changed.changed_child.Goals as goal

pub is_changed-requires : goal.is_changed-requires
is_changed-requires c = c.requires c.in-Some.child.0 (ap (λ o. child_or o (λ k. Some k) None) c.in-Some.is)
