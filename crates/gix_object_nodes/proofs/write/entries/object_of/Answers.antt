use Rattle.std.proofs.Common.{Some, None, ap, sym, ◌∙◌}
use Rattle.gix_object_nodes.specs.Nodes.{child_or}
use Rattle.gix_object_nodes.specs.Marks.{changed_in}
use Rattle.gix_object_nodes.proofs.Due.{child_through}
use Rattle.gix_object_nodes.proofs.write.entries.object_of.Goals as goal

pub id_at-requires : goal.id_at-requires
id_at-requires c =
    let is = child_through (changed_in c.args.nodes.now) c.args.slot.now.child c.in-Some.child (sym c.changed_child.ensures ∙ c.in-Some.is) in
    c.requires.within c.in-Some.child.0 (ap (λ o. child_or o (λ k. Some k) None) is)
