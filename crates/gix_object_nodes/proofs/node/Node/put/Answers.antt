use Rattle.std.proofs.Common.{◌≡◌, ◌∙◌, rules}
use Rattle.gix_object_nodes.proofs.Slots.{others_kept}
use Rattle.gix_object_nodes.proofs.node.Node.put.Goals as goal

pub returns-clause-others : goal.returns-clause-others
returns-clause-others c = λ other ne.
    let key : c.in_ok-to_vec.field-0.items ≡ c.args.name.now = search rules in
    others_kept c.in_ok-to_vec.field-0.items other c.args.self.now.slots.entries c.insert.new.self.entries c.in_ok-insert.ensures.updates.3 (λ e. ne (e ∙ key))
