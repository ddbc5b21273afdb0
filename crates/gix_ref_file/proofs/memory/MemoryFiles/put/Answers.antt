use Rattle.std.proofs.Common.{◌≡◌, ◌∙◌, ◌++◌, ◌∷◌, [], ap, rules}
use Rattle.std.specs.Prelude.{option_map}
use Rattle.std.specs.FinMap as map
use Rattle.gix_ref_file.specs.Nodes.{node_of}
use Rattle.gix_ref_file.specs.Nodes.{with_node}
use Rattle.gix_ref_file.specs.declared.memory.record.Undo.TheVariants.{Restore}
use Rattle.gix_ref_file.proofs.Undone.{steps, restored_after_insert}
use Rattle.gix_ref_file.proofs.memory.MemoryFiles.put.Goals as goal

pub returns-clause-ok : goal.returns-clause-ok
returns-clause-ok c =
    let kept : c.in_ok-kept.kept.items ≡ c.args.path.now = search rules in
    let stored : c.in_ok-to_vec.field-0.items ≡ c.args.path.now = search rules in
    let before = c.in_ok-before.ensures.before in
    let made = c.in_ok-before.ensures.ok in
    let put = made ∙ ap (λ p. map.insert c.args.self.now.nodes p (node_of c.args.entry)) stored in
    steps _ _ _ _ (Restore c.in_ok-kept.kept c.in_ok-before.before) _ put
    (c.push_reserved.ensures.items ∙ ap (λ us. us ++ Restore c.in_ok-kept.kept c.in_ok-before.before ∷ []) c.reserve.ensures.items)
    (ap (λ p. with_node (map.insert c.args.self.now.nodes c.args.path.now (node_of c.args.entry)) p (option_map node_of c.in_ok-before.before)) kept
    ∙ restored_after_insert c.args.self.now.nodes c.args.path.now (node_of c.args.entry) _ (before ∙ ap (map.get c.args.self.now.nodes) stored))
