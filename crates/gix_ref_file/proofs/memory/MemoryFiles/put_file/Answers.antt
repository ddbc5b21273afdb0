use Rattle.std.proofs.Common.{◌≡◌, ◌∙◌, ◌++◌, ◌∷◌, [], sym, ap, rules}
use Rattle.std.specs.Prelude.{option_map}
use Rattle.std.specs.FinMap as map
use Rattle.gix_ref_file.specs.Tree.{file, is_folder}
use Rattle.gix_ref_file.specs.Nodes.{node_of, with_node}
use Rattle.gix_ref_file.specs.declared.memory.record.Undo.TheVariants.{Restore}
use Rattle.gix_ref_file.proofs.Undone.{steps, restored_after_insert}
use Rattle.gix_ref_file.proofs.memory.MemoryFiles.put_file.Goals as goal

pub returns-clause-put : goal.returns-clause-put
returns-clause-put c _ =
    let t = c.args.self.now.nodes in
    let path = c.args.path.now in
    let new = file c.args.bytes.now in
    let kept : c.in_ok-kept.kept.items ≡ path = search rules in
    let copied : c.in_ok-to_vec.field-0.items ≡ c.args.bytes.now = search rules in
    let isnt = ap is_folder (sym c.in_ok-before.ensures.before) ∙ sym c.if-is_folder.ensures in
    let undo = Restore c.in_ok-kept.kept c.in_ok-before.before in
    steps _ _ _ _ undo _ (c.in_ok-before.ensures.put isnt ∙ ap (λ bs. map.insert t path (file bs)) copied)
    (c.push_reserved.ensures.items ∙ ap (λ us. us ++ undo ∷ []) c.reserve.ensures.items)
    (ap (λ p. with_node (map.insert t path new) p (option_map node_of c.in_ok-before.before)) kept
    ∙ restored_after_insert t path new _ c.in_ok-before.ensures.before)
