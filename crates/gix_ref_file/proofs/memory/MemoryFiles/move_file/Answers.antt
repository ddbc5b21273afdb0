use Rattle.std.proofs.Common.{◌≡◌, ◌∙◌, ◌++◌, ◌∷◌, [], Some, sym, ap, subst, refl, rules}
use Rattle.std.specs.Prelude.{IfSome, is_some, option_map}
use Rattle.std.specs.FinMap as map
use Rattle.gix_ref_file.specs.Tree.{file, bytes_at, node_at}
use Rattle.gix_ref_file.specs.Nodes.{node_of, with_node}
use Rattle.gix_ref_file.specs.declared.memory.record.Undo.TheVariants.{Return}
use Rattle.gix_ref_file.proofs.Moved.{node_at_file, file_there, rename_undone}
use Rattle.gix_ref_file.proofs.Undone.{steps}
use Rattle.gix_ref_file.proofs.memory.MemoryFiles.move_file.Goals as goal

pub returns-clause-moved : goal.returns-clause-moved
returns-clause-moved c _ =
    let t = c.args.self.now.nodes in
    let from = c.args.from.now in
    let to = c.args.to.now in
    let new_path : c.in_ok-new_path.new_path.items ≡ to = search rules in
    let is_file = sym (node_at_file t from c.requires.there) ∙ file_there (node_at t from) c.requires.there in
    let moved : c.in_ok-old_path.field-0 ≡ Some (c.in-Some.old_path, c.in-Some.replaced) = search rules in
    let old_path = subst (λ o. IfSome o (λ it. it.0.items ≡ from)) moved c.in_ok-old_path.ensures.path in
    let before = subst (λ o. IfSome o (λ it. option_map node_of it.1 ≡ map.get t to)) moved c.in_ok-old_path.ensures.before in
    let done = c.in_ok-old_path.ensures.moved (ap is_some moved) ∙ ap (with_node (map.remove t from) to) is_file in
    let new = map.insert (map.remove t from) to (file (bytes_at t from)) in
    let undo = Return c.in-Some.old_path c.in_ok-new_path.new_path c.in-Some.replaced in
    steps _ _ _ _ undo _ done
    (c.push_reserved.ensures.items ∙ ap (λ us. us ++ undo ∷ []) c.reserve.ensures.items)
    ((λ i. with_node (with_node new (new_path i) (before i)) (old_path i) (map.get new (new_path i)))
    ∙ rename_undone t new from to c.requires.apart c.requires.there refl)
