use Rattle.std.proofs.Common.{◌∙◌, ◌++◌, ◌∷◌, [], ap, Some}
use Rattle.std.specs.Prelude.{is_some}
use Rattle.std.specs.FinMap as map
use Rattle.gix_ref_file.specs.Nodes.{node_of}
use Rattle.gix_ref_file.specs.Nodes.{with_node}
use Rattle.gix_ref_file.specs.declared.memory.record.Undo.TheVariants.{Restore}
use Rattle.gix_ref_file.proofs.Undone.{steps, restored_after_remove}
use Rattle.gix_ref_file.proofs.memory.MemoryFiles.take.Goals as goal

pub unreachable-requires : goal.unreachable-requires
unreachable-requires c = absurd (cc (ap is_some c.in_default.ensures.before, c.requires))

pub returns-clause-ok : goal.returns-clause-ok
returns-clause-ok c =
    let t = c.args.self.now.nodes in
    let path = c.args.path.now in
    let undo = Restore c.in-Some.path (Some c.in-Some.entry) in
    steps _ _ _ _ undo _ c.remove.ensures.removed
    (c.push_reserved.ensures.items ∙ ap (λ us. us ++ undo ∷ []) c.reserve.ensures.items)
    (ap (λ p. with_node (map.remove t path) p (Some (node_of c.in-Some.entry))) c.in-Some.ensures.path
    ∙ restored_after_remove t path _ c.in-Some.ensures.before)
