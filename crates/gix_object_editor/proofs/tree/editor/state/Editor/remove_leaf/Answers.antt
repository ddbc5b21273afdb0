use Rattle.std.proofs.Common.{[], refl}
use Rattle.gix_object_editor.specs.Editor.{files_of, names_of, LeadsInto}
use Rattle.gix_object_editor.proofs.Leafs.{leaf_fault_folder}
use Rattle.gix_object_editor.proofs.tree.editor.state.Editor.remove_leaf.Goals as goal

pub remove_leaf_from-requires : goal.remove_leaf_from-requires
remove_leaf_from-requires g c = c.args.self.now.forest.rooted

pub returns-clause-removed : goal.returns-clause-removed
returns-clause-removed g c = c.remove_leaf_from.ensures.removed [] refl

pub returns-clause-refused : goal.returns-clause-refused
returns-clause-refused g c = c.remove_leaf_from.ensures.refused [] refl

pub returns-clause-folder : goal.returns-clause-folder
returns-clause-folder g c = leaf_fault_folder (g.S.Lookup.is_honest c.args.self.now.store) (g.S.Lookup.may_fail c.args.self.now.store) (g.S.Lookup.table c.args.self.now.store) (names_of c.args.path.now)
    (LeadsInto (λ trees. files_of trees c.remove_leaf_from.new.self) (names_of c.args.path.now)) (names_of c.args.path.now) c.remove_leaf_from.new.self c.remove_leaf_from.result (c.remove_leaf_from.ensures.refused [] refl)
