use Rattle.std.proofs.Common.{[], refl}
use Rattle.gix_object_editor.proofs.tree.editor.state.Editor.remove.Goals as goal

pub remove_from-requires : goal.remove_from-requires
remove_from-requires g c = c.args.self.now.forest.rooted

pub returns-clause-removed : goal.returns-clause-removed
returns-clause-removed g c = c.remove_from.ensures.removed [] refl

pub returns-clause-refused : goal.returns-clause-refused
returns-clause-refused g c = c.remove_from.ensures.refused [] refl
