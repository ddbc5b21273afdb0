use Rattle.std.proofs.Common.{[], refl}
use Rattle.gix_object_editor.proofs.tree.editor.state.Editor.write.Goals as goal

pub write_from-requires : goal.write_from-requires
write_from-requires g c = record { callable = c.requires; within = c.args.self.now.forest.rooted }

pub returns-clause-written : goal.returns-clause-written
returns-clause-written g c = c.write_from.ensures.written [] refl

pub returns-clause-refused : goal.returns-clause-refused
returns-clause-refused g c = c.write_from.ensures.refused [] refl
