use Rattle.std.proofs.Common.{[], refl}
use Rattle.gix_object_editor.proofs.tree.editor.state.Editor.upsert.Goals as goal

pub upsert_from-requires : goal.upsert_from-requires
upsert_from-requires g c = c.args.self.now.forest.rooted

pub returns-clause-put : goal.returns-clause-put
returns-clause-put g c = c.upsert_from.ensures.put [] refl

pub returns-clause-refused : goal.returns-clause-refused
returns-clause-refused g c = c.upsert_from.ensures.refused [] refl
