use Rattle.std.proofs.Common.{◌≡◌, ◌++◌}
use Rattle.gix_hash.specs.Id.{id_of}
use Rattle.gix_object_editor.specs.declared.tree.editor.error.Error.{Error}
use Rattle.gix_object_editor.specs.declared.tree.editor.error.Error.TheVariants.{EmptyTree}
use Rattle.gix_object_nodes.specs.Files.{IsEmptyTree, NamesAreFull}
use Rattle.gix_object_editor.specs.Editor.{files_of, names_of, LeadsThrough, EditFault}
use Rattle.gix_object_editor.proofs.Grafted.{grafts_put, kept_graft, or_other, not_so}
use Rattle.gix_object_editor.proofs.tree.editor.state.Cursor.graft.Goals as goal

pub returns-clause-kept : goal.returns-clause-kept
returns-clause-kept g c =
    kept_graft g.S.Lookup.is_honest g.S.Lookup.table c.args.path.now c.args.kind c.args.id c.args.self.now.editor.now c.upsert.new.self.editor.now c.upsert.result c.in_ok-check_graft.ensures.ok.1 c.upsert.ensures.kept

pub returns-clause-refused : goal.returns-clause-refused
returns-clause-refused g c = λ base stands.
    or_other c.upsert.result (EditFault (g.S.Lookup.is_honest c.args.self.now.editor.now.store) (g.S.Lookup.may_fail c.args.self.now.editor.now.store) (g.S.Lookup.table c.args.self.now.editor.now.store) (names_of c.args.path.now)
    (LeadsThrough (λ trees. files_of trees c.upsert.new.self.editor.now) (base ++ names_of c.args.path.now)))
    (λ (error : Error). (error ≡ EmptyTree) × NamesAreFull (names_of c.args.path.now) × IsEmptyTree (id_of c.args.id)) (c.upsert.ensures.refused base stands)

pub returns-clause-untouched : goal.returns-clause-untouched
returns-clause-untouched g c = λ base stands is.
    absurd (not_so c.upsert.result (EditFault (g.S.Lookup.is_honest c.args.self.now.editor.now.store) (g.S.Lookup.may_fail c.args.self.now.editor.now.store) (g.S.Lookup.table c.args.self.now.editor.now.store) (names_of c.args.path.now)
    (LeadsThrough (λ trees. files_of trees c.upsert.new.self.editor.now) (base ++ names_of c.args.path.now))) EmptyTree (c.upsert.ensures.refused base stands) (λ no. no) is)

pub returns-clause-grafted : goal.returns-clause-grafted
returns-clause-grafted g c = λ base stands.
    grafts_put g.S.Lookup.is_honest g.S.Lookup.table (base ++ names_of c.args.path.now) c.args.kind c.args.id c.args.self.now.editor.now c.upsert.new.self.editor.now c.upsert.result (c.upsert.ensures.put base stands)
