use Rattle.gix_object_editor.specs.Editor.{files_of, names_of, LeadsThrough, EditFault}
use Rattle.gix_object_editor.specs.declared.tree.editor.error.Error.TheVariants.{EmptyTree}
use Rattle.gix_object_editor.proofs.Grafted.{grafts_put, kept_graft, not_so}
use Rattle.gix_object_editor.proofs.tree.editor.state.Editor.graft.Goals as goal

pub returns-clause-kept : goal.returns-clause-kept
returns-clause-kept g c = kept_graft g.S.Lookup.is_honest g.S.Lookup.table c.args.path.now c.args.kind c.args.id c.args.self.now c.upsert.new.self c.upsert.result c.in_ok-check_graft.ensures.ok.1 c.upsert.ensures.kept

pub returns-clause-empty : goal.returns-clause-empty
returns-clause-empty g c = record {
  refused = λ full empty. absurd (c.in_ok-check_graft.ensures.ok.1 empty);
  untouched = λ is.
      absurd (not_so c.upsert.result (EditFault (g.S.Lookup.is_honest c.args.self.now.store) (g.S.Lookup.may_fail c.args.self.now.store) (g.S.Lookup.table c.args.self.now.store) (names_of c.args.path.now)
      (LeadsThrough (λ trees. files_of trees c.upsert.new.self) (names_of c.args.path.now))) EmptyTree c.upsert.ensures.refused (λ no. no) is);
}

pub returns-clause-grafted : goal.returns-clause-grafted
returns-clause-grafted g c =
    grafts_put g.S.Lookup.is_honest g.S.Lookup.table (names_of c.args.path.now) c.args.kind c.args.id c.args.self.now c.upsert.new.self c.upsert.result c.upsert.ensures.put
