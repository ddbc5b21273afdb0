use Rattle.std.proofs.Common.{[], refl, sym, ap, ◌∙◌}
use Rattle.gix_object_editor.specs.Editor.{names_of}
use Rattle.gix_object_nodes.specs.Nodes.{slots_of, entry_at}
use Rattle.gix_object_editor.proofs.Gotten.{got_file, got_there, got_entry}
use Rattle.gix_object_editor.proofs.tree.editor.state.Editor.get.Goals as goal

pub returns-clause-answer : goal.returns-clause-answer
returns-clause-answer g c = c.entry_from.ensures ∙ ap (λ ns. entry_at (slots_of ns) 0 (names_of c.args.path.now)) c.as_slice.ensures.value

pub returns-clause-found : goal.returns-clause-found
returns-clause-found g c =
    record {
      file =
          λ trees leaf item stands is.
          got_file trees (slots_of c.args.self.now.nodes.items) (names_of c.args.path.now) 0 leaf item stands (sym (returns-clause-answer g c) ∙ is);
      stands =
          λ trees item is.
          got_entry trees (slots_of c.args.self.now.nodes.items) (names_of c.args.path.now) 0 item (sym (returns-clause-answer g c) ∙ is);
      there =
          λ trees item is some gone.
          got_there trees (slots_of c.args.self.now.nodes.items) (names_of c.args.path.now) 0 [] item refl (sym (returns-clause-answer g c) ∙ is) some gone;
    }
