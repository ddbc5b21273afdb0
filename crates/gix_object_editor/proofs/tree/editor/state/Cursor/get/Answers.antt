use Rattle.std.proofs.Common.{◌∙◌, ap, sym}
use Rattle.gix_object_editor.specs.Editor.{names_of}
use Rattle.gix_object_nodes.specs.Nodes.{slots_of, entry_at}
use Rattle.gix_object_editor.proofs.Walked.{names}
use Rattle.gix_object_editor.proofs.Gotten.{got_below, got_file_below, got_entry_below}
use Rattle.gix_object_editor.proofs.Folders.{entry_below}
use Rattle.gix_object_editor.proofs.tree.editor.state.Cursor.get.Goals as goal

pub returns-clause-entry : goal.returns-clause-entry
returns-clause-entry g c = λ base stands some.
    c.entry_from.ensures ∙ ap (λ ns. entry_at (slots_of ns) c.args.self.now.at.0 (names c.args.path.now)) c.as_slice.ensures.value
    ∙ entry_below (slots_of c.args.self.now.editor.now.nodes.items) base c.args.self.now.at.0 c.args.path.now stands some

pub returns-clause-found : goal.returns-clause-found
returns-clause-found g c = λ base stands.
    record {
      file =
          λ trees leaf item file is.
          let slots = slots_of c.args.self.now.editor.now.nodes.items in
          let got = sym (c.entry_from.ensures ∙ ap (λ ns. entry_at (slots_of ns) c.args.self.now.at.0 (names c.args.path.now)) c.as_slice.ensures.value) ∙ is in
          got_file_below trees slots base c.args.self.now.at.0 (names_of c.args.path.now) leaf item stands file got;
      stands =
          λ trees item is.
          let slots = slots_of c.args.self.now.editor.now.nodes.items in
          let got = sym (c.entry_from.ensures ∙ ap (λ ns. entry_at (slots_of ns) c.args.self.now.at.0 (names c.args.path.now)) c.as_slice.ensures.value) ∙ is in
          got_entry_below trees slots base c.args.self.now.at.0 (names_of c.args.path.now) item stands got;
      there =
          λ trees item is some gone.
          let slots = slots_of c.args.self.now.editor.now.nodes.items in
          let got = sym (c.entry_from.ensures ∙ ap (λ ns. entry_at (slots_of ns) c.args.self.now.at.0 (names c.args.path.now)) c.as_slice.ensures.value) ∙ is in
          got_below trees slots base c.args.self.now.at.0 (names_of c.args.path.now) item stands got some gone;
    }
