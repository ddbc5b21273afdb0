use Rattle.std.proofs.Common.{refl}
use Rattle.gix_object_nodes.specs.Nodes.{slots_of}
use Rattle.gix_object_nodes.specs.Marks.{marks_of}
use Rattle.gix_object_editor.proofs.Marked.{read_none, not_yet}
use Rattle.gix_object_editor.proofs.tree.editor.state.Editor.new.Goals as goal

pub returns-clause-root : goal.returns-clause-root
returns-clause-root g c =
    record {
      files =
          c.in_ok-nodes.ensures.files;
      entries =
          c.in_ok-nodes.ensures.entries;
      each =
          c.in_ok-nodes.ensures.each;
      as_read =
          λ trees. read_none trees (slots_of c.in_ok-nodes.nodes.items) (marks_of c.in_ok-nodes.nodes.items) c.in_ok-nodes.ensures.closed;
      still =
          λ tree is. not_yet (marks_of c.in_ok-nodes.nodes.items is.0) (c.in_ok-nodes.ensures.unchanged is.0) is.2;
      uncounted =
          refl;
    }
