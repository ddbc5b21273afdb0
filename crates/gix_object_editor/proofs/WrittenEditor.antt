-- What is handed out of an editor, with its last tree.
use Rattle.std.proofs.Common.{ℕ, List, [], ◌∷◌, ◌++◌, refl, ◌∙◌, inl, arith, length, get_or, ◌+◌}
use Rattle.std.proofs.lemmas.List.{append-nil}
use Rattle.std.proofs.lemmas.List.Elements.{All-push}
use Rattle.gix_hash.specs.Id.{Id}
use Rattle.gix_object_tree.specs.Entry.{Item}
use Rattle.gix_object_nodes.specs.Files.{Path}
use Rattle.gix_object_nodes.specs.Nodes.{slots_of, Way, onto}
use Rattle.gix_object_nodes.specs.Marks.{marks_of, due, due_in}
use Rattle.gix_object_nodes.specs.Writing.{Ids, IsTreeOf}
use Rattle.gix_object_nodes.specs.Written.{HandedOut, IsDueAt}
use Rattle.gix_object_nodes.specs.Below.{IsHandedOutFrom}
use Rattle.gix_object_nodes.proofs.Due.{due_forest, due_files}
use Rattle.gix_object_nodes.proofs.HandedSteps.{changed_below, due_all, last_behind, last_files}
use Rattle.gix_object_editor.specs.declared.tree.editor.state.Editor.{Editor}
use Rattle.gix_object_editor.specs.Written.{IsWritten}

pub written : {S : Type 0} (editor : Editor S) (base : Path) (from : ℕ) → Way (due_in editor.nodes.items from) base from → (ids : Ids) (handed : List HandedOut)
    → IsHandedOutFrom (due_in editor.nodes.items from) base (length editor.nodes.items) ids handed (from + 1)
    → (items : List Item) → IsTreeOf ids (due_in editor.nodes.items from from) items → (id : Id) → IsWritten editor from (onto base []) (handed ++ record { path = onto base []; items = items; id = id } ∷ []) id
written editor base from w ids handed so items tree id =
    let slots = slots_of editor.nodes.items in
    let marks = marks_of editor.nodes.items in
    let bound = length editor.nodes.items in
    let ok = due_forest slots marks from bound editor.forest in
    record {
      in_order = last_behind (due slots marks from) base bound ok from w ids handed so items tree id;
      due = All-push (IsDueAt editor.nodes.items (onto base [])) handed (record { path = onto base []; items = items; id = id })
          (due_all editor.nodes.items from base ids handed (from + 1) (omega arith) so) (record { below = ([], append-nil (onto base [])); changed = inl refl });
      last = (handed, items, refl, λ k d lt. (so.some k d lt, let one = so.ones k d lt in changed_below editor.nodes.items from (get_or handed k d).path one.0 (omega (arith, one.1)) one.3));
      files = λ trees has read q.
          last_files (due slots marks from) base bound ok from w ids handed so items tree id trees has q
          ∙ due_files trees slots marks from read (onto base [] ++ q) 0;
    }
