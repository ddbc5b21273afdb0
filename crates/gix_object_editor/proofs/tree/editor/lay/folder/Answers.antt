use Rattle.std.proofs.Common.{ℕ, Bool, false, ◌∙◌, ap}
use Rattle.gix_hash.specs.Id.{Id, id_of, null_id}
use Rattle.gix_object_tree.specs.Mode.{kind_value}
use Rattle.gix_object_tree.specs.declared.tree.mode.EntryKind.TheVariants as kinds
use Rattle.gix_object_nodes.specs.Files.{Leaf}
use Rattle.gix_object_editor.proofs.tree.editor.lay.folder.Goals as goal

pub returns-clause-leaf : goal.returns-clause-leaf
returns-clause-leaf c =
    ap (λ (v : ℕ). let l : Leaf = record { mode = record { value = v; padded = c.from.result.padded }; id = id_of c.null.result } in l) c.from.ensures.0
    ∙ ap (λ (b : Bool). let l : Leaf = record { mode = record { value = kind_value kinds.Tree; padded = b }; id = id_of c.null.result } in l) c.from.ensures.1
    ∙ ap (λ (i : Id). let l : Leaf = record { mode = record { value = kind_value kinds.Tree; padded = false }; id = i } in l) (c.null.ensures ∙ ap null_id c.kind.ensures)
