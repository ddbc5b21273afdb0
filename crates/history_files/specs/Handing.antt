-- Trees that an editor hands out, as they are kept.
use Rattle.std.specs.Prelude.{◌≡◌, ⊤, List, [], ◌∷◌, ◌++◌, map}
use Rattle.gix_hash.specs.Id.{id_of}
use Rattle.gix_hash.specs.declared.kind.Kind.{Kind}
use Rattle.gix_hash.specs.declared.object_id.ObjectId.{ObjectId}
use Rattle.gix_object_tree.specs.Entry.{Item, own_item}
use Rattle.gix_object_tree.specs.Writing as writing
use Rattle.gix_object_tree.specs.declared.tree.owned.Tree.{Tree}
use Rattle.gix_object_nodes.specs.Written.{HandedOut}
use Rattle.gix_object_editor.specs.Written.{IsWritten}
use Rattle.gix_object_editor.specs.declared.tree.editor.state.Editor.{Editor}
use Rattle.history_model.specs.Objects.{digest, tree_text}
use Rattle.history_files.specs.declared.trees.EditedFiles.{EditedFiles}
use Rattle.history_files.specs.declared.trees.EditedTree.{EditedTree}

-- the text of these entries, under its id
pub record IsTextOf (kind : Kind) (items : List Item) (tree : EditedTree) : Type 0 where
  pub content : tree.content.items ≡ writing.tree_text items
  pub id : id_of tree.id ≡ digest kind (tree_text (writing.tree_text items))

-- the tree is kept after the others, and its id is returned
abbrev pub KeepsTree : Kind → List EditedTree → Tree → List EditedTree → ObjectId → Type 0
KeepsTree kind old tree new id =
    (kept : EditedTree) × (new ≡ old ++ kept ∷ []) × (kept.id ≡ id)
    × IsTextOf kind (map own_item tree.entries.items) kept

-- what was handed out is kept
abbrev pub AreKept : Kind → List HandedOut → List EditedTree → Type 0
AreKept kind [] [] = ⊤
AreKept kind [] (kept ∷ more) = ⊥
AreKept kind (tree ∷ trees) [] = ⊥
AreKept kind (tree ∷ trees) (kept ∷ more) =
    (id_of kept.id ≡ tree.id) × IsTextOf kind tree.items kept × AreKept kind trees more

-- all that is written of the editor's root
abbrev pub HasWritten : {S : Type 0} → Kind → Editor S → EditedFiles → Type 0
HasWritten kind editor edited =
    (handed : List HandedOut) × IsWritten editor 0 [] handed (id_of edited.root)
    × AreKept kind handed edited.trees.items
