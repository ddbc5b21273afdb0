-- What is handed out when the trees of an editor are written.
use Rattle.std.specs.Prelude.{ℕ, ◌≡◌, ◌≢◌, List, [], ◌∷◌, ◌++◌, Result}
use Rattle.std.specs.Borrow.{Bor}
use Rattle.std.specs.Fn.{Mut}
use Rattle.std.specs.List.{All, FoldsTo}
use Rattle.gix_hash.specs.Id.{Id}
use Rattle.gix_hash.specs.declared.object_id.ObjectId.{ObjectId}
use Rattle.gix_object_tree.specs.Entry.{Item}
use Rattle.gix_object_tree.specs.declared.tree.owned.Tree.{Tree}
use Rattle.gix_object_nodes.specs.declared.write.error.Error.{Error}
use Rattle.gix_object_nodes.specs.Files.{Path, Trees, SameFiles}
use Rattle.gix_object_nodes.specs.Marks.{due_in}
use Rattle.gix_object_nodes.specs.Written.{HandedOut, HasHandedOut, files_under, EachBehind, IsHandedOut, IsDueAt, HandsOut, StopsWriting}
use Rattle.gix_object_editor.specs.declared.tree.editor.state.Editor.{Editor}
use Rattle.gix_object_editor.specs.Editor.{files_of, IsChanged, IsAsRead}

-- what is handed out of an editor for the id of the tree at a path, which has this number
pub record IsWritten {S : Type 0} (editor : Editor S) (from : ℕ) (path : Path)
    (handed : List HandedOut) (id : Id) : Type 0 where
  pub in_order : EachBehind (IsHandedOut (due_in editor.nodes.items from)) [] handed
  pub due : All (IsDueAt editor.nodes.items path) handed
  -- this tree comes last; each other was changed by an edit, and isn't empty
  pub last : (below : List HandedOut) × (items : List Item)
      × (handed ≡ below ++ record { path = path; items = items; id = id } ∷ [])
      × All (λ tree. (tree.items ≢ []) × IsChanged editor tree.path) below
  -- over each table that has them and what no edit changed
  pub files : (trees : Trees) → HasHandedOut handed trees → IsAsRead trees editor
      → SameFiles (files_under trees id) (λ q. files_of trees editor (path ++ q))

-- ---- calls

module _ {F E : Type 0} (calls : Mut F (Bor Tree × Unit {0}) (Result ObjectId E)) where
  -- what is written of the tree at a path is handed out, and this is its id
  abbrev pub Writes : {S : Type 0} → Editor S → ℕ → Path → F → Id → F → Type 0
  Writes editor from path out id after = (handed : List HandedOut)
      × FoldsTo (HandsOut calls) out handed after × IsWritten editor from path handed id

  -- why no id is returned for the tree at a path of an editor, which has this number, and what was
  -- handed out by then
  abbrev pub WriteFault : {S : Type 0} → Editor S → ℕ → Path → F → Error E → F → Type 0
  WriteFault editor from path out error after =
      StopsWriting calls editor.nodes.items from path out error after
