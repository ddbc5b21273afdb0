-- A cursor as the path of its folder.
use Rattle.std.specs.Prelude.{◌≡◌, ◌≤◌, ◌+◌, ◌⊎◌, [], length, Result}
use Rattle.std.specs.Borrow.{RestsIfErr, MutBor, Fml, RattleType}
use Rattle.gix_object_editor.specs.declared.tree.editor.state.Cursor.{Cursor}
use Rattle.gix_object_editor.specs.declared.tree.editor.state.Editor.{Editor}
use Rattle.gix_object_editor.specs.contracts.tree.editor.state.Editor.{the_row}
use Rattle.gix_object_lookup.specs.Table.{Table}
use Rattle.gix_object_editor.specs.declared.tree.editor.error.Error.{Error}
use Rattle.gix_object_editor.specs.declared.tree.editor.error.Error.TheVariants.{EmptyPathComponent}
use Rattle.gix_object_editor.specs.Asked.{StopsAt}
use Rattle.gix_object_nodes.specs.Files.{Path, Trees, SameFiles, NamesAreFull}
use Rattle.gix_object_editor.specs.Stored.{HasStored}
use Rattle.gix_object_nodes.specs.Nodes.{slots_of, LeadsTo}
use Rattle.gix_object_editor.specs.Editor.{files_of, LeadsInto, EditFault, IsChanged, IsAsRead, entry_over, asked_by}

-- the cursor is at the opened tree at this path's end
abbrev pub StandsAt : {S : Type 0} → Cursor S → Path → Type 0
StandsAt cursor path = LeadsTo (slots_of cursor.editor.now.nodes.items) path cursor.at.0 []

-- the cursor stays where it was, on the editor that it was lent
pub record Stays {S : Type 0} (old new : Cursor S) : Type 0 where
  pub stands : (base : Path) → StandsAt old base → StandsAt new base
  pub lent : new.editor.ghost_name ≡ old.editor.ghost_name

-- what an editor is left as if no cursor is returned, and why
pub record IsLeft {S : Type 0} (honest may_fail : Type 0) (table : Table) (path : Path)
    (old left : Editor S) (error : Error) : Type 0 where
  pub files : honest → (trees : Trees) → HasStored table trees
      → SameFiles (files_of trees left) (files_of trees old)
  pub entries : honest → (trees : Trees) → HasStored table trees
      → SameFiles (entry_over trees left) (entry_over trees old)
  pub as_read : honest → (trees : Trees) → HasStored table trees → IsAsRead trees old
      → IsAsRead trees left
  pub still : (tree : Path) → IsChanged left tree → IsChanged old tree
  pub fault : EditFault honest may_fail table path
      (LeadsInto (λ trees. files_of trees left) path) error
  pub full : (error ≡ EmptyPathComponent) ⊎ NamesAreFull path
  pub asked : honest → (trees : Trees) → HasStored table trees
      → StopsAt honest may_fail table (asked_by old path trees) old.lookups left.lookups error
  pub counted : left.lookups ≤ old.lookups + length path
  pub store : left.store ≡ old.store

module _ (S : RattleType) where
  -- the editor is lent to the cursor, or it is left so
  abbrev pub LendsOrLeaves : {E : Type 0} → MutBor (Editor S.Denot) → Result (Cursor S.Denot) E
      → (Editor S.Denot → Type 0) → Fml
  LendsOrLeaves editor result Left = RestsIfErr (the_row S) editor
      (λ cursor. cursor.editor.ghost_name) result Left
