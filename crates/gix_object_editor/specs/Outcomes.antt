-- What a call makes of an editor. A store gives two words: that its answers are its table's, and the
-- table.
use Rattle.std.specs.Prelude.{ℕ, ◌≡◌, ◌≤◌, ◌+◌, ◌++◌, ◌⊎◌, ◌<◌, List, length, Option, Some, None, Result, Err, OnOk, OnErr, IfErr, true, false}
use Rattle.std.specs.Borrow.{Bor}
use Rattle.gix_hash.specs.Id.{Id, id_of}
use Rattle.gix_hash.specs.declared.kind.Kind.{Kind}
use Rattle.gix_hash.specs.declared.object_id.ObjectId.{ObjectId}
use Rattle.gix_object_tree.specs.Entry.{Item}
use Rattle.gix_object_tree.specs.Mode.{kind_value, is_tree_value}
use Rattle.gix_object_tree.specs.declared.tree.mode.EntryKind.{EntryKind}
use Rattle.gix_object_lookup.specs.Table.{Table}
use Rattle.gix_object_editor.specs.declared.tree.editor.state.Editor.{Editor}
use Rattle.gix_object_editor.specs.declared.tree.editor.error.Error.{Error}
use Rattle.gix_object_editor.specs.declared.tree.editor.error.Error.TheVariants.{EmptyPathComponent, EmptyTree}
use Rattle.gix_object_nodes.specs.Nodes.{slots_of, Way}
use Rattle.gix_object_nodes.specs.Files.{IsEmptyTree, Path, Leaf, Trees, SameFiles, NamesAreFull, Begins, HasNoneBelow, is_null, leaf_of, removed, put, cleared, files_of_tree, entry_of_tree}
use Rattle.gix_object_editor.specs.Entries.{Property, PassesDown, ItemsHave, MayStand}
use Rattle.gix_object_editor.specs.Asked.{Asks}
use Rattle.gix_object_editor.specs.Editor.{files_of, entry_over, entry_met, names_of, leaf_of_kind, asked_by, IsChanged, ChangesNone, IsAsRead, IsAbove, IsMadeAt, IsOpenedAt, HasFolderAt, EachEntryHas, KeepsEntries, KeepsFolders, PutsEntry, MakesFolders, MakesFoldersAbove, ClearsEntries, OverStored, ErrOverStored, LeadsThrough, LeadsInto, EditFault, LeafFault, GraftFault, IsFilled, IsFolder}

-- a property of each entry stays, if the edit's entries may have it
abbrev pub KeepsEach : {S : Type 0} → (S → Type 0) → (S → Table) → (Property → Type 0)
    → Editor S → Editor S → Type 0
KeepsEach is_honest table May old new = is_honest old.store → (has : Property)
    → PassesDown (table old.store) has → May has → EachEntryHas has old → EachEntryHas has new

-- what each edit keeps, also a property of entries that the edit's may have; and all that a refused
-- one does: no file, entry or mark changes
pub record IsKept {S X : Type 0} (is_honest : S → Type 0) (table : S → Table)
    (path : List (Bor (List ℕ))) (May : Property → Type 0) (old new : Editor S)
    (result : Result X Error) : Type 0 where
  pub each : KeepsEach is_honest table May old new
  pub store : new.store ≡ old.store
  pub counted : new.lookups ≤ old.lookups + length path
  pub as_read : OverStored (is_honest old.store) (table old.store)
      (λ trees. IsAsRead trees old → IsAsRead trees new)
  pub named : OnOk result (NamesAreFull (names_of path))
  pub full : IfErr result (λ error. (error ≡ EmptyPathComponent) ⊎ NamesAreFull (names_of path))
  pub unchanged : ErrOverStored (is_honest old.store) (table old.store) result
      (λ trees. SameFiles (files_of trees new) (files_of trees old))
  pub same_entries : ErrOverStored (is_honest old.store) (table old.store) result
      (λ trees. SameFiles (entry_over trees new) (entry_over trees old))
  pub still : OnErr result ((tree : Path) → IsChanged new tree → IsChanged old tree)

-- the names that led down to this opened tree still do
pub record KeepsTree {S : Type 0} (at : ℕ) (old new : Editor S) : Type 0 where
  pub way : (way : Path) → Way (slots_of old.nodes.items) way at
      → Way (slots_of new.nodes.items) way at
  pub within : at < length new.nodes.items

-- what is at or below the path goes; if that is nothing, or a made folder, no tree changes
pub record Removes {S : Type 0} (is_honest : S → Type 0) (table : S → Table) (path : Path)
    (old new : Editor S) : Type 0 where
  pub files : OverStored (is_honest old.store) (table old.store)
      (λ trees. SameFiles (files_of trees new) (removed path (files_of trees old)))
  pub entries : OverStored (is_honest old.store) (table old.store)
      (λ trees. SameFiles (entry_over trees new) (removed path (entry_over trees old)))
  pub changed : (tree : Path) → IsChanged new tree → IsChanged old tree ⊎ IsAbove tree path
  pub nothing : OverStored (is_honest old.store) (table old.store)
      (λ trees. entry_over trees old path ≡ None → ChangesNone old new)
  pub made : IsMadeAt old path → ChangesNone old new

-- no file was below the path
abbrev pub HadNoneBelow : {S : Type 0} → (S → Type 0) → (S → Table) → Path → Editor S → Type 0
HadNoneBelow is_honest table path old = OverStored (is_honest old.store) (table old.store)
    (λ trees. HasNoneBelow path (files_of trees old))

-- the same, and no file was below the path
pub record RemovesLeaf {S : Type 0} (is_honest : S → Type 0) (table : S → Table) (path : Path)
    (old new : Editor S) : Type 0 where
  pub removes : Removes is_honest table path old new
  pub none_below : HadNoneBelow is_honest table path old

-- this entry is at the path, in folders that are made for it, unless its id is null: then what is
-- there goes; if it is there already, no tree changes
pub record Puts {S : Type 0} (is_honest : S → Type 0) (table : S → Table) (path : Path)
    (leaf : Leaf) (old new : Editor S) : Type 0 where
  pub files : OverStored (is_honest old.store) (table old.store)
      (λ trees. SameFiles (files_of trees new) (put trees path leaf (files_of trees old)))
  pub entries : OverStored (is_honest old.store) (table old.store)
      (λ trees. KeepsEntries trees path old new)
  pub entry : OverStored (is_honest old.store) (table old.store)
      (λ trees. is_null leaf.id ≡ false → PutsEntry trees path leaf new)
  pub folders : OverStored (is_honest old.store) (table old.store)
      (λ trees. is_null leaf.id ≡ false → MakesFoldersAbove trees leaf.id.kind path old new)
  pub gone : OverStored (is_honest old.store) (table old.store)
      (λ trees. is_null leaf.id ≡ true → ClearsEntries trees path old new)
  pub changed : (tree : Path) → IsChanged new tree → IsChanged old tree ⊎ IsAbove tree path
  pub nothing : OverStored (is_honest old.store) (table old.store)
      (λ trees. is_null leaf.id ≡ true → entry_met trees old path ≡ None → ChangesNone old new)
  pub made : is_null leaf.id ≡ true → IsMadeAt old path → ChangesNone old new
  pub already : OverStored (is_honest old.store) (table old.store)
      (λ trees. is_null leaf.id ≡ false → entry_over trees old path ≡ Some leaf
      → (IsOpenedAt old path → ⊥) → ChangesNone old new)

-- the same of an entry of this kind and id: what is stored under the id has its files at the path
pub record Grafts {S : Type 0} (is_honest : S → Type 0) (table : S → Table) (path : Path)
    (kind : EntryKind) (id : ObjectId) (old new : Editor S) : Type 0 where
  pub put : Puts is_honest table path (leaf_of_kind kind id) old new
  pub folder : OverStored (is_honest old.store) (table old.store)
      (λ trees. is_tree_value (kind_value kind) ≡ true → is_null (id_of id) ≡ false
      → (items : List Item) → trees (id_of id) ≡ Some items
      → SameFiles (λ rest. files_of trees new (path ++ rest)) (files_of_tree trees items))
  pub file : OverStored (is_honest old.store) (table old.store)
      (λ trees. is_tree_value (kind_value kind) ≡ false → is_null (id_of id) ≡ false
      → files_of trees new path ≡ Some (leaf_of_kind kind id))

-- what a graft asks of a property, unless the id is the empty tree's
abbrev pub MayGraft : Path → EntryKind → ObjectId → Property → Type 0
MayGraft names kind id has = (IsEmptyTree (id_of id) → ⊥) → MayStand has names (leaf_of_kind kind id)

-- the empty tree's id is refused, if the names aren't, and then nothing changes
pub record RefusesEmpty {S X : Type 0} (names : Path) (id : Id) (old new : Editor S)
    (result : Result X Error) : Type 0 where
  pub refused : NamesAreFull names → IsEmptyTree id → result ≡ Err EmptyTree
  pub untouched : result ≡ Err EmptyTree → new ≡ old

-- a folder is at the path, made if there was none; if there was one, no tree changes
pub record MakesFolder {S : Type 0} (is_honest : S → Type 0) (table : S → Table) (hash : Kind)
    (path : Path) (old new : Editor S) : Type 0 where
  pub files : OverStored (is_honest old.store) (table old.store)
      (λ trees. SameFiles (files_of trees new) (cleared path (files_of trees old)))
  pub entries : OverStored (is_honest old.store) (table old.store)
      (λ trees. KeepsFolders trees path old new)
  pub folders : OverStored (is_honest old.store) (table old.store)
      (λ trees. MakesFolders trees hash path old new)
  pub changed : (tree : Path) → IsChanged new tree → IsChanged old tree ⊎ Begins tree path
  pub nothing : OverStored (is_honest old.store) (table old.store)
      (λ trees. entry_met trees old path ≡ None → ChangesNone old new)
  pub stood : OverStored (is_honest old.store) (table old.store)
      (λ trees. HasFolderAt trees old path → ChangesNone old new)

-- the editor has this tree's files and entries, of which no edit changed any
pub record HasRoot {S : Type 0} (items : List Item) (editor : Editor S) : Type 0 where
  pub files : (trees : Trees) → SameFiles (files_of trees editor) (files_of_tree trees items)
  pub entries : (trees : Trees) → SameFiles (entry_over trees editor) (entry_of_tree trees items)
  pub each : (has : Property) → ItemsHave has items → EachEntryHas has editor
  pub as_read : (trees : Trees) → IsAsRead trees editor
  pub still : (tree : Path) → IsChanged editor tree → ⊥
  pub uncounted : editor.lookups ≡ 0

-- what was found at the path is its file, if it has one; it is its entry; and if the entry isn't
-- null, it is a file or a tree was opened there
pub record Finds {S : Type 0} (editor : Editor S) (path : Path) (found : Option Item) : Type 0 where
  pub file : (trees : Trees) (leaf : Leaf) (item : Item) → files_of trees editor path ≡ Some leaf
      → found ≡ Some item → leaf_of item ≡ leaf
  pub stands : (trees : Trees) (item : Item) → found ≡ Some item
      → entry_over trees editor path ≡ Some (leaf_of item)
  pub there : (trees : Trees) (item : Item) → found ≡ Some item → is_null item.id ≡ false
      → trees item.id ≡ None
      → (files_of trees editor path ≡ Some (leaf_of item)) ⊎ IsOpenedAt editor path

-- ---- entries, lookups and causes

-- the trees that aren't opened into which the path leads were looked up
abbrev pub AsksInto : {S X : Type 0} → (S → Type 0) → (S → Type 0) → (S → Table) → Path
    → Editor S → Editor S → Result X Error → Type 0
AsksInto is_honest may_fail table path old new result = Asks (is_honest old.store)
    (may_fail old.store) (table old.store) (asked_by old path) old.lookups new.lookups result

-- a refused edit has a cause, of the names or of a tree that the path leads through
abbrev pub FaultOfEdit : {S X : Type 0} → (S → Type 0) → (S → Type 0) → (S → Table) → Path → Path
    → Editor S → Editor S → Result X Error → Type 0
FaultOfEdit is_honest may_fail table names path old new result = IfErr result
    (EditFault (is_honest old.store) (may_fail old.store) (table old.store) names
    (LeadsThrough (λ trees. files_of trees new) path))

-- the same of a graft of this id
abbrev pub FaultOfGraft : {S X : Type 0} → (S → Type 0) → (S → Type 0) → (S → Table) → Path → Id
    → Path → Editor S → Editor S → Result X Error → Type 0
FaultOfGraft is_honest may_fail table names id path old new result = IfErr result
    (GraftFault (is_honest old.store) (may_fail old.store) (table old.store) names id
    (LeadsThrough (λ trees. files_of trees new) path))

-- the same of a folder, which may be of the tree at the path's end too
abbrev pub FaultOfFolder : {S X : Type 0} → (S → Type 0) → (S → Type 0) → (S → Table) → Path
    → Editor S → Editor S → Result X Error → Type 0
FaultOfFolder is_honest may_fail table path old new result = IfErr result
    (EditFault (is_honest old.store) (may_fail old.store) (table old.store) path
    (LeadsInto (λ trees. files_of trees new) path))

-- the same of a file's removal, which may be of a folder at the path's end too
abbrev pub FaultOfLeaf : {S X : Type 0} → (S → Type 0) → (S → Type 0) → (S → Table) → Path → Path
    → Editor S → Editor S → Result X Error → Type 0
FaultOfLeaf is_honest may_fail table names path old new result = IfErr result
    (LeafFault (is_honest old.store) (may_fail old.store) (table old.store) names
    (LeadsInto (λ trees. files_of trees new) path)
    (IsFolder (λ trees. IsFilled trees new) (λ trees. files_of trees new) path))
