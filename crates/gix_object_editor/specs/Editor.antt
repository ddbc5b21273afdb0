-- An editor as its files.
use Rattle.std.specs.Prelude.{ℕ, ◌≡◌, ◌≢◌, ◌⊎◌, true, false, List, [], ◌∷◌, ◌++◌, map, Option, Some, None, Result, OnErr, IsTrue, ⊤}
use Rattle.std.specs.Borrow.{Bor}
use Rattle.gix_hash.specs.Id.{Id, id_of}
use Rattle.gix_hash.specs.declared.kind.Kind.{Kind}
use Rattle.gix_hash.specs.declared.object_id.ObjectId.{ObjectId}
use Rattle.gix_object_tree.specs.Mode.{kind_value, is_tree_value}
use Rattle.gix_object_tree.specs.declared.tree.mode.EntryKind.{EntryKind}
use Rattle.gix_object_lookup.specs.Table.{Table}
use Rattle.gix_object_nodes.specs.declared.node.Slot.{Slot}
use Rattle.gix_object_editor.specs.declared.tree.editor.state.Editor.{Editor}
use Rattle.gix_object_editor.specs.declared.tree.editor.error.Error.{Error}
use Rattle.gix_object_editor.specs.declared.tree.editor.error.Error.TheVariants.{EmptyPathComponent, FindExistingObject, CannotRemoveNonLeaf, MalformedTree, EmptyTree, Memory}
use Rattle.gix_object_nodes.specs.Files.{Bytes, Path, Leaf, FileMap, Trees, NamesAreFull, IsEmptyTree, behind, leads_on, entry_into}
use Rattle.gix_object_editor.specs.Stored.{HasStored}
use Rattle.gix_object_nodes.specs.Nodes.{slots_of, slot_over, entry_from, files_of_node, LeadsTo, AreFilled}
use Rattle.gix_object_nodes.specs.Marks.{marks_of, IsMade, IsChangedIn, AreAsRead}
use Rattle.gix_object_editor.specs.Entries.{Property, EachHas, made_leaf}
use Rattle.gix_object_editor.specs.Refusals.{OpeningFault}
use Rattle.gix_object_editor.specs.Asked.{unopened_into}

-- the files of the edited root, over a table of trees
abbrev pub files_of : {S : Type 0} → Trees → Editor S → FileMap
files_of trees editor = files_of_node trees (slots_of editor.nodes.items) 0

-- the tree at the path was opened, and an edit changed it, or one that lies in it
abbrev pub IsChanged : {S : Type 0} → Editor S → Path → Type 0
IsChanged editor path = IsChangedIn editor.nodes.items path

-- a tree was opened at the path
abbrev pub IsOpenedAt : {S : Type 0} → Editor S → Path → Type 0
IsOpenedAt editor path = (j : ℕ) × LeadsTo (slots_of editor.nodes.items) path j []

-- each opened tree that no edit changed has the files that the table has of its entry
abbrev pub IsAsRead : {S : Type 0} → Trees → Editor S → Type 0
IsAsRead trees editor = AreAsRead trees (slots_of editor.nodes.items) (marks_of editor.nodes.items)

-- each tree is changed exactly if it was before
abbrev pub ChangesNone : {S : Type 0} → Editor S → Editor S → Type 0
ChangesNone old new = (tree : Path) → (IsChanged new tree → IsChanged old tree)
    × (IsChanged old tree → IsChanged new tree)

-- the entry at a path over a table of trees, also if its tree isn't opened
abbrev pub entry_over : {S : Type 0} → Trees → Editor S → Path → Option Leaf
entry_over trees editor = entry_from (λ leaf. None) trees (slots_of editor.nodes.items) 0

-- that one, or the entry in its way: one on the path that names no tree
abbrev pub entry_met : {S : Type 0} → Trees → Editor S → Path → Option Leaf
entry_met trees editor = entry_from (λ leaf. Some leaf) trees (slots_of editor.nodes.items) 0

-- at the path is a folder that a cursor made, and nothing was put into it: its entry has the null
-- id, and no edit changed its tree
abbrev pub IsMadeAt : {S : Type 0} → Editor S → Path → Type 0
IsMadeAt editor path = (s : Slot) × (slot_over (slots_of editor.nodes.items) 0 path ≡ Some s)
    × IsMade (marks_of editor.nodes.items) s

-- ---- entries that an edit leaves as they were

abbrev pub IsTreeEntry : Option Leaf → Type 0
IsTreeEntry None = ⊥
IsTreeEntry (Some leaf) = leads_on leaf ≡ true

-- a folder is at the path: a tree was opened there, or the entry names one
abbrev pub HasFolderAt : {S : Type 0} → Trees → Editor S → Path → Type 0
HasFolderAt trees editor path = IsOpenedAt editor path ⊎ IsTreeEntry (entry_over trees editor path)

-- what is at the second path isn't in the first one's way: if it lies on it, or is its end, it is a
-- folder
abbrev pub IsInNoWay : {S : Type 0} → Trees → Editor S → Path → Path → Type 0
IsInNoWay trees editor path q = (rest : Path) → q ++ rest ≡ path → HasFolderAt trees editor q

-- each entry stays, except those in the way of the path
abbrev pub KeepsFolders : {S : Type 0} → Trees → Path → Editor S → Editor S → Type 0
KeepsFolders trees path old new = (q : Path) → IsInNoWay trees old path q
    → entry_over trees new q ≡ entry_over trees old q

-- each entry stays, except those in the way of the path, at its end and below it
abbrev pub KeepsEntries : {S : Type 0} → Trees → Path → Editor S → Editor S → Type 0
KeepsEntries trees path old new = (q : Path) → behind path q ≡ None
    → IsInNoWay trees old path q → entry_over trees new q ≡ entry_over trees old q

-- the entry at the path is this one, or, below it, the one to which the names lead that are left
abbrev pub PutsEntry : {S : Type 0} → Trees → Path → Leaf → Editor S → Type 0
PutsEntry trees path leaf editor = (rest : Path)
    → entry_over trees editor (path ++ rest) ≡ entry_into (λ l. None) trees rest leaf

-- on the way to the path, and at its end, what was no folder is one that was made, with the null id
abbrev pub MakesFolders : {S : Type 0} → Trees → Kind → Path → Editor S → Editor S → Type 0
MakesFolders trees kind path old new = (q rest : Path) → q ++ rest ≡ path
    → (HasFolderAt trees old q → ⊥) → entry_over trees new q ≡ Some (made_leaf kind)

-- the same on the way alone
abbrev pub MakesFoldersAbove : {S : Type 0} → Trees → Kind → Path → Editor S → Editor S → Type 0
MakesFoldersAbove trees kind path old new = (q : Path) (name : Bytes) (rest : Path)
    → q ++ name ∷ rest ≡ path → (HasFolderAt trees old q → ⊥)
    → entry_over trees new q ≡ Some (made_leaf kind)

-- nothing is at the path's end, nor at a path on the way to it that was no folder
abbrev pub ClearsEntries : {S : Type 0} → Trees → Path → Editor S → Editor S → Type 0
ClearsEntries trees path old new = (entry_over trees new path ≡ None)
    × ((q rest : Path) → q ++ rest ≡ path → (HasFolderAt trees old q → ⊥)
    → entry_over trees new q ≡ None)

-- each entry of the editor's opened trees has the property, also if a tree was opened for it
abbrev pub EachEntryHas : {S : Type 0} → Property → Editor S → Type 0
EachEntryHas has editor = EachHas has (slots_of editor.nodes.items)

-- over each table of trees that has the stored ones, if the store answers by its table
abbrev pub OverStored : Type 0 → Table → (Trees → Type 0) → Type 0
OverStored honest table P = honest → (trees : Trees) → HasStored table trees → P trees

-- the same if the call is refused
abbrev pub ErrOverStored : {X E : Type 0} → Type 0 → Table → Result X E → (Trees → Type 0) → Type 0
ErrOverStored honest table result P = honest
    → OnErr result ((trees : Trees) → HasStored table trees → P trees)

-- the trees that aren't opened into which a path leads, over a table of trees
abbrev pub asked_by : {S : Type 0} → Editor S → Path → Trees → List Id
asked_by editor path trees = unopened_into trees (slots_of editor.nodes.items) 0 path

abbrev pub IsNonLeaf : Error → Type 0
IsNonLeaf EmptyPathComponent = ⊥
IsNonLeaf (FindExistingObject error) = ⊥
IsNonLeaf (CannotRemoveNonLeaf filename) = ⊤
IsNonLeaf (MalformedTree oid) = ⊥
IsNonLeaf EmptyTree = ⊥
IsNonLeaf Memory = ⊥

-- what is at the second path lies in the tree at the first
abbrev pub IsAbove : Path → Path → Type 0
IsAbove tree path = (rest : Path) × (rest ≢ []) × (tree ++ rest ≡ path)

abbrev pub names_of : List (Bor (List ℕ)) → Path
names_of path = map (λ name. name.now) path

-- what an entry of this kind and id is
abbrev pub leaf_of_kind : EntryKind → ObjectId → Leaf
leaf_of_kind kind id =
    record { mode = record { value = kind_value kind; padded = false }; id = id_of id }

abbrev pub IsTreeNamed : Id → Option Leaf → Type 0
IsTreeNamed id None = ⊥
IsTreeNamed id (Some leaf) = (leaf.id ≡ id) × IsTrue (is_tree_value leaf.mode.value)

-- the path leads through the tree of this id: without that tree, its entry is at a beginning of the
-- path
abbrev pub LeadsThrough : (Trees → FileMap) → Path → Id → Type 0
LeadsThrough files path id =
    (front : Path) × (name : Bytes) × (rest : Path) × (front ++ name ∷ rest ≡ path)
    × ((trees : Trees) → trees id ≡ None → IsTreeNamed id (files trees front))

-- the same, or the tree is at the path's end
abbrev pub LeadsInto : (Trees → FileMap) → Path → Id → Type 0
LeadsInto files path id = (front : Path) × (rest : Path) × (front ++ rest ≡ path)
    × ((trees : Trees) → trees id ≡ None → IsTreeNamed id (files trees front))

-- why an edit at a path is refused: an error of a tree is of one that the path leads through
abbrev pub EditFault : Type 0 → Type 0 → Table → Path → (Id → Type 0) → Error → Type 0
EditFault honest may_fail table path Through EmptyPathComponent = NamesAreFull path → ⊥
EditFault honest may_fail table path Through (FindExistingObject error) = (id : Id) × Through id
    × OpeningFault honest may_fail table id (FindExistingObject error)
EditFault honest may_fail table path Through (CannotRemoveNonLeaf filename) = ⊥
EditFault honest may_fail table path Through (MalformedTree oid) = (id : Id) × Through id
    × OpeningFault honest may_fail table id (MalformedTree oid)
EditFault honest may_fail table path Through EmptyTree = ⊥
EditFault honest may_fail table path Through Memory = ⊤

-- why nothing is grafted at a path: the id is the empty tree's, or an edit there is refused
abbrev pub GraftFault : Type 0 → Type 0 → Table → Path → Id → (Id → Type 0) → Error → Type 0
GraftFault honest may_fail table path id Through error =
    ((error ≡ EmptyTree) × NamesAreFull path × IsEmptyTree id)
    ⊎ EditFault honest may_fail table path Through error

-- each entry of an editor that isn't null has a file: none names a tree without files
abbrev pub IsFilled : {S : Type 0} → Trees → Editor S → Type 0
IsFilled trees editor = AreFilled trees (slots_of editor.nodes.items)

-- a folder is at the path: each table of trees in which no entry names a tree without files has a
-- file below it
abbrev pub IsFolder : (Trees → Type 0) → (Trees → FileMap) → Path → Type 0
IsFolder Fit files path = (trees : Trees) → Fit trees → (name : Bytes) × (rest : Path)
    × (file : Leaf) × (files trees (path ++ name ∷ rest) ≡ Some file)

-- why a file isn't removed
abbrev pub LeafFault : Type 0 → Type 0 → Table → Path → (Id → Type 0) → Type 0 → Error → Type 0
LeafFault honest may_fail table path Into Folder EmptyPathComponent = NamesAreFull path → ⊥
LeafFault honest may_fail table path Into Folder (FindExistingObject error) = (id : Id) × Into id
    × OpeningFault honest may_fail table id (FindExistingObject error)
LeafFault honest may_fail table path Into Folder (CannotRemoveNonLeaf filename) =
    ((front : Path) × (path ≡ front ++ filename ∷ [])) × Folder
LeafFault honest may_fail table path Into Folder (MalformedTree oid) = (id : Id) × Into id
    × OpeningFault honest may_fail table id (MalformedTree oid)
LeafFault honest may_fail table path Into Folder EmptyTree = ⊥
LeafFault honest may_fail table path Into Folder Memory = ⊤
