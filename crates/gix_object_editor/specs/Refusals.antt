-- Why an edit is refused.
use Rattle.std.specs.Prelude.{ℕ, ◌≡◌, ⊤, List, ◌∷◌, Some}
use Rattle.gix_hash.specs.Id.{Id, id_of}
use Rattle.gix_object_lines.specs.declared.kind.Kind.TheVariants as kinds
use Rattle.gix_object_tree.specs.Entry.{Item, SpellsTree, TreeFault}
use Rattle.gix_object_lookup.specs.Table.{Table}
use Rattle.gix_object_lookup.specs.Existing.{Stands, LookupFault, IsAbsent, HasOtherKind}
use Rattle.gix_object_lines.specs.declared.decode.Error.TheVariants as decode
use Rattle.gix_object_lookup.specs.declared.find.existing_object.Error as existing
use Rattle.gix_object_lookup.specs.declared.find.existing_object.Error.TheVariants as existing_case
use Rattle.gix_object_tree.specs.WellFormed.{IsWellFormed}
use Rattle.gix_object_nodes.specs.Files.{Bytes, Path, Leaf, Trees}
use Rattle.gix_object_nodes.specs.Nodes.{Slots, files_of_node, AreFilled, IsUnopened}
use Rattle.gix_object_nodes.specs.declared.node.Slot.{Slot}
use Rattle.gix_object_editor.specs.declared.tree.editor.error.Error.{Error}
use Rattle.gix_object_editor.specs.declared.tree.editor.error.Error.TheVariants.{EmptyPathComponent, FindExistingObject, CannotRemoveNonLeaf, MalformedTree, EmptyTree, Memory}

-- the content under an id isn't read as a tree, for this cause, which the error has with the id: if
-- it spells one, only for want of memory
abbrev pub TreeIsUnread : Type 0 → Type 0 → Table → Id → existing.Error → Type 0
TreeIsUnread honest may_fail table id (existing_case.Find error) = LookupFault may_fail error
TreeIsUnread honest may_fail table id (existing_case.Decode oid source) =
    (id_of oid ≡ id) × ((content : List ℕ) × (honest → Stands table id kinds.Tree content)
    × TreeFault id.kind content source
    × ((items : List Item) → SpellsTree id.kind content items → source ≡ decode.Memory))
TreeIsUnread honest may_fail table id (existing_case.NotFound oid) = IsAbsent honest table id
    (id_of oid)
TreeIsUnread honest may_fail table id
    (existing_case.ObjectKind oid actual expected) = HasOtherKind honest table id kinds.Tree
    (id_of oid) actual expected

-- a stored tree isn't well-formed, and the error has its id
abbrev pub TreeIsMalformed : Type 0 → Table → Id → Id → Type 0
TreeIsMalformed honest table id told =
    (told ≡ id) × ((content : List ℕ) × (items : List Item)
    × (honest → Stands table id kinds.Tree content) × SpellsTree id.kind content items
    × ¬ IsWellFormed items)

-- why the tree under an id isn't opened
abbrev pub OpeningFault : Type 0 → Type 0 → Table → Id → Error → Type 0
OpeningFault honest may_fail table id EmptyPathComponent = ⊥
OpeningFault honest may_fail table id
    (FindExistingObject error) = TreeIsUnread honest may_fail table id error
OpeningFault honest may_fail table id (CannotRemoveNonLeaf filename) = ⊥
OpeningFault honest may_fail table id (MalformedTree oid) = TreeIsMalformed honest table id
    (id_of oid)
OpeningFault honest may_fail table id EmptyTree = ⊥
OpeningFault honest may_fail table id Memory = ⊤

-- why a name's folder is refused as a file: its tree isn't opened, or a file is below it, if no
-- entry names a tree without files
abbrev pub FolderFault : Type 0 → Type 0 → Table → Slots → ℕ → Bytes → Error → Type 0
FolderFault honest may_fail table slots at name EmptyPathComponent = ⊥
FolderFault honest may_fail table slots at name (FindExistingObject error) =
    (s : Slot) × (slots at name ≡ Some s) × IsUnopened s
    × OpeningFault honest may_fail table (id_of s.oid) (FindExistingObject error)
FolderFault honest may_fail table slots at name (CannotRemoveNonLeaf filename) =
    (filename ≡ name) × ((trees : Trees) → AreFilled trees slots
    → (m : Bytes) × (rest : Path) × (file : Leaf)
    × (files_of_node trees slots at (name ∷ m ∷ rest) ≡ Some file))
FolderFault honest may_fail table slots at name (MalformedTree oid) =
    (s : Slot) × (slots at name ≡ Some s) × IsUnopened s
    × OpeningFault honest may_fail table (id_of s.oid) (MalformedTree oid)
FolderFault honest may_fail table slots at name EmptyTree = ⊥
FolderFault honest may_fail table slots at name Memory = ⊤
