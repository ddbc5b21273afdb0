-- What opened trees are, and what more of them leave as it was.
use Rattle.std.specs.Prelude.{ℕ, ◌≡◌, ◌<◌, ◌≤◌, ◌+◌, ◌⊎◌, List, [], ◌∷◌, Bool, Option, Some, None, false, drop, length, slice_index_or}
use Rattle.std.specs.Borrow.{Bor}
use Rattle.gix_hash.specs.Id.{id_of}
use Rattle.gix_object_tree.specs.Entry.{Item}
use Rattle.gix_object_lookup.specs.Table.{Table}
use Rattle.gix_object_editor.specs.declared.tree.editor.error.Error.{Error}
use Rattle.gix_object_nodes.specs.declared.node.Node.{Node}
use Rattle.gix_object_nodes.specs.declared.node.NodeId.{NodeId}
use Rattle.gix_object_nodes.specs.declared.node.Slot.{Slot}
use Rattle.gix_object_nodes.specs.Files.{Bytes, Path, Trees, files_of_tree, entry_of_tree}
use Rattle.gix_object_nodes.specs.Nodes.{slots_of, slot_in, child_of, files_of_node, entry_from, onto, HasSlotsOf, IsForest, IsNoFolder, IsUnopened, LeadsTo, Way}
use Rattle.gix_object_nodes.specs.Marks.{marks_of, mark_below, AreMarked, AreMarkedBut, AreMarkedUp, AreMarksKept, AreAsRead, IsIdle, IsMarkedFor}
use Rattle.gix_object_editor.specs.Stored.{IsOpened}
use Rattle.gix_object_editor.specs.Entries.{Property, EachHas, ItemsHave, PassesDown}
use Rattle.gix_object_editor.specs.Refusals.{OpeningFault}
use Rattle.gix_object_editor.specs.Editor.{OverStored, names_of}

-- each opened tree but the root lies in one before it
abbrev pub IsForestOf : List Node → Type 0
IsForestOf nodes = IsForest (slots_of nodes) (length nodes)

-- so it is, and this is the number of one
pub record HasTree (nodes : List Node) (at : ℕ) : Type 0 where
  pub forest : IsForestOf nodes
  pub within : at < length nodes

-- each tree's mark names the one that it lies in, and what a changed one lies in is changed
abbrev pub IsMarkedOf : List Node → Type 0
IsMarkedOf nodes = AreMarked (slots_of nodes) (marks_of nodes) (length nodes)

-- the same, but that this tree may lack its mark
abbrev pub IsMarkedBut : ℕ → List Node → Type 0
IsMarkedBut at nodes = AreMarkedBut at (slots_of nodes) (marks_of nodes) (length nodes)

-- the marks stay, and those of more trees are this
abbrev pub KeepsMarks : Bool → List Node → List Node → Type 0
KeepsMarks changed old new = AreMarksKept changed (slots_of old) (slots_of new) (marks_of old)
    (marks_of new) (length old) (length new)

abbrev pub first_of : List (Bor (List ℕ)) → Bytes
first_of names = slice_index_or (names_of names) 0 []

-- ---- what stays

-- the trees are as before
pub record IsSame (old new : List Node) : Type 0 where
  pub len : length new ≡ length old
  pub slots : HasSlotsOf old new
  pub marks : (i : ℕ) → i < length old → marks_of new i ≡ marks_of old i

-- they are, and there may be more after them
pub record KeepsFront (old new : List Node) : Type 0 where
  pub longer : length old ≤ length new
  pub slots : (i : ℕ) (m : Bytes) → i < length old → slots_of new i m ≡ slots_of old i m
  pub marks : (i : ℕ) → i < length old → marks_of new i ≡ marks_of old i

-- only the entry of this name in this tree may be another, and there may be more trees, whose marks
-- are this
pub record Appends (changed : Bool) (old : List Node) (at : ℕ) (name : Bytes) (new : List Node)
    : Type 0 where
  pub forest : IsForestOf new
  pub longer : length old ≤ length new
  pub others : (i : ℕ) (m : Bytes) → i < length old → (i ≡ at → m ≡ name → ⊥)
      → slots_of new i m ≡ slots_of old i m
  pub marks : KeepsMarks changed old new

-- some trees are opened: no file and no entry changes, and no mark; the trees without a mark stay as
-- they were read, and a property that stored trees pass down stays
pub record Grows (honest : Type 0) (table : Table) (old new : List Node) : Type 0 where
  pub opened : IsOpened honest table (slots_of old) (slots_of new) (length old) (length new)
  pub marks : KeepsMarks false old new
  pub as_read : OverStored honest table (λ trees. AreAsRead trees (slots_of old) (marks_of old)
      → AreAsRead trees (slots_of new) (marks_of new))
  pub each : honest → (has : Property) → PassesDown table has → EachHas has (slots_of old)
      → EachHas has (slots_of new)

-- ---- a tree that is opened

-- the tree is the last, and its number is in the slot of the name
pub record IsAttached (old : List Node) (at : ℕ) (name : Bytes) (slot : Slot) (tree : Node)
    (new : List Node) (child : NodeId) : Type 0 where
  pub number : child.0 ≡ length old
  pub len : length new ≡ length old + 1
  pub here : slots_of new at name ≡ Some (record slot { child = Some child })
  pub behind : (m : Bytes) → slots_of new (length old) m ≡ slot_in tree m
  pub others : (i : ℕ) (m : Bytes) → i < length old → (i ≡ at → m ≡ name → ⊥)
      → slots_of new i m ≡ slots_of old i m
  pub marks : (i : ℕ) → i < length old → marks_of new i ≡ marks_of old i
  pub unchanged : marks_of new (length old) ≡ mark_below at false

-- the name's folder is this opened tree, the last if one was opened for it; or it has none
abbrev pub IsFolderOf : List Node → List Node → ℕ → Bytes → Option NodeId → Type 0
IsFolderOf old new at name (Some c) = (child_of (slots_of new at name) ≡ Some c.0)
    × ((length new ≡ length old) ⊎ (c.0 + 1 ≡ length new))
IsFolderOf old new at name None = IsNoFolder (slots_of new at name) × (length new ≡ length old)

-- the entry of the name leads to a tree that isn't opened, for this cause
abbrev pub IsUnopenedFor : Type 0 → Type 0 → Table → List Node → ℕ → Bytes → Error → Type 0
IsUnopenedFor honest may_fail table nodes at name error = (s : Slot)
    × (slots_of nodes at name ≡ Some s) × IsUnopened s
    × OpeningFault honest may_fail table (id_of s.oid) error

-- so many names lead down to this opened tree; what is left is one name alone, or begins with that
-- of no folder
pub record IsWalked (old : List Node) (from : ℕ) (path : List (Bor (List ℕ))) (new : List Node)
    (at depth : ℕ) : Type 0 where
  pub below : from ≤ at
  pub leads : (way : Path) → Way (slots_of old) way from
      → LeadsTo (slots_of new) (onto way (names_of path)) at (names_of (drop depth path))
  pub blocked : depth + 1 < length path
      → IsNoFolder (slots_of new at (slice_index_or (names_of path) depth []))
  pub before : (m : Bytes) (c : ℕ) → child_of (slots_of new at m) ≡ Some c → c < length old

-- ---- edits

-- an entry is taken out, and the tree is marked as changed, if more than a made folder was there
pub record IsCut (old : List Node) (at : ℕ) (name : Bytes) (new : List Node) : Type 0 where
  pub len : length new ≡ length old
  pub here : slots_of new at name ≡ None
  pub others : (i : ℕ) (m : Bytes) → (i ≡ at → m ≡ name → ⊥) → slots_of new i m ≡ slots_of old i m
  pub marks : IsMarkedFor (slots_of old) (slots_of new) (marks_of old) (marks_of new) at
      (length old) (length old)
  pub idle : IsIdle (marks_of old) (slots_of old at name)
      → (i : ℕ) → marks_of new i ≡ marks_of old i

-- a tree and those that it lies in are marked as changed, and nothing else is another
pub record IsMarkedUp (old : List Node) (at : ℕ) (new : List Node) : Type 0 where
  pub len : length new ≡ length old
  pub slots : HasSlotsOf old new
  pub marked : AreMarkedUp (slots_of old) (marks_of old) (marks_of new) at (length old)

-- ---- a root

-- one tree is opened, with these entries, and nothing is marked
pub record IsRoot (items : List Item) (nodes : List Node) : Type 0 where
  pub forest : IsForestOf nodes
  pub marked : IsMarkedOf nodes
  pub unchanged : (i : ℕ) → (marks_of nodes i).changed ≡ false
  pub closed : (i : ℕ) (m : Bytes) → child_of (slots_of nodes i m) ≡ None
  pub each : (has : Property) → ItemsHave has items → EachHas has (slots_of nodes)
  pub files : (trees : Trees) (q : Path)
      → files_of_node trees (slots_of nodes) 0 q ≡ files_of_tree trees items q
  pub entries : (trees : Trees) (q : Path)
      → entry_from (λ l. None) trees (slots_of nodes) 0 q ≡ entry_of_tree trees items q
