-- Stored trees, and what opening some of them leaves as it was.
use Rattle.std.specs.Prelude.{ℕ, ◌≡◌, ◌<◌, ◌≤◌, ◌⊎◌, List, Option, Some, true}
use Rattle.gix_hash.specs.Id.{Id}
use Rattle.gix_object_lines.specs.declared.kind.Kind.TheVariants as kinds
use Rattle.gix_object_lookup.specs.Table.{Table}
use Rattle.gix_object_lookup.specs.Existing.{Stands}
use Rattle.gix_object_tree.specs.Entry.{Item, SpellsTree}
use Rattle.gix_object_nodes.specs.declared.node.Node.{Node}
use Rattle.gix_object_nodes.specs.declared.node.Slot.{Slot}
use Rattle.gix_object_nodes.specs.Files.{Bytes, Path, Leaf, Trees, leads_on, named}
use Rattle.gix_object_nodes.specs.Nodes.{Slots, slot_in, leaf_in, files_of_node, entry_from, StandsFor, child_of, IsForest}

-- the table of trees has each stored tree
abbrev pub HasStored : Table → Trees → Type 0
HasStored table trees =
    (id : Id) (content : List ℕ) (items : List Item)
    → table id ≡ Some (record { kind = kinds.Tree; content = content })
    → SpellsTree id.kind content items → trees id ≡ Some items

-- the entries are those of the tree that is stored under the id
abbrev pub IsReadTree : Type 0 → Table → Id → List Item → Type 0
IsReadTree honest table id items = (content : List ℕ)
    × (honest → Stands table id kinds.Tree content) × SpellsTree id.kind content items

-- the node has the entries that each table of trees with the stored ones has under the id
abbrev pub OpensTree : Table → Id → Node → Type 0
OpensTree table id node = (items : List Item)
    × ((m : Bytes) → StandsFor (slot_in node m) (named m items))
    × ((trees : Trees) → HasStored table trees → trees id ≡ Some items)

-- some trees were opened, each for an entry that names it, and no file and no entry changed
pub record IsOpened (honest : Type 0) (table : Table) (old new : Slots)
    (bound more : ℕ) : Type 0 where
  pub longer : bound ≤ more
  pub forest : IsForest new more
  pub links : (i : ℕ) (m : Bytes) (c : ℕ) → child_of (old i m) ≡ Some c
      → child_of (new i m) ≡ Some c
  pub files : honest → (trees : Trees) → HasStored table trees → (q : Path) (i : ℕ) → i < bound
      → files_of_node trees new i q ≡ files_of_node trees old i q
  pub entries : honest → (trees : Trees) → HasStored table trees → (blocked : Leaf → Option Leaf)
      → (q : Path) (i : ℕ) → i < bound
      → entry_from blocked trees new i q ≡ entry_from blocked trees old i q
  pub leaves : (i : ℕ) (m : Bytes) (s : Slot) → i < bound → old i m ≡ Some s
      → (t : Slot) × (new i m ≡ Some t) × (leaf_in t ≡ leaf_in s)
  pub fresh : (i : ℕ) (m : Bytes) (s : Slot) (c : ℕ) → new i m ≡ Some s → child_of (Some s) ≡ Some c
      → (child_of (old i m) ≡ Some c) ⊎ (leads_on (leaf_in s) ≡ true)
