-- Entries that are put, in folders that are made for them.
use Rattle.std.specs.Prelude.{ℕ, suc, ◌≡◌, ◌≢◌, ◌<◌, ◌≤◌, ◌+◌, ◌++◌, ◌⊎◌, List, Bool, true, drop, length, slice_index_or, [], ◌∷◌, Option, Some, None, is_some, bytes_eq, if◌then◌else◌}
use Rattle.std.specs.Borrow.{Bor}
use Rattle.std.specs.List.{Contains}
use Rattle.gix_hash.specs.Id.{id_of}
use Rattle.gix_hash.specs.declared.kind.Kind.{Kind}
use Rattle.gix_object_nodes.specs.declared.node.Node.{Node}
use Rattle.gix_object_nodes.specs.declared.node.Slot.{Slot}
use Rattle.gix_object_nodes.specs.Files.{Bytes, Path, Leaf, Trees, SameFiles, is_null, put, cleared, behind, entry_into}
use Rattle.gix_object_nodes.specs.Nodes.{Slots, slots_of, leaf_in, child_of, files_of_node, entry_from, onto, AreNull, IsPutIn, LeadsTo, Way}
use Rattle.gix_object_nodes.specs.Marks.{marks_of, mark_below, rung_parent, AreOnPath}
use Rattle.gix_object_editor.specs.Asked.{front_of}
use Rattle.gix_object_editor.specs.Editor.{names_of}
use Rattle.gix_object_editor.specs.Entries.{Property, EachHas, MayStand, MayStandMade, made_leaf}
use Rattle.gix_object_editor.specs.Grown.{Appends, first_of}

-- ---- the entries

-- the entry to which names lead from a folder that was made, if at the end of others an entry is
-- put, in made folders
abbrev pub laid : Trees → Leaf → Path → Path → Option Leaf
laid trees leaf [] rest = entry_into (λ l. None) trees rest leaf
laid trees leaf (name ∷ more) [] = Some (made_leaf leaf.id.kind)
laid trees leaf (name ∷ more) (other ∷ rest) = if bytes_eq name other then laid trees leaf more rest
    else None

-- that one after a name below which the entry is put; elsewhere the one that was
abbrev pub laid_at : Trees → Leaf → Path → Option Path → Option Leaf → Option Leaf
laid_at trees leaf more (Some rest) old = laid trees leaf more rest
laid_at trees leaf more None old = old

-- after a name below which folders are made, only the folders; elsewhere the entry that was
abbrev pub made_at : Kind → Path → Option Path → Option Leaf → Option Leaf
made_at kind more (Some rest) old = if is_some (behind rest more) then Some (made_leaf kind)
    else None
made_at kind more None old = old

-- ---- trees with one slot each

-- the node has this slot alone
abbrev pub IsOnly : Slots → ℕ → Bytes → Slot → Type 0
IsOnly slots n name s = (slots n name ≡ Some s) × ((m : Bytes) → m ≢ name → slots n m ≡ None)

-- of nodes in a row, each with the slot of one name alone, this one: it is a folder that leads to
-- the next node, or is the last's
pub record IsRung (slots : Slots) (first : ℕ) (names : Path) (last : Slot) (k : ℕ) : Type 0 where
  pub slot : Slot
  pub only : IsOnly slots (first + k) (slice_index_or names k []) slot
  pub leads : suc k < length names → child_of (Some slot) ≡ Some (suc (first + k))
  pub folder : suc k < length names → leaf_in slot ≡ made_leaf (id_of last.oid).kind
  pub ends : suc k ≡ length names → slot ≡ last

-- trees are appended to the others, one for each name, which lead down to this slot; the first is to
-- lie in this tree
pub record IsLadder (old : List Node) (at : ℕ) (names : List (Bor (List ℕ))) (slot : Slot)
    (changed : Bool) (new : List Node) : Type 0 where
  pub len : length new ≡ length old + length names
  pub rungs : (k : ℕ) → k < length names
      → IsRung (slots_of new) (length old) (names_of names) slot k
  pub leaves : (i : ℕ) (m : Bytes) (s : Slot) → length old ≤ i → slots_of new i m ≡ Some s
      → Contains (names_of names) m
      × ((leaf_in s ≡ leaf_in slot) ⊎ (leaf_in s ≡ made_leaf (id_of slot.oid).kind))
  pub marked : (k : ℕ) → k < length names
      → marks_of new (length old + k) ≡ mark_below (rung_parent at (length old) k) changed

-- ---- edits

-- the slot is put at the end of the names below a tree, in folders that are made for it: this is the
-- tree that it is in
pub record IsLaid (old : List Node) (at : ℕ) (names : List (Bor (List ℕ))) (slot : Slot)
    (changed : Bool) (new : List Node) (end : ℕ) : Type 0 where
  pub appends : Appends changed old at (first_of names) new
  pub within : end < length new
  pub files : (trees : Trees) (way : Path) → Way (slots_of old) way at
      → SameFiles (files_of_node trees (slots_of new) 0) (put trees (onto way (names_of names))
      (leaf_in slot) (files_of_node trees (slots_of old) 0))
  pub entries : (trees : Trees) (way : Path) → Way (slots_of old) way at → (q : Path)
      → entry_from (λ l. None) trees (slots_of new) 0 q
      ≡ laid_at trees (leaf_in slot) (names_of (drop 1 names))
      (behind (onto way (first_of names ∷ [])) q) (entry_from (λ l. None) trees (slots_of old) 0 q)
  pub put_in : (way : Path) → Way (slots_of old) way at
      → IsPutIn (slots_of new) (onto way (names_of names)) end
  pub each : (has : Property) → MayStand has (names_of names) (leaf_in slot)
      → EachHas has (slots_of old) → EachHas has (slots_of new)
  pub null : 1 < length names → is_null (id_of slot.oid) ≡ true
      → AreNull (slots_of new) (length old)
  pub last : 1 < length names → (end + 1 ≡ length new) × (length old ≤ end)
  pub rungs : (i : ℕ) (m : Bytes) (s : Slot) → length old ≤ i → slots_of new i m ≡ Some s
      → (i ≡ end) ⊎ Contains (front_of (names_of names)) m
  pub made : (way : Path) → Way (slots_of old) way at
      → AreOnPath (slots_of new) (onto way (names_of names)) (length old) (length new)

-- folders are made at the names below a tree: this is the last, which has no entries
pub record AreMade (old : List Node) (at : ℕ) (names : List (Bor (List ℕ))) (hash : Kind)
    (changed : Bool) (new : List Node) (end : ℕ) : Type 0 where
  pub appends : Appends changed old at (first_of names) new
  pub within : end < length new
  pub files : (trees : Trees) (way : Path) → Way (slots_of old) way at
      → SameFiles (files_of_node trees (slots_of new) 0) (cleared (onto way (names_of names))
      (files_of_node trees (slots_of old) 0))
  pub entries : (trees : Trees) (way : Path) → Way (slots_of old) way at → (q : Path)
      → entry_from (λ l. None) trees (slots_of new) 0 q ≡ made_at hash (names_of (drop 1 names))
      (behind (onto way (first_of names ∷ [])) q) (entry_from (λ l. None) trees (slots_of old) 0 q)
  pub leads : (way : Path) → Way (slots_of old) way at
      → LeadsTo (slots_of new) (onto way (names_of names)) end []
  pub each : (has : Property) → MayStandMade has hash (names_of names)
      → EachHas has (slots_of old) → EachHas has (slots_of new)
  pub null : AreNull (slots_of new) (length old)
  pub made : (way : Path) → Way (slots_of old) way at
      → AreOnPath (slots_of new) (onto way (names_of names) ++ [] ∷ []) (length old) (length new)
