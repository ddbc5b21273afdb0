-- Opened trees as they are written: their entries, with the ids of the trees that lie in them.
use Rattle.std.specs.Prelude.{ℕ, zero, suc, ◌≡◌, false, ◌++◌, List, [], ◌∷◌, Option, Some, None, if◌then◌else◌}
use Rattle.std.specs.List.{All}
use Rattle.gix_hash.specs.Id.{Id, id_of}
use Rattle.gix_hash.specs.declared.object_id.ObjectId.{ObjectId}
use Rattle.gix_object_tree.specs.Entry.{Item}
use Rattle.gix_object_tree.specs.Mode.{kind_value}
use Rattle.gix_object_tree.specs.ModeText.{Mode, mode_of}
use Rattle.gix_object_tree.specs.WellFormed.{HasNamesOnce, IsFilename, IsWellFormed}
use Rattle.gix_object_tree.specs.declared.tree.mode.EntryKind.TheVariants as kinds
use Rattle.gix_object_tree.specs.declared.tree.mode.EntryMode.{EntryMode}
use Rattle.gix_object_nodes.specs.declared.node.Slot.{Slot}
use Rattle.gix_object_nodes.specs.Files.{Bytes, Path, is_null, through, named}
use Rattle.gix_object_nodes.specs.Nodes.{Slots, child_or, Way}

-- the tree at the end of these names, last first, leads down to this opened tree
abbrev pub IsReached : Slots → Path → ℕ → Type 0
IsReached slots base j = (way : Path) × Way slots (way ++ base) j

-- the ids of opened trees by their numbers; none of those without entries
abbrev pub Ids : Type 0
Ids = ℕ → Option Id

abbrev pub ids_of : List (Option ObjectId) → Ids
ids_of [] i = None
ids_of (oid ∷ oids) zero = through oid (λ o. Some (id_of o))
ids_of (oid ∷ oids) (suc i) = ids_of oids i

-- the mode that Git writes for a folder
abbrev pub folder_mode : Mode
folder_mode = record { value = kind_value kinds.Tree; padded = false }

-- nothing is named by the null id
abbrev pub unless_null : Item → Option Item
unless_null item = if is_null item.id then None else Some item

abbrev pub folder_item : Bytes → Id → Item
folder_item name id = record { mode = folder_mode; name = name; id = id }

abbrev pub slot_item : Bytes → Slot → Item
slot_item name s = record { mode = mode_of s.mode; name = name; id = id_of s.oid }

abbrev pub object_item : Bytes → EntryMode × ObjectId → Item
object_item name object = record { mode = mode_of object.0; name = name; id = id_of object.1 }

-- the entry that a slot is written as
abbrev pub written_item : Ids → Bytes → Slot → Option Item
written_item ids name s = child_or s.child
    (λ c. through (ids c) (λ id. unless_null (folder_item name id)))
    (unless_null (slot_item name s))

-- the entries are what these slots are written as
abbrev pub HasEntries : Ids → (Bytes → Option Slot) → List Item → Type 0
HasEntries ids slots items = (m : Bytes) → named m items ≡ through (slots m) (written_item ids m)

-- the entries of a tree that is written
pub record IsTreeOf (ids : Ids) (slots : Bytes → Option Slot) (items : List Item) : Type 0 where
  pub entries : HasEntries ids slots items
  pub once : HasNamesOnce items
  pub well_formed : All (λ item. IsFilename item.name) items → IsWellFormed items
