-- Opened trees as numbered nodes, and the files that they represent.
use Rattle.std.specs.Prelude.{ℕ, zero, suc, ◌≡◌, ◌<◌, ◌≤◌, List, [], ◌∷◌, ◌++◌, Option, Some, None, Vec, ⊤, true, false}
use Rattle.std.specs.Map.{lookup}
use Rattle.std.specs.BTreeMap.{is_at}
use Rattle.std.specs.Cmp.Lexicographic.{slice_cmp}
use Rattle.std.specs.Ordering.{nat_cmp}
use Rattle.std.specs.declared.alloc.Global.{Global}
use Rattle.gix_hash.specs.Id.{Id, id_of}
use Rattle.gix_object_tree.specs.Entry.{Item}
use Rattle.gix_object_tree.specs.Mode.{is_tree_value}
use Rattle.gix_object_tree.specs.ModeText.{mode_of}
use Rattle.gix_object_nodes.specs.declared.node.Node.{Node}
use Rattle.gix_object_nodes.specs.declared.node.NodeId.{NodeId}
use Rattle.gix_object_nodes.specs.declared.node.Slot.{Slot}
use Rattle.gix_object_nodes.specs.Files.{Bytes, Path, Leaf, FileMap, Trees, is_null, through, files_of_entry, leads_on, entry_into, leaf_of, HasFile}

abbrev pub Key : Type 0
Key = Vec ℕ Global

-- the slot of this name in a node
abbrev pub slot_in : Node → Bytes → Option Slot
slot_in node name = lookup (is_at (λ (k : Key). slice_cmp nat_cmp name k.items)) node.slots.entries

-- the slot of each name in the node of each number
abbrev pub Slots : Type 0
Slots = ℕ → Bytes → Option Slot

abbrev pub slots_of : List Node → Slots
slots_of [] i name = None
slots_of (node ∷ nodes) zero name = slot_in node name
slots_of (node ∷ nodes) (suc i) name = slots_of nodes i name

-- the trees' entries stay, all of them
abbrev pub HasSlotsOf : List Node → List Node → Type 0
HasSlotsOf old new = (i : ℕ) (name : Bytes) → slots_of new i name ≡ slots_of old i name

abbrev pub leaf_in : Slot → Leaf
leaf_in slot = record { mode = mode_of slot.mode; id = id_of slot.oid }

abbrev pub child_or : {X : Type 0} → Option NodeId → (ℕ → X) → X → X
child_or None opened closed = closed
child_or (Some c) opened closed = opened c.0

-- a slot has the files of its opened tree, and those of its entry if none is opened
abbrev pub files_of_slot : Trees → Slots → Path → Slot → Option Leaf
files_of_slot trees slots [] s = child_or s.child (λ c. None) (files_of_entry trees [] (leaf_in s))
files_of_slot trees slots (name ∷ rest) s =
    child_or s.child (λ c. through (slots c name) (files_of_slot trees slots rest))
    (files_of_entry trees (name ∷ rest) (leaf_in s))

-- the files of a node
abbrev pub files_of_node : Trees → Slots → ℕ → FileMap
files_of_node trees slots i [] = None
files_of_node trees slots i (name ∷ rest) = through (slots i name) (files_of_slot trees slots rest)

-- the entry to which names lead from a slot, and from a node
abbrev pub slot_entry : (Leaf → Option Leaf) → Trees → Slots → Path → Slot → Option Leaf
slot_entry blocked trees slots [] s = Some (leaf_in s)
slot_entry blocked trees slots (name ∷ rest) s =
    child_or s.child (λ c. through (slots c name) (slot_entry blocked trees slots rest))
    (entry_into blocked trees (name ∷ rest) (leaf_in s))

abbrev pub entry_from : (Leaf → Option Leaf) → Trees → Slots → ℕ → Path → Option Leaf
entry_from blocked trees slots i [] = None
entry_from blocked trees slots i (name ∷ rest) = through (slots i name)
    (slot_entry blocked trees slots rest)

-- each entry that isn't null has a file, if no tree was opened for it
abbrev pub AreFilled : Trees → Slots → Type 0
AreFilled trees slots = (i : ℕ) (m : Bytes) (s : Slot) → slots i m ≡ Some s → s.child ≡ None
    → is_null (id_of s.oid) ≡ false → HasFile trees (leaf_in s)

abbrev pub HasFileBelow : Trees → Slots → ℕ → Type 0
HasFileBelow trees slots i = (m : Bytes) × (rest : Path) × (file : Leaf)
    × (files_of_node trees slots i (m ∷ rest) ≡ Some file)

-- an unopened slot represents an entry; no slot, none
abbrev pub StandsFor : Option Slot → Option Item → Type 0
StandsFor None None = ⊤
StandsFor None (Some item) = ⊥
StandsFor (Some s) None = ⊥
StandsFor (Some s) (Some item) = (leaf_in s ≡ leaf_of item) × (s.child ≡ None)

-- ---- the invariant

-- the number of the opened tree in a slot
abbrev pub child_of : Option Slot → Option ℕ
child_of None = None
child_of (Some s) = child_or s.child (λ c. Some c) None

-- the root is the first node; opened trees lead to greater numbers, each from one slot alone
pub record IsForest (slots : Slots) (bound : ℕ) : Type 0 where
  pub rooted : 0 < bound
  pub forward : (i : ℕ) (name : Bytes) (c : ℕ) → child_of (slots i name) ≡ Some c → i < c
  pub within : (i : ℕ) (name : Bytes) (c : ℕ) → child_of (slots i name) ≡ Some c → c < bound
  pub one : (i j c : ℕ) (name other : Bytes) → child_of (slots i name) ≡ Some c
      → child_of (slots j other) ≡ Some c → (i ≡ j) × (name ≡ other)

-- ---- walking down

-- the names, last first, lead from the root down to an opened tree
abbrev pub Way : Slots → Path → ℕ → Type 0
Way slots [] j = 0 ≡ j
Way slots (name ∷ way) j = (m : ℕ) × Way slots way m × (child_of (slots m name) ≡ Some j)

-- the names of the first, last first, before those of the second
abbrev pub onto : Path → Path → Path
onto [] q = q
onto (name ∷ way) q = onto way (name ∷ q)

-- the path leads down to an opened tree, below which the rest of its names is left
abbrev pub LeadsTo : Slots → Path → ℕ → Path → Type 0
LeadsTo slots path j rest = (way : Path) × Way slots way j × (onto way rest ≡ path)

-- the path's last name is one of this opened tree, to which the others lead down
abbrev pub IsPutIn : Slots → Path → ℕ → Type 0
IsPutIn slots path j = (front : Path) × (name : Bytes) × (path ≡ front ++ name ∷ [])
    × LeadsTo slots front j []

-- an opened tree's number, or that no file is below the name
abbrev pub IsFolderAt : Slots → ℕ → Bytes → Option NodeId → Type 0
IsFolderAt slots at name (Some c) = child_of (slots at name) ≡ Some c.0
IsFolderAt slots at name None = (trees : Trees) (m : Bytes) (rest : Path)
    → through (slots at name) (files_of_slot trees slots (m ∷ rest)) ≡ None

-- a tree's entry that no tree was opened for
pub record IsUnopened (s : Slot) : Type 0 where
  pub closed : s.child ≡ None
  pub is_tree : is_tree_value s.mode.value ≡ true
  pub isnt_null : is_null (id_of s.oid) ≡ false

-- no folder is there
abbrev pub IsNoFolder : Option Slot → Type 0
IsNoFolder o = (s : Slot) → o ≡ Some s → (s.child ≡ None) × (leads_on (leaf_in s) ≡ false)

-- this entry is there, and no tree was opened for it
abbrev pub IsEntry : Option Slot → Leaf → Type 0
IsEntry o leaf = (s : Slot) × (o ≡ Some s) × (leaf_in s ≡ leaf) × (s.child ≡ None)

-- the path leads through the unopened tree of this id, and on
pub record IsStoppedAt (slots : Slots) (path : Path) (id : Id) : Type 0 where
  pub at : ℕ
  pub name : Bytes
  pub next : Bytes
  pub rest : Path
  pub slot : Slot
  pub leads : LeadsTo slots path at (name ∷ next ∷ rest)
  pub stands : slots at name ≡ Some slot
  pub unopened : IsUnopened slot
  pub id_is : id_of slot.oid ≡ id

-- what leads to a tree from this number on has the null id
abbrev pub AreNull : Slots → ℕ → Type 0
AreNull slots bound = (i : ℕ) (m : Bytes) (s : Slot) (c : ℕ) → slots i m ≡ Some s
    → child_of (Some s) ≡ Some c → bound ≤ c → is_null (id_of s.oid) ≡ true

-- ---- entries of opened trees

-- the slot at a path's end, if opened trees lead there
abbrev pub slot_over : Slots → ℕ → Path → Option Slot
slot_over slots i [] = None
slot_over slots i (name ∷ []) = slots i name
slot_over slots i (name ∷ next ∷ rest) = through (child_of (slots i name))
    (λ c. slot_over slots c (next ∷ rest))

-- the entry that a slot of this name is
abbrev pub entry_in : Bytes → Option Slot → Option Item
entry_in name None = None
entry_in name (Some s) = Some (record { mode = mode_of s.mode; name = name; id = id_of s.oid })

-- the entry at a path's end, if opened trees lead there
abbrev pub entry_at : Slots → ℕ → Path → Option Item
entry_at slots i [] = None
entry_at slots i (name ∷ []) = entry_in name (slots i name)
entry_at slots i (name ∷ next ∷ rest) = through (child_of (slots i name))
    (λ c. entry_at slots c (next ∷ rest))
