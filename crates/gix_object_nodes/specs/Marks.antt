-- Which opened trees edits changed, and what the others still are: the trees that their entries
-- name.
use Rattle.std.specs.Prelude.{ℕ, zero, suc, ◌≡◌, ◌≢◌, ◌<◌, ◌≤◌, ◌+◌, ◌⊎◌, ◌++◌, ◌||◌, nat_le, Bool, true, false, List, [], ◌∷◌, length, Option, Some, None, ⊤, if◌then◌else◌}
use Rattle.gix_hash.specs.Id.{id_of}
use Rattle.gix_object_nodes.specs.declared.node.Node.{Node}
use Rattle.gix_object_nodes.specs.declared.node.NodeId.{NodeId}
use Rattle.gix_object_nodes.specs.declared.node.Slot.{Slot}
use Rattle.gix_object_nodes.specs.Files.{Bytes, Path, Trees, is_null, through, files_of_entry}
use Rattle.gix_object_nodes.specs.Nodes.{Slots, slots_of, leaf_in, child_of, files_of_slot, Way, LeadsTo}

-- in which tree an opened one lies, and whether an edit changed it, or one that lies in it
pub record Mark : Type 0 where
  pub parent : ℕ
  pub changed : Bool

abbrev pub mark_below : ℕ → Bool → Mark
mark_below parent changed = record { parent = parent; changed = changed }

abbrev pub mark_of : Node → Mark
mark_of node = mark_below node.parent.0 node.changed

-- the mark of the node of each number
abbrev pub Marks : Type 0
Marks = ℕ → Mark

abbrev pub marks_of : List Node → Marks
marks_of [] i = mark_below 0 false
marks_of (node ∷ nodes) zero = mark_of node
marks_of (node ∷ nodes) (suc i) = marks_of nodes i

-- of the opened trees only the entry of this name in this tree may change, and no mark
pub record KeepsRest (old : List Node) (at : ℕ) (name : Bytes) (new : List Node) : Type 0 where
  pub len : length new ≡ length old
  pub others : (i : ℕ) (m : Bytes) → (i ≡ at → m ≡ name → ⊥) → slots_of new i m ≡ slots_of old i m
  pub marks : (i : ℕ) → marks_of new i ≡ marks_of old i

-- the tree at the path was opened, and an edit changed it, or one that lies in it
abbrev pub IsChangedIn : List Node → Path → Type 0
IsChangedIn nodes path = (j : ℕ) × LeadsTo (slots_of nodes) path j []
    × ((marks_of nodes j).changed ≡ true)

-- the way leads through the tree
abbrev pub IsOnWay : Slots → Path → ℕ → Type 0
IsOnWay slots way j = (below : Path) × (front : Path) × (way ≡ below ++ front) × Way slots front j

-- ---- the invariant

-- each opened tree's mark names the one that it lies in, and what a changed one lies in is changed
pub record AreMarked (slots : Slots) (marks : Marks) (bound : ℕ) : Type 0 where
  pub before : (i : ℕ) → 0 < i → i < bound → (marks i).parent < i
  pub up : (i : ℕ) (name : Bytes) (c : ℕ) → child_of (slots i name) ≡ Some c → (marks c).parent ≡ i
  pub closed : (i : ℕ) (name : Bytes) (c : ℕ) → child_of (slots i name) ≡ Some c
      → (marks c).changed ≡ true → (marks i).changed ≡ true

-- the same, but that this tree may lack its mark
pub record AreMarkedBut (at : ℕ) (slots : Slots) (marks : Marks) (bound : ℕ) : Type 0 where
  pub before : (i : ℕ) → 0 < i → i < bound → (marks i).parent < i
  pub up : (i : ℕ) (name : Bytes) (c : ℕ) → child_of (slots i name) ≡ Some c → (marks c).parent ≡ i
  pub closed : (i : ℕ) (name : Bytes) (c : ℕ) → child_of (slots i name) ≡ Some c
      → (marks c).changed ≡ true → ((marks i).changed ≡ true) ⊎ (i ≡ at)

-- nodes are appended to the others, all changed or none, and no other mark changes
pub record AreMarksKept (state : Bool) (old new : Slots) (was now : Marks)
    (bound more : ℕ) : Type 0 where
  pub same : (i : ℕ) → i < bound → now i ≡ was i
  pub fresh : (i : ℕ) → bound ≤ i → i < more → (now i).changed ≡ state
  pub before : (i : ℕ) → bound ≤ i → i < more → (now i).parent < i
  pub up : (i : ℕ) (name : Bytes) (c : ℕ) → child_of (new i name) ≡ Some c → bound ≤ c
      → (now c).parent ≡ i
  pub links : (i : ℕ) (name : Bytes) (c : ℕ) → child_of (new i name) ≡ Some c → c < bound
      → new i name ≡ old i name

-- an opened tree and those that it lies in are marked, and no other
pub record AreMarkedUp (slots : Slots) (was now : Marks) (at bound : ℕ) : Type 0 where
  pub marked : AreMarked slots now bound
  pub here : (now at).changed ≡ true
  pub kept : (j : ℕ) → (was j).changed ≡ true → (now j).changed ≡ true
  pub only : (way : Path) → Way slots way at → (j : ℕ) → (now j).changed ≡ true
      → ((was j).changed ≡ true) ⊎ IsOnWay slots way j

-- the slot is that of a folder that was made and into which nothing was put: it has the null id,
-- and no edit changed it
abbrev pub IsMade : Marks → Slot → Type 0
IsMade marks s = (c : ℕ) × (child_of (Some s) ≡ Some c) × (is_null (id_of s.oid) ≡ true)
    × ((marks c).changed ≡ false)

-- at most such a folder is there
abbrev pub IsIdle : Marks → Option Slot → Type 0
IsIdle marks None = ⊤
IsIdle marks (Some s) = IsMade marks s

-- an opened tree's slots were changed, and it is marked so; except for a made folder that was taken
-- out
pub record IsMarkedFor (old new : Slots) (was now : Marks) (at bound more : ℕ) : Type 0 where
  pub marked : AreMarked new now more
  pub kept : (j : ℕ) → (was j).changed ≡ true → (now j).changed ≡ true
  pub still : (i : ℕ) (name : Bytes) → i < bound → (now i).changed ≡ false
      → (new i name ≡ old i name) ⊎ ((new i name ≡ None) × IsIdle was (old i name))
  pub only : (way : Path) → Way new way at → (j : ℕ) → (now j).changed ≡ true
      → ((was j).changed ≡ true) ⊎ IsOnWay new way j

-- of appended nodes, one in the other, in which tree each lies
abbrev pub rung_parent : ℕ → ℕ → ℕ → ℕ
rung_parent at first zero = at
rung_parent at first (suc k) = first + k

-- the trees from this number on lie on the path, above its end
abbrev pub AreOnPath : Slots → Path → ℕ → ℕ → Type 0
AreOnPath slots path bound more =
    (j : ℕ) → bound ≤ j → j < more → (front : Path) × (rest : Path) × (rest ≢ [])
    × (front ++ rest ≡ path) × LeadsTo slots front j []

-- ---- what the unchanged ones are

-- each opened tree that no edit changed has the files that the table has of its entry
abbrev pub AreAsRead : Trees → Slots → Marks → Type 0
AreAsRead trees slots marks =
    (i : ℕ) (name : Bytes) (s : Slot) (c : ℕ) → slots i name ≡ Some s → child_of (Some s) ≡ Some c
    → (marks c).changed ≡ false
    → (rest : Path) → files_of_slot trees slots rest s ≡ files_of_entry trees rest (leaf_in s)

-- ---- without the unchanged ones

abbrev pub child_if : (ℕ → Bool) → Option NodeId → Option NodeId
child_if shows None = None
child_if shows (Some c) = if shows c.0 then Some c else None

-- the slot, with the number of its opened tree if that is let through
abbrev pub slot_if : (ℕ → Bool) → Slot → Slot
slot_if shows s = record s { child = child_if shows s.child }

abbrev pub slots_if : (ℕ → Bool) → (Bytes → Option Slot) → Bytes → Option Slot
slots_if shows slots name = through (slots name) (λ s. Some (slot_if shows s))

abbrev pub changed_in : List Node → ℕ → Bool
changed_in nodes c = (marks_of nodes c).changed

-- the tree is changed, or has no greater number, as the one from which trees are written and those
-- that it lies in
abbrev pub is_due : Marks → ℕ → ℕ → Bool
is_due marks from c = (marks c).changed || nat_le c from

-- the opened trees that are written from this one down, and those that it lies in; others are as
-- their entries
abbrev pub due : Slots → Marks → ℕ → Slots
due slots marks from i = slots_if (is_due marks from) (slots i)

abbrev pub due_in : List Node → ℕ → Slots
due_in nodes from = due (slots_of nodes) (marks_of nodes) from
