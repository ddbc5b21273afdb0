-- Which stored trees an edit looks up: those that its path leads into and that aren't opened, from
-- the top down.
use Rattle.std.specs.Prelude.{ℕ, suc, ◌≡◌, ◌<◌, ◌+◌, ◌^◌, List, [], ◌∷◌, ◌++◌, length, Option, Some, None, Result, Ok, Err, if◌then◌else◌}
use Rattle.std.specs.List.{All}
use Rattle.gix_hash.specs.Id.{Id}
use Rattle.gix_object_lines.specs.declared.kind.Kind.TheVariants as kinds
use Rattle.gix_object_tree.specs.Entry.{Item, SpellsTree}
use Rattle.gix_object_tree.specs.WellFormed.{IsWellFormed}
use Rattle.gix_object_lookup.specs.Table.{Table}
use Rattle.gix_object_lookup.specs.Existing.{Stands}
use Rattle.gix_object_editor.specs.declared.tree.editor.error.Error.{Error}
use Rattle.gix_object_editor.specs.declared.tree.editor.error.Error.TheVariants.{EmptyPathComponent, FindExistingObject, CannotRemoveNonLeaf, MalformedTree, EmptyTree, Memory}
use Rattle.gix_object_nodes.specs.declared.node.NodeId.{NodeId}
use Rattle.gix_object_nodes.specs.declared.node.Slot.{Slot}
use Rattle.gix_object_nodes.specs.Files.{Path, Leaf, Trees, leads_on, leaf_of, named, through}
use Rattle.gix_object_editor.specs.Stored.{HasStored}
use Rattle.gix_object_nodes.specs.Nodes.{Slots, leaf_in, child_or}
use Rattle.gix_object_editor.specs.Refusals.{OpeningFault}

-- the names of a path but the last: those that lead to the tree of its last name
abbrev pub front_of : Path → Path
front_of [] = []
front_of (name ∷ []) = []
front_of (name ∷ next ∷ rest) = name ∷ front_of (next ∷ rest)

abbrev pub ids_from : {A : Type 0} → Option A → (A → List Id) → List Id
ids_from None ids = []
ids_from (Some a) ids = ids a

-- the trees into which names lead from an entry: its own, and of each name the one that the entry
-- of that name leads to
abbrev pub trees_into : Trees → Path → Leaf → List Id
trees_into trees [] leaf = if leads_on leaf then leaf.id ∷ [] else []
trees_into trees (name ∷ rest) leaf =
    if leads_on leaf then leaf.id ∷ ids_from (through (trees leaf.id) (named name))
    (λ item. trees_into trees rest (leaf_of item)) else []

-- the trees that aren't opened into which names lead from a slot
abbrev pub slot_into : Trees → Slots → Path → Slot → List Id
slot_into trees slots [] s = child_or s.child (λ c. []) (trees_into trees [] (leaf_in s))
slot_into trees slots (name ∷ rest) s =
    child_or s.child (λ c. ids_from (slots c name) (slot_into trees slots rest))
    (trees_into trees (name ∷ rest) (leaf_in s))

-- the trees that aren't opened into which names lead from an opened tree
abbrev pub unopened_into : Trees → Slots → ℕ → Path → List Id
unopened_into trees slots i [] = []
unopened_into trees slots i (name ∷ rest) = ids_from (slots i name) (slot_into trees slots rest)

-- those into which they lead on from a folder, if one was found
abbrev pub found_into : Trees → Slots → Option NodeId → Path → List Id
found_into trees slots None names = []
found_into trees slots (Some folder) names = unopened_into trees slots folder.0 names

-- ---- what is found of them

-- a well-formed tree is stored under the id
abbrev pub IsStoredTree : Table → Id → Type 0
IsStoredTree table id = (content : List ℕ) × (items : List Item)
    × Stands table id kinds.Tree content × SpellsTree id.kind content items × IsWellFormed items

-- so many lookups were counted, as far as a count of 64 bits goes
abbrev pub CountsUp : ℕ → ℕ → ℕ → Type 0
CountsUp was now n = was + n < 2 ^ 64 → now ≡ was + n

-- the trees before the others were looked up, in order and counted, and are well-formed
pub record AsksUpTo (table : Table) (ids left : List Id) (was now : ℕ) : Type 0 where
  pub front : List Id
  pub split : front ++ left ≡ ids
  pub good : All (IsStoredTree table) front
  pub counted : CountsUp was now (length front)

-- all were looked up
abbrev pub AsksAll : Table → List Id → ℕ → ℕ → Type 0
AsksAll table ids was now = All (IsStoredTree table) ids × CountsUp was now (length ids)

-- this one was looked up too, after the ones before it
pub record AsksFor (table : Table) (ids : List Id) (was now : ℕ) (id : Id) : Type 0 where
  pub front : List Id
  pub rest : List Id
  pub split : front ++ id ∷ rest ≡ ids
  pub good : All (IsStoredTree table) front
  pub counted : CountsUp was now (suc (length front))

-- some of them were looked up, in order and counted
pub record AsksSome (ids : List Id) (was now : ℕ) : Type 0 where
  pub front : List Id
  pub rest : List Id
  pub split : front ++ rest ≡ ids
  pub counted : CountsUp was now (length front)

-- how an edit stops: at the first of the trees that isn't read or isn't well-formed, and by other
-- causes after them all
abbrev pub StopsAt : Type 0 → Type 0 → Table → List Id → ℕ → ℕ → Error → Type 0
StopsAt honest may_fail table ids was now EmptyPathComponent = now ≡ was
StopsAt honest may_fail table ids was now (FindExistingObject error) =
    (id : Id) × AsksFor table ids was now id
    × OpeningFault honest may_fail table id (FindExistingObject error)
StopsAt honest may_fail table ids was now (CannotRemoveNonLeaf filename) = AsksAll table ids was now
StopsAt honest may_fail table ids was now (MalformedTree oid) =
    (id : Id) × AsksFor table ids was now id
    × OpeningFault honest may_fail table id (MalformedTree oid)
StopsAt honest may_fail table ids was now EmptyTree = now ≡ was
StopsAt honest may_fail table ids was now Memory = AsksSome ids was now

-- of the stored trees all of these were looked up, or the edit stopped at one
abbrev pub Asks : {X : Type 0} → Type 0 → Type 0 → Table → (Trees → List Id) → ℕ → ℕ
    → Result X Error → Type 0
Asks honest may_fail table ids was now (Ok x) = honest → (trees : Trees) → HasStored table trees
    → AsksAll table (ids trees) was now
Asks honest may_fail table ids was now (Err error) = honest → (trees : Trees)
    → HasStored table trees → StopsAt honest may_fail table (ids trees) was now error

-- the same of those before the ones that are left
abbrev pub AsksTo : {X : Type 0} → Type 0 → Type 0 → Table → (Trees → Path → List Id)
    → (X → Trees → Path → List Id) → ℕ → ℕ → Result X Error → Type 0
AsksTo honest may_fail table ids left was now (Ok x) = honest → (trees : Trees)
    → HasStored table trees → (more : Path) → AsksUpTo table (ids trees more) (left x trees more) was now
AsksTo honest may_fail table ids left was now (Err error) = honest → (trees : Trees)
    → HasStored table trees → (more : Path)
    → StopsAt honest may_fail table (ids trees more) was now error
