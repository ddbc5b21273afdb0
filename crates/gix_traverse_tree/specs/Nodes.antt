-- The trees that a walk in breadth order has queued, each with the number of the one that it lies
-- in.
use Rattle.std.specs.Prelude.{ℕ, suc, ◌≡◌, ◌+◌, ◌<◌, ◌⊎◌, ⊤, true, List, [], ◌∷◌, ◌++◌, Option, Some, None, IfSome, map, length, slice_get}
use Rattle.std.specs.List.{IsDistinct}
use Rattle.gix_hash.specs.Id.{Id, id_of}
use Rattle.gix_hash.specs.Order.{id_eq}
use Rattle.gix_hash.specs.declared.kind.Kind.{Kind}
use Rattle.gix_hash.specs.declared.object_id.ObjectId.{ObjectId}
use Rattle.gix_object_lookup.specs.Table.{Table}
use Rattle.gix_traverse_tree.specs.Breadth.{Tree, Listing, Level, InBreadth}
use Rattle.gix_traverse_tree.specs.Calls.{Call, Runs, pop_front}
use Rattle.gix_traverse_tree.specs.Trees.{End, whole, failed, IsRead, is_among}
use Rattle.gix_traverse_tree.specs.declared.breadthfirst.Node.{Node}
use Rattle.gix_traverse_tree.specs.declared.error.Error.{Error}
use Rattle.gix_traverse_tree.specs.declared.error.Error.TheVariants.{Memory}

-- each lies in an earlier one
abbrev pub IsLinked : List Node → Type 0
IsLinked nodes =
    (n : ℕ) (node : Node) → slice_get nodes n ≡ Some node → IfSome node.above (λ m. m < n)

-- the ids on the way up from here
abbrev pub IsWayUp : List Node → Option ℕ → List Id → Type 0
IsWayUp nodes link [] = link ≡ None
IsWayUp nodes link (id ∷ ids) =
    (n : ℕ) × (node : Node) × (link ≡ Some n) × (slice_get nodes n ≡ Some node)
    × (id_of node.id ≡ id) × IsWayUp nodes node.above ids

-- this tree has the number
abbrev pub StandsAt : List Node → ℕ → Tree → Type 0
StandsAt nodes n tree =
    (node : Node) × (slice_get nodes n ≡ Some node) × (id_of node.id ≡ tree.id)
    × IsWayUp nodes node.above tree.above

-- these trees have the numbers from this one on
abbrev pub StandFrom : List Node → ℕ → List Tree → Type 0
StandFrom nodes n [] = ⊤
StandFrom nodes n (tree ∷ trees) = StandsAt nodes n tree × StandFrom nodes (suc n) trees

-- these trees are all from this number on
abbrev pub AreAllFrom : List Node → ℕ → List Tree → Type 0
AreAllFrom nodes n trees = StandFrom nodes n trees × (n + length trees ≡ length nodes)

abbrev pub node_under : Option ℕ → ObjectId → Node
node_under above id = record { id = id; above = above }

-- trees of these ids, which lie in the same, are put after the others
abbrev pub Queues : Option ℕ → List Node → List Node → List Id → Type 0
Queues above before after ids =
    (added : List ObjectId) × (map id_of added ≡ ids)
    × (after ≡ before ++ map (node_under above) added)

-- the way up has this many ids, no two of them equal, and all of the store's
pub record IsUnderSome (ids : List Id) (depth : ℕ) (tree : Tree) : Type 0 where
  pub deep : length tree.above ≡ depth
  pub distinct : IsDistinct id_eq tree.above
  pub stored : (id : Id) → is_among id tree.above ≡ true → is_among id ids ≡ true

abbrev pub AreUnderSome : List Id → ℕ → List Tree → Type 0
AreUnderSome ids depth [] = ⊤
AreUnderSome ids depth (tree ∷ trees) = IsUnderSome ids depth tree × AreUnderSome ids depth trees

-- ---- what each step of the walk has done; G says what a call makes of the delegate

-- an error that isn't for want of memory has its cause in the walk
abbrev pub MemoryOr : (Error → Type 0) → Error → Type 0
MemoryOr P error = (error ≡ Memory) ⊎ P error

-- the entries of a tree are shown, and those to go below queued
abbrev pub ShowsListing : {S : Type 0} → (S → Call → S → Type 0) → Kind → List ℕ → Option ℕ → S
    → List Node → S → List Node → Type 0
ShowsListing G ids content above before nodes after queued =
    (calls : List Call) × (below : List Id) × Runs G before calls after
    × Listing ids content calls below whole × Queues above nodes queued below

-- the walk stops in a tree
abbrev pub StopsListing : {S : Type 0} → (S → Call → S → Type 0) → Kind → List ℕ → S → S → Error
    → Type 0
StopsListing G ids content before after error =
    (calls : List Call) × (below : List Id) × Runs G before calls after
    × Listing ids content calls below (failed error)

-- a queued tree is read, and its entries shown
pub record ShowsTree {S : Type 0} (G : S → Call → S → Type 0) (H : Type 0) (table : Table)
    (ids : List Id) (n : ℕ) (tree : Tree) (before : S) (nodes : List Node) (after : S)
    (queued : List Node) : Type 0 where
  pub content : List ℕ
  pub calls : List Call
  pub below : List Id
  pub read : IsRead H table tree.above tree.id content
  pub listing : Listing tree.id.kind content calls below whole
  pub runs : Runs G before (pop_front ∷ calls) after
  pub queues : Queues (Some n) nodes queued below
  pub stored : is_among tree.id ids ≡ true

abbrev pub StopsLevel : {S : Type 0} → (S → Call → S → Type 0) → (H M : Type 0) → Table
    → List Tree → S → S → Error → Type 0
StopsLevel G H M table trees before after error =
    (calls : List Call) × (below : List Tree) × Runs G before calls after
    × Level H M table trees calls below (failed error)

-- the trees of a level are read, and those of the next queued
pub record ShowsLevel {S : Type 0} (G : S → Call → S → Type 0) (H M : Type 0) (table : Table)
    (ids : List Id) (trees : List Tree) (before : S) (nodes : List Node) (after : S)
    (queued : List Node) : Type 0 where
  pub calls : List Call
  pub below : List Tree
  pub level : Level H M table trees calls below whole
  pub runs : Runs G before calls after
  pub all : AreAllFrom queued (length nodes) below
  pub deeper : (depth : ℕ) → AreUnderSome ids depth trees → AreUnderSome ids (suc depth) below

-- the walk is made
abbrev pub Walks : {S : Type 0} → (S → Call → S → Type 0) → (H M : Type 0) → Table → Kind → List ℕ
    → S → S → End → Type 0
Walks G H M table ids content before after end =
    (calls : List Call) × Runs G before calls after × InBreadth H M table ids content calls end
