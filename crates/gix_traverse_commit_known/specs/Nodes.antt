-- Commits that a walk knows, and how they are flagged.
use Rattle.std.specs.Prelude.{◌≡◌, ◌==◌, ℕ, List, [], ◌∷◌, length, Option, None, Some, Bool, find, map}
use Rattle.std.specs.Int.RustNames.{bit_and}
use Rattle.gix_hash.specs.declared.object_id.ObjectId.{ObjectId}
use Rattle.gix_traverse_graph.specs.Numbered.{same_id}
use Rattle.gix_traverse_graph.specs.Order.{At}
use Rattle.gix_traverse_commit_known.specs.declared.nodes.TheConstants.WalkFlags.{ASKED, SEEN, UNINTERESTING}
use Rattle.gix_traverse_commit_known.specs.declared.nodes.WalkFlags.{WalkFlags}

-- a commit, and its flags
pub record Node : Type 0 where
  pub id : ObjectId
  pub flags : WalkFlags

-- the commits with these ids, each with the flags at its place
abbrev pub nodes_in : List ObjectId → List WalkFlags → List Node
nodes_in [] flags = []
nodes_in (id ∷ ids) [] = []
nodes_in (id ∷ ids) (f ∷ flags) = record { id = id; flags = f } ∷ nodes_in ids flags

-- no commit has two numbers, and each has flags
pub record AreNumbered (ids : List ObjectId) (flags : List WalkFlags) : Type 0 where
  pub once : (j k : ℕ) (x : ObjectId) → At ids j x → At ids k x → j ≡ k
  pub as_many : length flags ≡ length ids

-- the ids of nodes, in their order
abbrev pub ids_of : List Node → List ObjectId
ids_of nodes = map (λ (node : Node). node.id) nodes

abbrev pub no_flags : WalkFlags
no_flags = record { 0 = 0 }

-- these flags have that one
abbrev pub has : WalkFlags → WalkFlags → Bool
has flags flag = bit_and flags.0 flag.0 == flag.0

abbrev pub flags_in : Option Node → WalkFlags
flags_in None = no_flags
flags_in (Some node) = node.flags

-- the flags of a commit
abbrev pub flags_of : List Node → ObjectId → WalkFlags
flags_of nodes id = flags_in (find (λ (node : Node). same_id id node.id) nodes)

-- a walk has met the commit
abbrev pub is_met : List Node → ObjectId → Bool
is_met nodes id = has (flags_of nodes id) SEEN

-- the commit is painted as hidden
abbrev pub is_hidden : List Node → ObjectId → Bool
is_hidden nodes id = has (flags_of nodes id) UNINTERESTING

-- the predicate was called for the commit
abbrev pub is_asked : List Node → ObjectId → Bool
is_asked nodes id = has (flags_of nodes id) ASKED
