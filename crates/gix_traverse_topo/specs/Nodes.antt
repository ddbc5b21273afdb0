-- What a walk knows of commits, each by its number.
use Rattle.std.specs.Prelude.{◌≡◌, ◌↔◌, Bool, true, ℕ, ◌<◌, ◌≤◌, pos, List, [], map, Contains, IsSome, IfSome, None, Some}
use Rattle.gix_hash.specs.declared.object_id.ObjectId.{ObjectId}
use Rattle.gix_object_lookup.specs.Table.{Table}
use Rattle.gix_traverse_graph.specs.Commits.{Commits}
use Rattle.gix_traverse_commit_known.specs.Fetching.{HasRowsGeneration}
use Rattle.gix_traverse_graph.specs.Order.{At}
use Rattle.gix_traverse_commit_known.specs.Nodes.{has}
use Rattle.gix_traverse_commit_known.specs.Told.{AreTold}
use Rattle.gix_traverse_commit_known.specs.declared.nodes.TheConstants.WalkFlags.{UNINTERESTING}
use Rattle.gix_traverse_commit_known.specs.declared.nodes.WalkFlags.{WalkFlags}
use Rattle.gix_traverse_graph.specs.declared.rows.Row.{Row}
use Rattle.gix_traverse_commit_known.specs.declared.fetch.FetchError.{FetchError}
use Rattle.gix_traverse_commit_known.specs.declared.fetch.FetchError.TheVariants as fetch
use Rattle.gix_traverse_topo.specs.Faults.{IsFaultOf, error_of}
use Rattle.gix_traverse_topo.specs.Turns.{times}
use Rattle.gix_traverse_topo.specs.declared.known.Node.{Node}
use Rattle.gix_traverse_topo.specs.declared.known.Facts.{Facts}

-- what was read of each
abbrev pub all_facts : List Node → List Facts
all_facts nodes = map (λ (node : Node). node.facts) nodes

-- how often each is still named
abbrev pub counts : List Node → List ℕ
counts nodes = map (λ (node : Node). node.names) nodes

-- the flags of each
abbrev pub all_flags : List Node → List WalkFlags
all_flags nodes = map (λ (node : Node). node.flags) nodes

-- a commit of these flags is one that the ends reach
abbrev pub is_hidden : WalkFlags → Bool
is_hidden flags = has flags UNINTERESTING

-- how many the ends reach
abbrev pub hidden_in : List Node → ℕ
hidden_in nodes = times is_hidden (all_flags nodes)

-- those that the ends reach are the first: one is flagged so exactly if its number is below how
-- many are
abbrev pub AreFirst : List WalkFlags → Type 0
AreFirst all = (n : ℕ) (flags : WalkFlags) → At all n flags
    → (is_hidden flags ≡ true) ↔ (n < times is_hidden all)

-- the facts are the commit's
pub record Tells (rows : List Row) (g : Commits ObjectId) (id : ObjectId)
    (facts : Facts) : Type 0 where
  pub parents : facts.parents.items ≡ (g id).parents
  pub time : facts.time ≡ (g id).time
  pub generation : HasRowsGeneration rows id facts.generation

-- what was read of a commit: all that is known of it, or why nothing is, and then it counts as one
-- without parents
pub record AreFacts (honest may_fail : Type 0) (rows : List Row) (table : Table) (id : ObjectId)
    (facts : Facts) : Type 0 where
  pub told : honest → (g : Commits ObjectId) → AreTold rows table g → facts.fault ≡ None
      → Tells rows g id facts
  pub blank : IsSome facts.fault
      → (facts.parents.items ≡ []) × (facts.time ≡ pos 0)
      × HasRowsGeneration rows id facts.generation
  pub cause : IfSome facts.fault (IsFaultOf honest may_fail rows table id)

-- it fills the place of a commit that isn't read, for this fault, which isn't want of memory
pub record IsBlank (fault : FetchError) (facts : Facts) : Type 0 where
  pub parents : facts.parents.items ≡ []
  pub time : facts.time ≡ pos 0
  pub generation : facts.generation ≡ None
  pub because : facts.fault ≡ Some (error_of fault)
  pub no_memory : fault ≡ fetch.Memory → ⊥

-- from this number on each commit's parents are those that were read
abbrev pub ParentsFrom : ℕ → Commits ObjectId → List ObjectId → List Facts → Type 0
ParentsFrom low g keys told =
    (n : ℕ) (x : ObjectId) (facts : Facts) → low ≤ n → At keys n x → At told n facts
    → facts.parents.items ≡ (g x).parents

-- from this number on this holds of each commit and its count
abbrev pub EachCount : ℕ → List ObjectId → List ℕ → (ObjectId → ℕ → Type 0) → Type 0
EachCount low keys cs P =
    (n : ℕ) (x : ObjectId) (count : ℕ) → low ≤ n → At keys n x → At cs n count → P x count

-- the list holds each once
abbrev pub IsOnce : {I : Type 0} → List I → Type 0
IsOnce {I} xs = (j k : ℕ) (x : I) → At xs j x → At xs k x → j ≡ k

-- from low up to high each commit's parents are those that were read
abbrev pub ParentsIn : ℕ → ℕ → Commits ObjectId → List ObjectId → List Facts → Type 0
ParentsIn low high g keys told =
    (n : ℕ) (x : ObjectId) (facts : Facts) → low ≤ n → n < high → At keys n x
    → At told n facts → facts.parents.items ≡ (g x).parents

-- from this number on each commit is counted so often, and what has no number is named never
abbrev pub NamesAre : ℕ → List ObjectId → List ℕ → (ObjectId → ℕ) → Type 0
NamesAre low keys cs names =
    EachCount low keys cs (λ y count. count ≡ names y)
    × ((y : ObjectId) → (Contains keys y → ⊥) → names y ≡ 0)
