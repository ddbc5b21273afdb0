-- The state of a walk over rows in breadth order.
use Rattle.std.specs.Prelude.{◌≡◌, ℕ, suc, ◌<◌, ◌↔◌, ◌⊎◌, Bool, true, ◌||◌, List, ◌++◌, length, Contains, None, ⊤}
use Rattle.std.specs.List.{list_any}
use Rattle.gix_hash.specs.declared.object_id.ObjectId.{ObjectId}
use Rattle.gix_traverse_graph.specs.Order.{At, Named}
use Rattle.gix_traverse_graph.specs.Commits.{WalkRequest, asked_parents, Reached, Listed, Hides}
use Rattle.gix_traverse_graph.specs.Numbered.{same_id}
use Rattle.gix_traverse_graph.specs.Reading.{Read}
use Rattle.gix_traverse_graph.specs.RowCommits.{commits_of}
use Rattle.gix_traverse_graph.specs.Rows.{Holds}
use Rattle.gix_traverse_graph.specs.declared.parents.Parents.{Parents}
use Rattle.gix_traverse_graph.specs.declared.rows.Row.{Row}
use Rattle.gix_traverse_graph.specs.declared.walk.WalkError.{WalkError}
use Rattle.gix_traverse_graph.specs.declared.walk.WalkError.TheVariants as fault

-- a walk without a cutoff, and without a predicate
abbrev pub plain_request : {I : Type 0} → List I → List I → Parents → WalkRequest I
plain_request tips hidden parents =
    record { tips = tips; hidden = hidden; parents = parents; since = None; accepts = λ _. true }

-- kept are those that are not among hs
abbrev pub NotIn : List ObjectId → ObjectId → Type 0
NotIn hs x = Contains hs x → ⊥

-- names before (p, m) are read, and the set has the members of the list
pub record Walked (along : ObjectId → List ObjectId) (tips hs : List ObjectId)
    (has : ObjectId → Bool) (xs : List ObjectId) (p m : ℕ) : Type 0 where
  pub read : Read along tips (NotIn hs) xs p m
  pub members : (q : ObjectId) → has q ≡ (list_any (same_id q) xs || list_any (same_id q) hs)

-- all names at place p are read too
pub record WalkedAll (along : ObjectId → List ObjectId) (tips hs : List ObjectId)
    (has : ObjectId → Bool) (xs : List ObjectId) (p : ℕ) : Type 0 where
  pub count : ℕ
  pub walked : Walked along tips hs has xs p count
  pub all : (j : ℕ) (x : ObjectId) → Named along tips xs p j x → j < count

-- hs are what the hidden reach
pub record Paints (rows : List Row) (hidden hs : List ObjectId) : Type 0 where
  pub same : (x : ObjectId)
      → Contains hs x ↔ Reached (λ y. (commits_of rows y).parents) (λ _. ⊤) hidden x

-- the parents that a walk over rows goes along
abbrev pub ways : List Row → Parents → ObjectId → List ObjectId
ways rows parents = asked_parents parents (commits_of rows)

-- a walk that has seen these has listed all before what is queued
abbrev pub StandsAt : List Row → Parents → (ObjectId → Bool) → List ObjectId → List ObjectId
    → List ObjectId → List ObjectId → Type 0
StandsAt rows parents has queue tips hides listed =
    WalkedAll (ways rows parents) tips hides has (listed ++ queue) (length listed)

-- reached from the tips along these parents, past nothing of hides
abbrev pub GoesTo : List Row → Parents → List ObjectId → List ObjectId → ObjectId → Type 0
GoesTo rows parents tips hides x = Reached (ways rows parents) (NotIn hides) tips x

-- the commit whose parents are at place p
abbrev pub Reads : List ObjectId → ℕ → ObjectId → Type 0
Reads xs p id = (q : ℕ) × (p ≡ suc q) × At xs q id

-- if the fault is a missing commit, this holds of it
abbrev pub OfMissing : (ObjectId → Type 0) → WalkError → Type 0
OfMissing P (fault.Missing id) = P id
OfMissing P fault.Memory = ⊤

-- a commit without a row that the walk goes to, or that a hidden commit reaches
abbrev pub IsMissing : List Row → WalkRequest ObjectId → ObjectId → Type 0
IsMissing rows q id =
    (¬ Holds rows id) × (Listed (commits_of rows) q id ⊎ Hides (commits_of rows) q id)
