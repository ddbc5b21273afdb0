-- In which order commits begin to wait.
use Rattle.std.specs.Prelude.{◌≡◌, ◌⊎◌, ℕ, List, [], ◌∷◌, ◌++◌, Contains, ⊤}
use Rattle.gix_hash.specs.declared.object_id.ObjectId.{ObjectId}
use Rattle.gix_traverse_commit_known.specs.Known.{KnownCommits}
use Rattle.gix_traverse_commit_known.specs.Nodes.{Node, ids_of}
use Rattle.gix_traverse_graph.specs.Order.{At}
use Rattle.gix_traverse_commit_known.specs.declared.waiting.Pending.{Pending}

-- each number that had a node has the same one still
abbrev pub KeepNodes : List Node → List Node → Type 0
KeepNodes old new = (k : ℕ) (x : ObjectId) → At (ids_of old) k x → At (ids_of new) k x

-- the ids of these by their numbers, one by one
abbrev pub AreOf : List Node → List Pending → List ObjectId → Type 0
AreOf nodes [] [] = ⊤
AreOf nodes [] (x ∷ xs) = ⊥
AreOf nodes (p ∷ ps) [] = ⊥
AreOf nodes (p ∷ ps) (x ∷ xs) = At (ids_of nodes) p.number.0 x × AreOf nodes ps xs

-- some of these, in their order
abbrev pub Within : List ObjectId → List ObjectId → Type 0
Within xs [] = xs ≡ []
Within xs (y ∷ ys) =
    Within xs ys ⊎ ((rest : List ObjectId) × (xs ≡ y ∷ rest) × Within rest ys)

-- these commits are queued to wait, in their order, after what was queued, and no other begins to
-- wait
pub record QueuesBehind (old : KnownCommits) (ids : List ObjectId)
    (new : KnownCommits) : Type 0 where
  pub more : List Pending
  pub order : new.order ≡ old.order ++ more
  pub named : AreOf new.nodes more ids
  pub kept : KeepNodes old.nodes new.nodes
  pub stay : (p : Pending) → Contains old.pending p → Contains new.pending p
  pub wait : (p : Pending) → Contains more p → Contains new.pending p
  pub only : (p : Pending) → Contains new.pending p → Contains old.pending p ⊎ Contains more p

-- some of these commits are queued so, in their order
abbrev pub QueuesSome : KnownCommits → List ObjectId → KnownCommits → Type 0
QueuesSome old xs new = (ids : List ObjectId) × QueuesBehind old ids new × Within ids xs
