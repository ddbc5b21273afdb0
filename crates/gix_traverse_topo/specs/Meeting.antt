-- How far a walk has numbered the commits that it comes to.
use Rattle.std.specs.Prelude.{◌≡◌, ℕ, zero, suc, ◌<◌, List, ◌++◌}
use Rattle.gix_hash.specs.declared.object_id.ObjectId.{ObjectId}
use Rattle.gix_traverse_graph.specs.Commits.{Reached}
use Rattle.gix_traverse_graph.specs.Order.{At, Named, IsBreadthFirst}
use Rattle.gix_traverse_graph.specs.Reading.{Read}
use Rattle.gix_traverse_graph.specs.Standing.{NotIn}

-- the names at place p: the tips, or the parents of the commit before
abbrev pub IsRow : (ObjectId → List ObjectId) → List ObjectId → List ObjectId → ℕ → List ObjectId
    → Type 0
IsRow way tips xs zero names = tips ≡ names
IsRow way tips xs (suc q) names = (child : ObjectId) × At xs q child × (way child ≡ names)

-- these are followed by those that are named up to place p
pub record Met (way : ObjectId → List ObjectId) (tips hs keys : List ObjectId)
    (p : ℕ) : Type 0 where
  pub xs : List ObjectId
  pub keys_are : keys ≡ hs ++ xs
  pub count : ℕ
  pub read : Read way tips (NotIn hs) xs p count
  pub all : (j : ℕ) (x : ObjectId) → Named way tips xs p j x → j < count

-- these are followed by all that the tips reach past them, in breadth order
pub record Walks (way : ObjectId → List ObjectId) (tips hs keys : List ObjectId) : Type 0 where
  pub xs : List ObjectId
  pub keys_are : keys ≡ hs ++ xs
  pub breadth : IsBreadthFirst way tips (Reached way (NotIn hs) tips) xs
