-- The number of each commit's row.
use Rattle.std.specs.Prelude.{◌≡◌, ◌<◌, ℕ, List, Some, length, Bool}
use Rattle.std.specs.HashMap.{HashMap, get}
use Rattle.std.specs.declared.hash.FoldHasher.{FoldHasher}
use Rattle.std.specs.declared.hash.BuildHasherDefault.{BuildHasherDefault}
use Rattle.gix_hash.specs.declared.object_id.ObjectId.{ObjectId}
use Rattle.gix_hash.specs.Id.{id_of}
use Rattle.gix_hash.specs.Order.{id_eq}
use Rattle.gix_traverse_graph.specs.Order.{At}
use Rattle.gix_traverse_graph.specs.declared.rows.Row.{Row}

-- a map from ids to numbers
abbrev pub NumberMap : Type 0
NumberMap = HashMap ObjectId ℕ (BuildHasherDefault FoldHasher)

-- the ids are equal
abbrev pub same_id : ObjectId → ObjectId → Bool
same_id x y = id_eq (id_of x) (id_of y)

-- the first n rows are numbered, each by its place
pub record NumbersBelow (rows : List Row) (n : ℕ) (numbers : NumberMap) : Type 0 where
  pub each : (k : ℕ) (row : Row) → k < n → At rows k row → get same_id numbers row.id ≡ Some k
  pub only : (id : ObjectId) (k : ℕ) → get same_id numbers id ≡ Some k
      → (k < n) × ((row : Row) × At rows k row × (row.id ≡ id))

-- all rows are numbered
abbrev pub Numbers : List Row → NumberMap → Type 0
Numbers rows numbers = NumbersBelow rows (length rows) numbers
