-- The rows of a walk, in the words of the plain repository.
use Rattle.std.specs.Prelude.{◌≡◌, pos, List, length, map, Contains}
use Rattle.gix_hash.specs.Id.{id_of}
use Rattle.gix_traverse_graph.specs.declared.rows.Row.{Row}
use Rattle.history_model.specs.Answers as model

-- the row says what this one says
pub record SaysRow (row : Row) (plain : model.Row) : Type 0 where
  pub id : id_of row.id ≡ plain.id
  pub tree : id_of row.tree ≡ plain.tree
  pub parents : map id_of row.parents.items ≡ plain.parents
  pub time : row.time ≡ pos plain.time
  pub generation : row.generation ≡ plain.generation

-- the rows are exactly these, each once, in any order
pub record AreTheRows (plain : List model.Row) (rows : List Row) : Type 0 where
  pub each : (p : model.Row) → Contains plain p → (row : Row) × Contains rows row × SaysRow row p
  pub only : (row : Row) → Contains rows row → (p : model.Row) × Contains plain p × SaysRow row p
  pub as_many : length rows ≡ length plain
