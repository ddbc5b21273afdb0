-- Rows that agree with what is stored.
use Rattle.std.specs.Prelude.{◌≡◌, pos, List, Some, Contains, map}
use Rattle.std.specs.FinMap.{get}
use Rattle.gix_hash.specs.Id.{id_of}
use Rattle.gix_hash.specs.declared.kind.Kind.{Kind}
use Rattle.gix_traverse_graph.specs.Rows.{AreRows}
use Rattle.gix_traverse_graph.specs.declared.rows.Row.{Row}
use Rattle.history_model.specs.Objects.{CommitValue, StoredCommit, folder_id}
use Rattle.history_model.specs.Repository.{Values}

-- ---- rows that agree with what is stored

-- the row says of its commit what is stored
pub record TellsRow (kind : Kind) (values : Values) (row : Row) : Type 0 where
  pub commit : CommitValue
  pub stored : get values (id_of row.id) ≡ Some (StoredCommit commit)
  pub tree : id_of row.tree ≡ folder_id kind commit.files
  pub parents : map id_of row.parents.items ≡ commit.parents
  pub time : row.time ≡ pos (commit.committer).seconds

-- the rows make a graph, and each says what is stored of its commit
pub record AgreeRows (kind : Kind) (values : Values) (rows : List Row) : Type 0 where
  pub told : (row : Row) → Contains rows row → TellsRow kind values row
  pub graph : AreRows rows
