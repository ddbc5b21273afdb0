-- What `index` reads of a repository.
use Rattle.std.specs.Prelude.{◌≡◌, List, map, Contains}
use Rattle.gix_hash.specs.Id.{Id, id_of}
use Rattle.gix_hash.specs.declared.object_id.ObjectId.{ObjectId}
use Rattle.history_model.specs.Repository.{Repository, HoldsCommit}
use Rattle.history_walks.specs.Telling.{TellsStored}
use Rattle.history_walks.specs.declared.told.Told.{Told}
use Rattle.history_queries.specs.Walked.{AllHold}

-- these are the ids of all stored commits
pub record AreTheCommits (r : Repository) (ids : List ObjectId) : Type 0 where
  pub hold : AllHold r ids
  pub every : (id : Id) → HoldsCommit r id → (x : ObjectId) × Contains ids x × (id_of x ≡ id)

-- these are what the commits say, in their order
pub record AreToldOf (r : Repository) (ids : List ObjectId) (told : List Told) : Type 0 where
  pub same : map (λ (t : Told). t.id) told ≡ ids
  pub stored : (t : Told) → Contains told t → TellsStored r t
