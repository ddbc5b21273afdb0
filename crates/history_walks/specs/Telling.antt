-- What is said of commits.
use Rattle.std.specs.Prelude.{◌≡◌, ⊤, pos, List, [], ◌∷◌, Some, map, Contains}
use Rattle.gix_hash.specs.Id.{Id, id_of}
use Rattle.gix_hash.specs.declared.object_id.ObjectId.{ObjectId}
use Rattle.history_model.specs.Objects.{CommitValue, folder_id}
use Rattle.history_model.specs.Repository.{Repository, HoldsCommit, commit_at}
use Rattle.history_walks.specs.declared.told.Told.{Told}

-- this is said of a stored commit, as it is stored
pub record TellsStored (r : Repository) (told : Told) : Type 0 where
  pub commit : CommitValue
  pub stored : commit_at r (id_of told.id) ≡ Some commit
  pub tree : id_of told.tree ≡ folder_id r.kind commit.files
  pub parents : map id_of told.parents.items ≡ commit.parents
  pub time : told.time ≡ pos (commit.committer).seconds

-- one of these is of the commit
abbrev pub IsTold : List Told → ObjectId → Type 0
IsTold commits id = (told : Told) × Contains commits told × (told.id ≡ id)

-- the parents of each come after it, and no commit comes twice
abbrev pub AreInOrder : List Told → Type 0
AreInOrder [] = ⊤
AreInOrder (told ∷ behind) =
    ((parent : ObjectId) → Contains told.parents.items parent → IsTold behind parent)
    × (¬ IsTold behind told.id) × AreInOrder behind

-- all stored commits are here, as they are stored, each before its parents
pub record AreAllTold (r : Repository) (commits : List Told) : Type 0 where
  pub stored : (told : Told) → Contains commits told → TellsStored r told
  pub every : (id : Id) → HoldsCommit r id
      → (told : Told) × Contains commits told × (id_of told.id ≡ id)
  pub order : AreInOrder commits
