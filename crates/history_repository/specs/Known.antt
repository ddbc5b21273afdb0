-- What a command has read of objects.
use Rattle.std.specs.Prelude.{◌≡◌, Option, Some}
use Rattle.std.specs.BTreeMap.{get_by}
use Rattle.gix_hash.specs.Id.{id_of}
use Rattle.gix_hash.specs.Order.{id_cmp}
use Rattle.gix_hash.specs.declared.object_id.ObjectId.{ObjectId}
use Rattle.history_files.specs.Laws.{table_of}
use Rattle.history_model.specs.Repository.{Repository}
use Rattle.history_walks.specs.ReadCommits.{AreOf, kept_in}
use Rattle.history_walks.specs.declared.read_commits.ReadCommits.{ReadCommits}
use Rattle.history_repository.specs.Meant.{IsPeeledBy}
use Rattle.history_repository.specs.declared.read_objects.ReadObjects.{ReadObjects}
use Rattle.history_repository.specs.declared.stored.PeeledCommit.{PeeledCommit}

-- the commit that an object peels to, or none, if the object was read
abbrev pub meant_in : ReadObjects → ObjectId → Option (Option PeeledCommit)
meant_in read id = get_by (λ key. id_cmp (id_of id) (id_of key)) read.peeled

-- the commits whose contents are kept
abbrev pub contents_in : ReadObjects → ReadCommits
contents_in read = read.contents

-- each object peels to what was read of it, and each content that is kept is its commit's
pub record AreMeant (r : Repository) (read : ReadObjects) : Type 0 where
  pub objects : (id : ObjectId) (commit : Option PeeledCommit) → meant_in read id ≡ Some commit
      → IsPeeledBy r (id_of id) commit
  pub contents : AreOf (table_of r) (kept_in (contents_in read))
