-- What was read of an object, and of the commit that it peels to.
use Rattle.std.specs.Prelude.{◌≡◌, ⊤, Option, Some, None, MatchOption, option_map}
use Rattle.std.specs.FinMap.{get}
use Rattle.gix_hash.specs.Id.{Id, id_of}
use Rattle.gix_hash.specs.declared.kind.Kind.{Kind}
use Rattle.gix_hash.specs.declared.object_id.ObjectId.{ObjectId}
use Rattle.history_model.specs.Bytes.{Bytes}
use Rattle.history_model.specs.Objects.{CommitValue, StoredCommit, Value, commit_content, content_of, folder_id, object_kind}
use Rattle.history_model.specs.Repository.{Repository, peeled}
use Rattle.history_store.specs.declared.objects.Object.{Object}
use Rattle.history_repository.specs.declared.stored.MeantCommit.{MeantCommit}
use Rattle.history_repository.specs.declared.stored.PeeledCommit.{PeeledCommit}

-- this is the object of a value
abbrev pub IsObject : Kind → Value → Object → Type 0
IsObject kind value object =
    (object.kind ≡ object_kind value) × (object.content.items ≡ content_of kind value)

-- this is what the commit of an id has for its content, if it is stored
abbrev pub IsContentOf : Repository → Id → Bytes → Type 0
IsContentOf r id content =
    (value : CommitValue) → get r.objects id ≡ Some (StoredCommit value)
    → content ≡ commit_content r.kind value

-- what was read of the commit, if anything was, is its content
abbrev pub HasContent : Repository → MeantCommit → Type 0
HasContent r meant =
    MatchOption meant.content ⊤ (λ content. IsContentOf r (id_of meant.id) content.items)

-- the commit that the object of an id peels to; none if it peels to none
abbrev pub IsMeantBy : Repository → Id → Option MeantCommit → Type 0
IsMeantBy r id (Some meant) = (peeled r id ≡ Some (id_of meant.id)) × HasContent r meant
IsMeantBy r id None = peeled r id ≡ None

-- a commit is stored under the id, and this is its root
pub record IsRootOf (r : Repository) (id : Id) (root : ObjectId) : Type 0 where
  pub value : CommitValue
  pub stored : get r.objects id ≡ Some (StoredCommit value)
  pub tree : id_of root ≡ folder_id r.kind value.files

-- the root is the commit's, if it is known
abbrev pub HasRoot : Repository → PeeledCommit → Type 0
HasRoot r commit = MatchOption commit.root ⊤ (IsRootOf r (id_of commit.id))

abbrev pub peeled_id : PeeledCommit → Id
peeled_id commit = id_of commit.id

-- the object of an id peels to this commit, with its root, if that is known; or to none
pub record IsPeeledBy (r : Repository) (id : Id) (commit : Option PeeledCommit) : Type 0 where
  pub peels : option_map peeled_id commit ≡ peeled r id
  pub rooted : MatchOption commit ⊤ (HasRoot r)

-- this is the commit of an id, with its root, if that is known
abbrev pub IsRooted : Repository → Id → PeeledCommit → Type 0
IsRooted r id commit = (peeled_id commit ≡ id) × HasRoot r commit
