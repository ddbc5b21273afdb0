-- What a commit of the store says, in the words of the plain repository.
use Rattle.std.specs.Prelude.{◌≡◌, Bool, ◌&&◌, List, [], None, map, IsTrue}
use Rattle.std.specs.List.{list_all}
use Rattle.history_model.specs.Forms.{is_id, is_actor}
use Rattle.history_model.specs.Objects.{Actor, CommitValue, folder_id}
use Rattle.gix_hash.specs.declared.kind.Kind.{Kind}
use Rattle.gix_object_commit.specs.Commit.{Parts}
use Rattle.gix_object_commit.specs.declared.commit.owned.Commit.{Commit}
use Rattle.history_texts.specs.Actors.{HasActorForm}
use Rattle.history_texts.specs.Formats.{own_actor, plain_parts}
use Rattle.gix_hash.specs.Id.{Id, id_of}

-- the ids that the commit names are of this kind
abbrev pub has_ids_of : Kind → Commit → Bool
has_ids_of kind commit =
    is_id kind (id_of commit.tree) && list_all (is_id kind) (map id_of commit.parents.items)

-- a commit as the store holds it: of this kind, its actors in their written form, with no encoding
-- and no further headers
pub record IsPlainCommit (kind : Kind) (commit : Commit) : Type 0 where
  pub ids : IsTrue (has_ids_of kind commit)
  pub author : HasActorForm commit.author
  pub committer : HasActorForm commit.committer
  pub encoding : commit.encoding ≡ None
  pub headers : commit.extra_headers.items ≡ []

-- the commit says what this value says and nothing else, its tree being the id of the value's files
pub record SaysCommit (kind : Kind) (commit : Commit) (value : CommitValue) : Type 0 where
  pub plain : IsPlainCommit kind commit
  pub tree : id_of commit.tree ≡ folder_id kind value.files
  pub parents : map id_of commit.parents.items ≡ value.parents
  pub author : own_actor commit.author ≡ value.author
  pub committer : own_actor commit.committer ≡ value.committer
  pub message : commit.message ≡ value.message

-- there is no encoding, and no further header
abbrev pub TellsNoMore : Parts → Type 0
TellsNoMore parts = (parts.encoding ≡ None) × (parts.headers ≡ [])

-- the parts are those of a commit of this kind, its actors in their written form
pub record IsPlain (kind : Kind) (parts : Parts) : Type 0 where
  pub tree : Id
  pub parents : List Id
  pub author : Actor
  pub committer : Actor
  pub tree_is : IsTrue (is_id kind tree)
  pub parents_are : IsTrue (list_all (is_id kind) parents)
  pub author_is : IsTrue (is_actor author)
  pub committer_is : IsTrue (is_actor committer)
  pub parts_are : parts ≡ plain_parts tree parents author committer parts.message
