-- What replies show of the store's objects.
use Rattle.std.specs.Prelude.{map}
use Rattle.history_model.specs.Bytes.{Bytes}
use Rattle.history_model.specs.Replies.{CommitShown, ContentShown}
use Rattle.history_model.specs.declared.FileKind.{FileKind}
use Rattle.history_texts.specs.Formats.{own_actor}
use Rattle.gix_object_commit.specs.declared.commit.owned.Commit.{Commit}
use Rattle.gix_hash.specs.declared.object_id.ObjectId.{ObjectId}
use Rattle.gix_hash.specs.Id.{id_of}

abbrev pub shown_commit : ObjectId → Commit → CommitShown
shown_commit id commit = record {
  id = id_of id;
  tree = id_of commit.tree;
  parents = map id_of commit.parents.items;
  author = own_actor commit.author;
  committer = own_actor commit.committer;
  message = commit.message;
}

-- a file whose content has this id and is these bytes
abbrev pub shown_content : FileKind → ObjectId → Bytes → ContentShown
shown_content kind id bytes = record { kind = kind; id = id_of id; bytes = bytes }
