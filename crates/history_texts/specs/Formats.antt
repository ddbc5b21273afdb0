-- What the values of this crate mean in the formats of objects and logs.
use Rattle.std.specs.Prelude.{List, [], ◌∷◌, ◌++◌, map, decimal, None}
use Rattle.history_model.specs.Bytes.{Bytes}
use Rattle.history_model.specs.Objects.{hex}
use Rattle.gix_hash.specs.Id.{Id, id_of}
use Rattle.gix_object_commit.specs.Commit.{Parts}
use Rattle.gix_object_commit.specs.declared.commit.owned.Commit.{Commit}
use Rattle.gix_object_lines.specs.declared.lines.actor.Actor as lines
use Rattle.gix_object_lines.specs.Person.{Person}
use Rattle.history_model.specs.Objects as model
use Rattle.history_model.specs.Repository as repository
use Rattle.history_texts.specs.Actors.{plain_actor}
use Rattle.history_texts.specs.declared.actor.Actor as actors
use Rattle.history_texts.specs.declared.log_entry.LogEntry as entries

abbrev pub actor_of : actors.Actor → model.Actor
actor_of actor = plain_actor actor.name.items actor.email.items actor.time

-- an actor as a commit holds it
abbrev pub own_actor : lines.Actor → model.Actor
own_actor actor = plain_actor actor.name actor.email actor.time

-- the actor as a line of an object has it
abbrev pub person_of : model.Actor → Person
person_of actor =
    record {
      name =
          actor.name;
      email = actor.email;
      time = decimal actor.seconds ++ 32 ∷ actor.offset;
    }

-- the parts of a commit without an encoding and further headers, its ids in lower-case hexadecimal
abbrev pub plain_parts : Id → List Id → model.Actor → model.Actor → Bytes → Parts
plain_parts tree parents author committer message = record {
  tree = hex tree;
  parents = map hex parents;
  author = person_of author;
  committer = person_of committer;
  encoding = None;
  headers = [];
  message = message;
}

-- the parts of a commit, which git-commit-tree writes
abbrev pub parts_of : Commit → Parts
parts_of commit =
    plain_parts (id_of commit.tree) (map id_of commit.parents.items) (own_actor commit.author)
    (own_actor commit.committer) commit.message

-- the move that an entry is
abbrev pub entry_of : entries.LogEntry → repository.LogEntry
entry_of entry =
    record {
      before =
          id_of entry.before;
      after =
          id_of entry.after;
      actor = actor_of entry.actor;
      message = entry.message.items;
    }
