-- The step of a command that moves one name, as a commit and a tag do, on the two trees: its values
-- are stored, in any order, and its name moves.
use Rattle.std.specs.Prelude.{◌≡◌, IsTrue}
use Rattle.gix_hash.specs.Id.{Id}
use Rattle.history_model.specs.Bytes.{Bytes}
use Rattle.history_model.specs.Objects.{Actor, StoredCommit, StoredTag, id_of}
use Rattle.history_model.specs.Repository.{Repository, LogEntry}
use Rattle.history_model.specs.Forms.{is_id, title}
use Rattle.history_model.specs.Commands.{Command, Commit, CommitCommand, Tag, TagCommand}
use Rattle.history_model.specs.Meaning.{branch_after, branch_or_name, names_after, new_commit, new_tag, read_actor, with_name}
use Rattle.history_model.specs.Stops.{IsNotLost}
use Rattle.history_layout.specs.TreeSteps.{move_entry}

-- a name that is to hold an id, and the actor and the message for its log
pub record NameMove : Type 0 where
  pub name : Bytes
  pub id : Id
  pub actor : Actor
  pub message : Bytes

-- the name of a commit moves to it, and that of a tag to the tag
abbrev pub commit_move : Repository → CommitCommand → NameMove
commit_move r c =
    record {
      name =
          branch_or_name r c.name;
      id = id_of r.kind (StoredCommit (new_commit r c));
      actor = read_actor c.committer;
      message = title c.message;
    }

abbrev pub tag_move : Repository → TagCommand → NameMove
tag_move r c =
    record {
      name =
          c.name;
      id = id_of r.kind (StoredTag (new_tag r c));
      actor = read_actor c.tagger;
      message = title c.message;
    }

abbrev pub entry_of_move : Repository → NameMove → LogEntry
entry_of_move r move = move_entry r move.name move.id move.actor move.message

-- the command moves this name so, and no other, and HEAD's branch stays
pub record MovesOneName (r : Repository) (command : Command) (move : NameMove) : Type 0 where
  pub names : names_after r command
      ≡ with_name r move.name move.id move.actor move.message r.names
  pub branch : branch_after r command ≡ r.branch
  pub formed : IsTrue (is_id r.kind move.id)
  pub not_lost : (x : Repository) → IsNotLost r command x

-- A commit and a tag do so.
abbrev pub CommitsMoveOneName : Type 0
CommitsMoveOneName =
    (r : Repository) (c : CommitCommand) → MovesOneName r (Commit c) (commit_move r c)

abbrev pub TagsMoveOneName : Type 0
TagsMoveOneName = (r : Repository) (c : TagCommand) → MovesOneName r (Tag c) (tag_move r c)
