-- The statement of the law on the past of a name.
use Rattle.std.specs.Prelude.{◌≡◌, Bool, ◌&&◌, List, [], ◌∷◌, ◌++◌, unwrap_or, codes, IsFalse, if◌then◌else◌}
use Rattle.history_model.specs.Bytes.{Bytes}
use Rattle.history_model.specs.Objects.{Actor}
use Rattle.gix_hash.specs.Order.{id_eq}
use Rattle.gix_hash.specs.Id.{null_id}
use Rattle.history_model.specs.Repository.{LogEntry, Repository, id_at, moves_at, stands}
use Rattle.history_model.specs.Forms.{title}
use Rattle.history_model.specs.Commands.{Command, Commit, Tag, Move}
use Rattle.history_model.specs.Replies.{Reply}
use Rattle.history_model.specs.Meaning.{read_actor, history_actor}
use Rattle.history_model.specs.Steps.{Steps, some_failed, next}

-- the actor and the message of the moves that a command makes; those of a rename are fixed
abbrev pub mover : Command → Actor
mover (Commit c) = read_actor c.committer
mover (Tag c) = read_actor c.tagger
mover (Move c) = read_actor c.actor
mover _ = history_actor

abbrev pub move_message : Command → Bytes
move_message (Commit c) = title c.message
move_message (Tag c) = title c.message
move_message (Move c) = c.message
move_message _ = codes "rename"

-- The move of a name from one repository to the next: from the id that it held, null if it didn't
-- exist, to the one that it holds. There is none if these are equal.
abbrev pub step_moves : Repository → Command → Repository → Bytes → List LogEntry
step_moves old command new name =
    let before = unwrap_or (id_at old name) (null_id old.kind) in
    let after = unwrap_or (id_at new name) (null_id old.kind) in
    if id_eq before after then []
    else record {
      before =
          before;
      after = after;
      actor = mover command;
      message = move_message command;
    } ∷ []

-- the name exists before these commands and after each of them
abbrev pub stands_through : Repository → List Command → List Reply → Bytes → Bool
stands_through r (command ∷ commands) (reply ∷ replies) name =
    stands r name && stands_through (next r command reply) commands replies name
stands_through r _ _ name = stands r name

-- the moves that these commands made since the name was last created, newest first
abbrev pub moves_made : Repository → List Command → List Reply → Bytes → List LogEntry
moves_made r (command ∷ commands) (reply ∷ replies) name =
    let mid = next r command reply in
    moves_made mid commands replies name
    ++ (if stands_through mid commands replies name then step_moves r command mid name else [])
moves_made r _ _ name = []

-- If no changing command had a fault, the past of a name is exactly the moves that these steps made
-- since it was last created, newest first, and then those before these steps, if it existed all the
-- while.
abbrev pub PastsTellMoves : Type 0
PastsTellMoves =
    (old new : Repository) (commands : List Command) (replies : List Reply) (name : Bytes)
    → Steps old commands replies new → IsFalse (some_failed commands replies)
    → moves_at new name
    ≡ moves_made old commands replies name
    ++ (if stands_through old commands replies name then moves_at old name else [])
