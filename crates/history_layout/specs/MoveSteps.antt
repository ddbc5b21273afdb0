-- What a line of a move moves: its name to the commit that its word means.
use Rattle.std.specs.Prelude.{unwrap_or}
use Rattle.gix_hash.specs.Id.{null_id}
use Rattle.history_model.specs.Repository.{Repository, LogEntry}
use Rattle.history_model.specs.Words.{commit_of}
use Rattle.history_model.specs.Commands.{MoveCommand, To}
use Rattle.history_model.specs.Meaning.{read_actor}
use Rattle.history_layout.specs.TreeSteps.{move_entry}

-- the entry of a line's move, to the commit that its word means before the command
abbrev pub line_entry : Repository → MoveCommand → To → LogEntry
line_entry r c to =
    move_entry r to.name (unwrap_or (commit_of r to.word) (null_id r.kind)) (read_actor c.actor)
    c.message
