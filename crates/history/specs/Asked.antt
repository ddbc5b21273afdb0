-- The premises of the clauses on one command.
use Rattle.std.specs.Prelude.{IsTrue}
use Rattle.gix_ref_file.specs.History.{History}
use Rattle.history_model.specs.Stage.{is_spoken}
use Rattle.history_word.specs.Commands.{IsReceived}
use Rattle.history_word.specs.declared.reader.Received.{Received}
use Rattle.history_repository.specs.Stands.{Stands}
use Rattle.history_repository.specs.declared.repository.Repository.{Repository}
use Rattle.history_model.specs.Commands as commands
use Rattle.history_model.specs.Repository as plain

-- The command that was read is this one, which is offered, for this repository.
pub record Asked {F : Type 0} (IsHonest : F → Type 0) (history : F → History)
    (repository : Repository F) (received : Received)
    (r : plain.Repository) (sent : commands.Command) : Type 0 where
  pub serves : Stands IsHonest history repository r
  pub reads : IsReceived received sent
  pub offered : IsTrue (is_spoken sent)
