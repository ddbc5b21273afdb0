-- The command that was read changes files exactly if the one that was sent does.
use Rattle.std.proofs.Common.{◌≡◌, refl}
use Rattle.history_model.specs.Commands as model
use Rattle.history_model.specs.Stops as stops
use Rattle.history_word.specs.Commands.{IsCommandOf, IsReceived, is_changing, is_received_changing}
use Rattle.history_word.specs.declared.command.Command.{Command}
use Rattle.history_word.specs.declared.command.Command.TheVariants as command
use Rattle.history_word.specs.declared.reader.Received.{Received}
use Rattle.history_word.specs.declared.reader.Received.TheVariants as received

sent_changes : (read : Command) (sent : model.Command) → IsCommandOf read sent → is_changing read ≡ stops.is_changing sent
sent_changes (command.Commit c) (model.Commit o) h = refl
sent_changes (command.Tag t) (model.Tag o) h = refl
sent_changes (command.Move m) (model.Move o) h = refl
sent_changes (command.Rename x) (model.Rename from to) h = refl
sent_changes (command.Delete d) (model.Delete name at) h = refl
sent_changes (command.Files w) (model.Files o) h = refl
sent_changes (command.Show s) (model.Show word path) h = refl
sent_changes (command.Names f) (model.Names o) h = refl
sent_changes (command.Past w) (model.Past o) h = refl
sent_changes (command.Switch n) (model.Switch o) h = refl
sent_changes command.Pack model.Pack h = refl
sent_changes command.Index model.Index h = refl
sent_changes (command.Log l) (model.Log o) h = refl
sent_changes read sent h = absurd h

pub received_changes : (read : Received) (sent : model.Command) → IsReceived read sent → is_received_changing read ≡ stops.is_changing sent
received_changes (received.NoMemory changing) sent h = h
received_changes (received.Command read) sent h = sent_changes read sent h
