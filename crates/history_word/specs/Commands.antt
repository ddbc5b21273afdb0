-- What a command that was read means.
use Rattle.std.specs.Prelude.{◌≡◌, ⊤, Bool, true, false, List, map, Option, Some, None, option_map}
use Rattle.std.specs.List.{AllZip}
use Rattle.history_model.specs.Bytes.{Bytes}
use Rattle.history_model.specs.CommandParts.{option_expect}
use Rattle.history_model.specs.Commands as model
use Rattle.history_model.specs.Forms.{max_path, max_actor_part, max_content}
use Rattle.history_model.specs.Stops as stops
use Rattle.history_word.specs.Fields.{Keeps}
use Rattle.history_word.specs.declared.command.Field.{Field}
use Rattle.history_word.specs.declared.command.Expect.{Expect}
use Rattle.history_word.specs.declared.command.Expect.TheVariants.{Any, New, At}
use Rattle.history_word.specs.declared.command.Edit.{Edit}
use Rattle.history_word.specs.declared.command.Edit.TheVariants.{Put, Remove, RemoveFile, Graft}
use Rattle.history_word.specs.declared.command.ActorLine.{ActorLine}
use Rattle.history_word.specs.declared.command.CommitCommand.{CommitCommand}
use Rattle.history_word.specs.declared.command.TagCommand.{TagCommand}
use Rattle.history_word.specs.declared.command.To.{To}
use Rattle.history_word.specs.declared.command.MoveCommand.{MoveCommand}
use Rattle.history_word.specs.declared.command.Rename.{Rename}
use Rattle.history_word.specs.declared.command.Delete.{Delete}
use Rattle.history_word.specs.declared.command.Order.{Order}
use Rattle.history_word.specs.declared.command.Order.TheVariants.{Breadth, Newest, Oldest, NewestSince, OldestSince, Date, Topological}
use Rattle.history_word.specs.declared.command.LogItem.{LogItem}
use Rattle.history_word.specs.declared.command.LogItem.TheVariants.{Tip, Hidden}
use Rattle.history_word.specs.declared.command.LogCommand.{LogCommand}
use Rattle.history_word.specs.declared.command.Command.{Command}
use Rattle.history_word.specs.declared.command.Command.TheVariants as command
use Rattle.history_word.specs.declared.reader.Received.{Received}
use Rattle.history_word.specs.declared.reader.Received.TheVariants as received

abbrev pub IsExpect : Expect → model.Expect → Type 0
IsExpect Any model.Any = ⊤
IsExpect New model.New = ⊤
IsExpect (At word) (model.At bytes) = word.items ≡ bytes
IsExpect _ _ = ⊥

abbrev pub IsEdit : Edit → model.EditLine → Type 0
IsEdit (Put put) (model.PutLine kind path content) =
    (put.kind ≡ kind) × Keeps max_path put.path path × Keeps max_content put.content content
IsEdit (Remove path) (model.RemoveLine bytes) = Keeps max_path path bytes
IsEdit (RemoveFile path) (model.RemoveFileLine bytes) = Keeps max_path path bytes
IsEdit (Graft graft) (model.GraftLine path word source) = Keeps max_path graft.path path
    × (graft.word.items ≡ word) × Keeps max_path graft.source source
IsEdit _ _ = ⊥

abbrev pub AreEdits : List Edit → List model.EditLine → Type 0
AreEdits = AllZip IsEdit

pub record IsActor (actor : ActorLine) (line : model.ActorLine) : Type 0 where
  pub name : Keeps max_actor_part actor.name line.name
  pub email : Keeps max_actor_part actor.email line.email
  pub seconds : actor.seconds.items ≡ line.seconds
  pub offset : actor.offset.items ≡ line.offset

pub record IsCommit (commit : CommitCommand) (sent : model.CommitCommand) : Type 0 where
  pub name : commit.name.items ≡ sent.name
  pub expect : IsExpect commit.expect sent.expect
  pub parents : map (λ word. word.items) commit.parents.items ≡ sent.parents
  pub edits : AreEdits commit.edits.items sent.edits
  pub author : IsActor commit.author sent.author
  pub committer : IsActor commit.committer sent.committer
  pub message : Keeps max_content commit.message sent.message

pub record IsTag (tag : TagCommand) (sent : model.TagCommand) : Type 0 where
  pub name : tag.name.items ≡ sent.name
  pub expect : IsExpect tag.expect sent.expect
  pub word : tag.word.items ≡ sent.word
  pub tagger : IsActor tag.tagger sent.tagger
  pub message : Keeps max_content tag.message sent.message

pub record IsTo (to : To) (line : model.To) : Type 0 where
  pub name : to.name.items ≡ line.name
  pub expect : IsExpect to.expect line.expect
  pub word : to.word.items ≡ line.word

abbrev pub AreTos : List To → List model.To → Type 0
AreTos = AllZip IsTo

pub record IsMove (move : MoveCommand) (sent : model.MoveCommand) : Type 0 where
  pub to : AreTos move.to.items sent.to
  pub actor : IsActor move.actor sent.actor
  pub message : Keeps max_content move.message sent.message

-- the two names are these
pub record IsRename (rename : Rename) (from to : Bytes) : Type 0 where
  pub from_is : rename.from.items ≡ from
  pub to_is : rename.to.items ≡ to

-- the name is this one, and must be at the word's commit, if there is a word
pub record IsDelete (delete : Delete) (name : Bytes) (at : Option Bytes) : Type 0 where
  pub name_is : delete.name.items ≡ name
  pub expect : IsExpect delete.expect (option_expect at)

abbrev pub IsPath : Option Field → Option Bytes → Type 0
IsPath (Some field) (Some path) = Keeps max_path field path
IsPath None None = ⊤
IsPath _ _ = ⊥

abbrev pub IsOrder : Order → model.Order → Type 0
IsOrder Breadth model.Breadth = ⊤
IsOrder Newest model.Newest = ⊤
IsOrder Oldest model.Oldest = ⊤
IsOrder (NewestSince word) (model.NewestSince bytes) = word.items ≡ bytes
IsOrder (OldestSince word) (model.OldestSince bytes) = word.items ≡ bytes
IsOrder Date model.Date = ⊤
IsOrder Topological model.Topological = ⊤
IsOrder _ _ = ⊥

abbrev pub IsLogItem : LogItem → model.LogItem → Type 0
IsLogItem (Tip word) (model.Tip bytes) = word.items ≡ bytes
IsLogItem (Hidden word) (model.Hidden bytes) = word.items ≡ bytes
IsLogItem _ _ = ⊥

abbrev pub ArePaths : List Field → List Bytes → Type 0
ArePaths = AllZip (Keeps max_path)

pub record IsLog (log : LogCommand) (line : model.LogCommand) : Type 0 where
  pub order : IsOrder log.order line.order
  pub first_parents : log.first_parents ≡ line.first_parents
  pub items : AllZip IsLogItem log.items.items line.items
  pub paths : ArePaths log.paths.items line.paths

-- the command that was read is this one, except for the bytes of fields over their limits
abbrev pub IsCommandOf : Command → model.Command → Type 0
IsCommandOf (command.Commit commit) (model.Commit sent) = IsCommit commit sent
IsCommandOf (command.Tag tag) (model.Tag sent) = IsTag tag sent
IsCommandOf (command.Move move) (model.Move sent) = IsMove move sent
IsCommandOf (command.Rename rename) (model.Rename from to) = IsRename rename from to
IsCommandOf (command.Delete delete) (model.Delete name at) = IsDelete delete name at
IsCommandOf (command.Files word) (model.Files bytes) = word.items ≡ bytes
IsCommandOf (command.Show show) (model.Show word path) =
    (show.word.items ≡ word) × IsPath show.path path
IsCommandOf (command.Names folder) (model.Names word) = option_map (λ w. w.items) folder ≡ word
IsCommandOf (command.Past word) (model.Past bytes) = word.items ≡ bytes
IsCommandOf (command.Switch name) (model.Switch bytes) = name.items ≡ bytes
IsCommandOf command.Pack model.Pack = ⊤
IsCommandOf command.Index model.Index = ⊤
IsCommandOf (command.Log log) (model.Log sent) = IsLog log sent
IsCommandOf _ _ = ⊥

-- a command was read, or was read to its end though memory ran out
abbrev pub IsReceived : Received → model.Command → Type 0
IsReceived (received.Command command) sent = IsCommandOf command sent
IsReceived (received.NoMemory changing) sent = changing ≡ stops.is_changing sent

-- ---- whether it changes files, as the command does that was sent

abbrev pub is_changing : Command → Bool
is_changing (command.Commit commit) = true
is_changing (command.Tag tag) = true
is_changing (command.Move move) = true
is_changing (command.Rename rename) = true
is_changing (command.Delete delete) = true
is_changing (command.Files word) = false
is_changing (command.Show show) = false
is_changing (command.Names folder) = false
is_changing (command.Past word) = false
is_changing (command.Switch name) = true
is_changing command.Pack = true
is_changing command.Index = false
is_changing (command.Log log) = false

abbrev pub is_received_changing : Received → Bool
is_received_changing (received.Command command) = is_changing command
is_received_changing (received.NoMemory changing) = changing
