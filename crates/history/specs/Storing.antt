-- What storing a command's objects leaves, and what is then to be done to names.
use Rattle.std.specs.Prelude.{◌≡◌, ⊤, ℕ, Bool, true, false, List, [], ◌∷◌, Vec, Option, Some, None, Result, Ok, Err, IsTrue, IsFalse, map, option_map}
use Rattle.std.specs.declared.alloc.Global.{Global}
use Rattle.gix_hash.specs.Id.{id_of}
use Rattle.gix_ref_file.specs.History.{History}
use Rattle.history_model.specs.Bytes.{Bytes}
use Rattle.history_model.specs.Causes.{first_cause}
use Rattle.history_model.specs.Meaning.{after, takes_id}
use Rattle.history_model.specs.Steps.{MayTake}
use Rattle.history_model.specs.Stops.{is_changing}
use Rattle.history_model.specs.declared.Fault.TheVariants.{Memory, File, IdTaken}
use Rattle.history_layout.specs.CommandEdits.{moved_by, moved_on}
use Rattle.history_layout.specs.EditSteps.{renamed}
use Rattle.history_layout.specs.OneNameSteps.{commit_move, tag_move}
use Rattle.history_layout.specs.TreeHalves.{HoldsValues}
use Rattle.history_store.specs.KnownObjects.{HasKnown}
use Rattle.history_store.specs.ObjectsFace.{kind_of_objects}
use Rattle.history_word.specs.Commands.{IsCommandOf}
use Rattle.history_word.specs.declared.command.Command.{Command}
use Rattle.history_repository.specs.Face.{KeepsAllButObjects, objects_part}
use Rattle.history_repository.specs.Reads.{IsReadingFault}
use Rattle.history_repository.specs.Stands.{Stands}
use Rattle.history_repository.specs.declared.repository.Repository.{Repository}
use Rattle.history_repository.specs.declared.stopped.Stopped.{Stopped}
use Rattle.history_repository.specs.declared.stopped.Stopped.TheVariants.{Refused, Fault}
use Rattle.history_plans.specs.Halves.{KnowsIds, objects_tree}
use Rattle.history_plans.specs.Packing.{IsPacking}
use Rattle.history_store.specs.Changing.{moved_in}
use Rattle.history_store.specs.declared.changing.MovedName.{MovedName}
use Rattle.history.specs.declared.moves.Done.{Done}
use Rattle.history.specs.declared.moves.Done.TheVariants as done
use Rattle.history.specs.declared.moves.Moves.{Moves}
use Rattle.history.specs.declared.moves.Moves.TheVariants as move
use Rattle.history_layout.specs.EditSteps as edits
use Rattle.history_model.specs.Commands as commands
use Rattle.history_model.specs.Repository as plain

-- The command is this one, which changes files, for this repository.
pub record AskedChange {F : Type 0} (IsHonest : F → Type 0) (history : F → History)
    (repository : Repository F) (command : Command)
    (r : plain.Repository) (sent : commands.Command) : Type 0 where
  pub serves : Stands IsHonest history repository r
  pub reads : IsCommandOf command sent
  pub changes : IsTrue (is_changing sent)

-- ---- moves

-- the names that a command moves, and the one that it removes
abbrev pub names_moved : plain.Repository → commands.Command → List edits.MovedName
names_moved r (commands.Commit c) = moved_by r (commit_move r c) ∷ []
names_moved r (commands.Tag c) = moved_by r (tag_move r c) ∷ []
names_moved r (commands.Move c) = map (moved_on r c) c.to
names_moved r (commands.Rename from to) = renamed r from to ∷ []
names_moved r sent = []

abbrev pub name_taken : commands.Command → Option Bytes
name_taken (commands.Rename from to) = Some from
name_taken (commands.Delete name at) = Some name
name_taken sent = None

-- the command is this one, and makes a commit or tag of this id
abbrev pub IsDone : plain.Repository → commands.Command → Done → Type 0
IsDone r (commands.Commit c) (done.Commit id) = id_of id ≡ (commit_move r c).id
IsDone r (commands.Tag c) (done.Tag id) = id_of id ≡ (tag_move r c).id
IsDone r (commands.Move c) done.Move = ⊤
IsDone r (commands.Rename from to) done.Rename = ⊤
IsDone r (commands.Delete name at) done.Delete = ⊤
IsDone r _ _ = ⊥

-- The command is this one, moves these names and removes that one.
pub record IsChangeOf (r : plain.Repository) (sent : commands.Command) (made : Done)
    (moved : List MovedName) (taken : Option (Vec ℕ Global)) : Type 0 where
  pub is : IsDone r sent made
  pub moves : map moved_in moved ≡ names_moved r sent
  pub takes : option_map (λ name. name.items) taken ≡ name_taken sent

-- how names are to move
abbrev pub TellMoves : plain.Repository → commands.Command → Moves → Type 0
TellMoves r sent (move.Change made moved taken) = IsChangeOf r sent made moved.items taken
TellMoves r (commands.Switch name) (move.Switch branch) = branch.items ≡ name
TellMoves r commands.Pack (move.Pack packing) = IsPacking r packing
TellMoves r _ _ = ⊥

-- These are the moves of a command of which no cause holds, so that no name occurs twice or
-- collides, and each holds what is expected of it; and what it stores takes no id.
pub record AreMovesOf (r : plain.Repository) (sent : commands.Command)
    (moves : Moves) : Type 0 where
  pub none : first_cause r sent ≡ None
  pub free : IsFalse (takes_id r sent)
  pub told : TellMoves r sent moves

-- the moves of a command that stores nothing; or the first cause, or a fault of reading
abbrev pub GivesMoves : Type 0 → plain.Repository → commands.Command → Result Moves Stopped → Type 0
GivesMoves MayFail r sent (Ok moves) = AreMovesOf r sent moves
GivesMoves MayFail r sent (Err (Refused cause)) = first_cause r sent ≡ Some cause
GivesMoves MayFail r sent (Err (Fault fault)) = IsReadingFault MayFail (Fault fault)

-- ---- objects

-- The repository represented this plain one before the command, and all but its objects is as it
-- was: they are those after the command, so that each id that a name is to move to is stored.
pub record HasStored {F : Type 0} (IsHonest : F → Type 0) (history : F → History)
    (repository : Repository F) (r : plain.Repository) (sent : commands.Command) : Type 0 where
  pub before : Repository F
  pub stood : Stands IsHonest history before r
  pub kept : KeepsAllButObjects before repository
  pub honest : IsHonest (objects_part repository)
  pub kind : kind_of_objects repository.objects ≡ r.kind
  pub holds : HoldsValues r.kind (objects_tree history repository) (after r sent).objects
  pub known : KnowsIds repository (after r sent).objects
  pub exist : HasKnown (objects_tree history repository) repository.objects

-- The objects are stored, and these are the moves; else the first cause is returned, or a fault.
abbrev pub StoresObjects : Type 0 → Type 0 → plain.Repository → commands.Command
    → Result Moves Stopped → Type 0
StoresObjects CallFailed Stored r sent (Ok moves) = AreMovesOf r sent moves × Stored
StoresObjects CallFailed Stored r sent (Err (Refused cause)) = first_cause r sent ≡ Some cause
StoresObjects CallFailed Stored r sent (Err (Fault Memory)) = ⊤
StoresObjects CallFailed Stored r sent (Err (Fault File)) = CallFailed
StoresObjects CallFailed Stored r sent (Err (Fault IdTaken)) = MayTake r sent

-- whether a fault is returned
abbrev pub is_fault_of : {T : Type 0} → Result T Stopped → Bool
is_fault_of (Ok value) = false
is_fault_of (Err (Refused cause)) = false
is_fault_of (Err (Fault fault)) = true
