-- What a `move` wants of its names, and the moves that are made of its lines.
use Rattle.std.specs.Prelude.{◌≡◌, ⊤, Bool, true, false, not, ◌&&◌, List, [], ◌∷◌, ◌++◌, Option, Some, None, Result, Ok, Err, Vec, is_none, is_some, option_map, bytes_eq, if◌then◌else◌}
use Rattle.std.specs.declared.alloc.Global.{Global}
use Rattle.std.specs.List.{AllZip, list_any}
use Rattle.std.specs.FinMap.{keys}
use Rattle.gix_hash.specs.Id.{Id, id_of}
use Rattle.history_model.specs.Bytes.{Bytes, has_twice}
use Rattle.history_model.specs.Causes.{do_collide, first_cause, same_id}
use Rattle.history_model.specs.Commands.{Move, MoveCommand, To}
use Rattle.history_model.specs.Forms.{is_name, is_private}
use Rattle.history_model.specs.Meaning.{read_actor}
use Rattle.history_model.specs.Repository.{stands}
use Rattle.history_model.specs.Words.{commit_of}
use Rattle.history_model.specs.declared.Cause.{Cause}
use Rattle.history_model.specs.declared.Cause.TheVariants.{BadName, PrivateName, NameTwice, NoSuchName, Taken, NotExpected, BadActor, BadTime, BadMessage, NothingMoves}
use Rattle.history_model.specs.declared.Fault.TheVariants.{Memory, File, IdTaken}
use Rattle.history_layout.specs.MoveSteps.{line_entry}
use Rattle.history_texts.specs.Formats.{actor_of, entry_of}
use Rattle.history_texts.specs.declared.actor.Actor.{Actor}
use Rattle.history_word.specs.declared.command.Field.{Field}
use Rattle.history_repository.specs.Reads.{IsReadingFault}
use Rattle.history_plans.specs.Bases.{IsExpected, expected_meanings}
use Rattle.history_plans.specs.CommitCauses.{first_among, held_causes, place_causes, word_causes}
use Rattle.history_repository.specs.Fields.{kept_bytes}
use Rattle.history_repository.specs.Held.{IsHeld, held_commit, held_id}
use Rattle.history_repository.specs.Meanings.{commit_in, commit_or_cause, meaning_of}
use Rattle.history_plans.specs.declared.base.Expected.{Expected}
use Rattle.history_plans.specs.declared.base.Expected.TheVariants.{Any, New, At}
use Rattle.history_plans.specs.declared.moving.Line.{Line}
use Rattle.history_store.specs.declared.changing.MovedName.{MovedName}
use Rattle.history_repository.specs.declared.stopped.Stopped.{Stopped}
use Rattle.history_repository.specs.declared.stopped.Stopped.TheVariants.{Refused, Fault}
use Rattle.history_model.specs.Repository as plain
use Rattle.history_word.specs.declared.command.To as received

-- ---- causes

-- The causes that lie in the names of the lines themselves, and those that lie in the actor and the
-- message.
abbrev pub to_causes : List Cause
to_causes = BadName ∷ PrivateName ∷ NameTwice ∷ []

abbrev pub teller_causes : List Cause
teller_causes = BadActor ∷ BadTime ∷ BadMessage ∷ []

abbrev pub move_causes : List Cause
move_causes = to_causes
    ++ (word_causes ++ (held_causes ++ (place_causes ++ (teller_causes ++ NothingMoves ∷ []))))

-- ---- lines as they were sent

abbrev pub to_name : received.To → Bytes
to_name to = to.name.items

-- why a move can't be of these names
abbrev pub names_cause : List Bytes → Option Cause
names_cause names =
    if list_any (λ name. not (is_name name)) names then Some BadName
    else if list_any is_private names then Some PrivateName
    else if has_twice bytes_eq names then Some NameTwice
    else None

-- a move can be of these names; or it is refused for the cause, or no memory is left
abbrev pub TestsNames : List Bytes → Result (Unit {0}) Stopped → Type 0
TestsNames names (Ok done) = names_cause names ≡ None
TestsNames names (Err (Refused cause)) = names_cause names ≡ Some cause
TestsNames names (Err (Fault Memory)) = ⊤
TestsNames names (Err (Fault File)) = ⊥
TestsNames names (Err (Fault IdTaken)) = ⊥

-- ---- lines that were read

-- a line, its words read, and what its name holds
pub record IsLine (r : plain.Repository) (to : To) (line : Line) : Type 0 where
  pub name : line.name.items ≡ to.name
  pub expected : IsExpected r to.expect line.expected
  pub held : IsHeld r to.name line.held
  pub word : meaning_of line.word ≡ commit_or_cause r to.word
  pub commit : option_map id_of (commit_in line.word) ≡ commit_of r to.word

abbrev pub AreLines : plain.Repository → List To → List Line → Type 0
AreLines r = AllZip (IsLine r)

abbrev pub line_name : Line → Bytes
line_name line = line.name.items

-- what its words mean
abbrev pub line_meanings : Line → List (Result Id Cause)
line_meanings line = expected_meanings line.expected ++ meaning_of line.word ∷ []

-- whether its name is expected at a commit, and doesn't exist
abbrev pub is_missing : Line → Bool
is_missing line = list_any (λ _. is_none line.held) (expected_meanings line.expected)

abbrev pub is_new : Expected → Bool
is_new New = true
is_new Any = false
is_new (At meaning) = false

-- whether it is expected to be new, and exists
abbrev pub is_taken : Line → Bool
is_taken line = is_new line.expected && is_some line.held

abbrev pub is_apart : Line → Expected → Bool
is_apart line Any = false
is_apart line New = false
is_apart line (At meaning) =
    not (same_id (option_map held_commit line.held) (option_map id_of (commit_in meaning)))

-- whether it is expected at a commit, and isn't there
abbrev pub is_elsewhere : Line → Bool
is_elsewhere line = is_apart line line.expected

-- whether it holds its word's commit before it moves
abbrev pub is_there : Line → Bool
is_there line = same_id (option_map held_id line.held) (option_map id_of (commit_in line.word))

-- why what the names hold isn't as expected
abbrev pub lines_cause : List Line → Option Cause
lines_cause lines =
    if list_any is_missing lines then Some NoSuchName
    else if list_any is_taken lines then Some Taken
    else if list_any is_elsewhere lines then Some NotExpected
    else None

-- whether the line's name is to be made, and collides with an existing one
abbrev pub bars : plain.Repository → To → Bool
bars r to = not (stands r to.name) && list_any (do_collide to.name) (keys r.names)

-- ---- what their logs say

pub record IsTeller (sent : MoveCommand) (actor : Actor) (message : Bytes) : Type 0 where
  pub actor_is : actor_of actor ≡ read_actor sent.actor
  pub message_is : message ≡ sent.message

-- the actor, if no cause holds that lies in it or the message; or it is refused for the first that
-- holds
abbrev pub TellsTeller : plain.Repository → MoveCommand → Field → Result Actor Cause → Type 0
TellsTeller r sent message (Ok actor) = (first_among teller_causes r (Move sent) ≡ None)
    × IsTeller sent actor (kept_bytes message)
TellsTeller r sent message (Err cause) = first_among teller_causes r (Move sent) ≡ Some cause

-- ---- the moves

-- the line's name moves to what its word means
pub record IsLineMove (r : plain.Repository) (sent : MoveCommand) (to : To)
    (moves : MovedName) : Type 0 where
  pub name : moves.name.items ≡ to.name
  pub entry : entry_of moves.entry ≡ line_entry r sent to

abbrev pub AreMoves : plain.Repository → MoveCommand → List To → List MovedName → Type 0
AreMoves r sent = AllZip (IsLineMove r sent)

-- The moves are made if no cause holds; or it is refused for the first that holds, or a fault was
-- met.
abbrev pub PlansMoves : Type 0 → plain.Repository → MoveCommand
    → Result (Vec MovedName Global) Stopped → Type 0
PlansMoves MayFail r sent (Ok moves) =
    (first_cause r (Move sent) ≡ None) × AreMoves r sent sent.to moves.items
PlansMoves MayFail r sent (Err (Refused cause)) = first_cause r (Move sent) ≡ Some cause
PlansMoves MayFail r sent (Err (Fault fault)) = IsReadingFault MayFail (Fault fault)
