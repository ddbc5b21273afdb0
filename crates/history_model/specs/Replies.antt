-- The replies, and their texts.
use Rattle.std.specs.Prelude.{ℕ, List, [], ◌∷◌, ◌++◌, length, map, codes, decimal}
use Rattle.std.specs.List.{flat_map}
use Rattle.history_model.specs.Bytes.{Bytes}
use Rattle.history_model.specs.Objects.{Actor, hex}
use Rattle.gix_hash.specs.Id.{Id}
use Rattle.history_model.specs.Repository.{LogEntry}
use Rattle.history_model.specs.Logs.{log_line}
use Rattle.history_model.specs.Commands.{ActorLine}
use Rattle.history_model.specs.Spelling.{Part, Line, Field, parts_text, kind_word, actor_parts, message_parts, len_word}
use Rattle.history_model.specs.declared.FileKind.{FileKind}
use Rattle.history_model.specs.declared.Cause.{Cause}
use Rattle.history_model.specs.declared.Cause.TheVariants.{Syntax, Truncated, LineTooLong, BadName, PrivateName, NameTwice, UnknownWord, AmbiguousWord, UnbornHead, NotACommit, NoSuchName, Taken, NotExpected, Collides, HoldsTag, TooManyParents, DuplicateParent, BadPath, IsFolder, NoSuchPath, BadActor, BadTime, BadMessage, TooLarge, NothingMoves, OrderWithParents}
use Rattle.history_model.specs.declared.Fault.{Fault}
use Rattle.history_model.specs.declared.Fault.TheVariants.{Memory, File, IdTaken}

-- a name, the id that it holds and the commit that the id peels to
pub record NameLine : Type 0 where
  pub id : Id
  pub commit : Id
  pub name : Bytes

pub record FileLine : Type 0 where
  pub kind : FileKind
  pub id : Id
  pub path : Bytes

pub record CommitShown : Type 0 where
  pub id : Id
  pub tree : Id
  pub parents : List Id
  pub author : Actor
  pub committer : Actor
  pub message : Bytes

pub record ContentShown : Type 0 where
  pub kind : FileKind
  pub id : Id
  pub bytes : Bytes

pub data Reply : Type 0 where
  RefusedFor : Cause → Reply
  Faulted : Fault → Reply
  Committed : Id → Reply
  Tagged : Id → Reply
  Moved : Reply
  Renamed : Reply
  Deleted : Reply
  Switched : Reply
  Packed : Reply
  Indexed : ℕ → Reply
  NamesAre : Bytes → List NameLine → Reply
  LogIs : List Id → Reply
  FilesAre : List FileLine → Reply
  ShowsCommit : CommitShown → Reply
  ShowsContent : ContentShown → Reply
  PastIs : List LogEntry → Reply

abbrev pub cause_text : Cause → Bytes
cause_text Syntax = codes "Syntax"
cause_text Truncated = codes "Truncated"
cause_text LineTooLong = codes "LineTooLong"
cause_text BadName = codes "BadName"
cause_text PrivateName = codes "PrivateName"
cause_text NameTwice = codes "NameTwice"
cause_text UnknownWord = codes "UnknownWord"
cause_text AmbiguousWord = codes "AmbiguousWord"
cause_text UnbornHead = codes "UnbornHead"
cause_text NotACommit = codes "NotACommit"
cause_text NoSuchName = codes "NoSuchName"
cause_text Taken = codes "Taken"
cause_text NotExpected = codes "NotExpected"
cause_text Collides = codes "Collides"
cause_text HoldsTag = codes "HoldsTag"
cause_text TooManyParents = codes "TooManyParents"
cause_text DuplicateParent = codes "DuplicateParent"
cause_text BadPath = codes "BadPath"
cause_text IsFolder = codes "IsFolder"
cause_text NoSuchPath = codes "NoSuchPath"
cause_text BadActor = codes "BadActor"
cause_text BadTime = codes "BadTime"
cause_text BadMessage = codes "BadMessage"
cause_text TooLarge = codes "TooLarge"
cause_text NothingMoves = codes "NothingMoves"
cause_text OrderWithParents = codes "OrderWithParents"

abbrev pub fault_text : Fault → Bytes
fault_text Memory = codes "Memory"
fault_text File = codes "File"
fault_text IdTaken = codes "IdTaken"

abbrev pub count_word : {X : Type 0} → List X → Bytes
count_word xs = decimal (length xs)

abbrev pub ok : List Bytes → Part
ok words = Line (codes "ok" ∷ words)

-- an actor as a command spells it
abbrev pub spelled_actor : Actor → ActorLine
spelled_actor actor =
    record {
      name =
          actor.name;
      email = actor.email;
      seconds = decimal actor.seconds;
      offset = actor.offset;
    }

abbrev pub file_parts : FileLine → List Part
file_parts file =
    Line (kind_word file.kind ∷ hex file.id ∷ len_word file.path ∷ []) ∷ Field file.path ∷ []

abbrev pub commit_parts : CommitShown → List Part
commit_parts shown = ok (codes "show" ∷ codes "commit" ∷ hex shown.id ∷ [])
    ∷ Line (codes "tree" ∷ hex shown.tree ∷ [])
    ∷ Line (codes "parents" ∷ count_word shown.parents ∷ [])
    ∷ map (λ parent. Line (codes "parent" ∷ hex parent ∷ [])) shown.parents
    ++ actor_parts (codes "author") (spelled_actor shown.author)
    ++ actor_parts (codes "committer") (spelled_actor shown.committer)
    ++ message_parts shown.message

abbrev pub reply_text : Reply → Bytes
reply_text (RefusedFor cause) = parts_text (Line (codes "refused" ∷ cause_text cause ∷ []) ∷ [])
reply_text (Faulted fault) = parts_text (Line (codes "fault" ∷ fault_text fault ∷ []) ∷ [])
reply_text (Committed id) = parts_text (ok (codes "commit" ∷ hex id ∷ []) ∷ [])
reply_text (Tagged id) = parts_text (ok (codes "tag" ∷ hex id ∷ []) ∷ [])
reply_text Moved = parts_text (ok (codes "move" ∷ []) ∷ [])
reply_text Renamed = parts_text (ok (codes "rename" ∷ []) ∷ [])
reply_text Deleted = parts_text (ok (codes "delete" ∷ []) ∷ [])
reply_text Switched = parts_text (ok (codes "switch" ∷ []) ∷ [])
reply_text Packed = parts_text (ok (codes "pack" ∷ []) ∷ [])
reply_text (Indexed rows) = parts_text (ok (codes "index" ∷ decimal rows ∷ []) ∷ [])
reply_text (NamesAre branch names) = parts_text (ok (codes "names" ∷ count_word names ∷ branch ∷ [])
    ∷ map (λ entry. Line (hex entry.id ∷ hex entry.commit ∷ entry.name ∷ [])) names)
reply_text (LogIs ids) =
    parts_text (ok (codes "log" ∷ count_word ids ∷ []) ∷ map (λ id. Line (hex id ∷ [])) ids)
reply_text (FilesAre files) =
    parts_text (ok (codes "files" ∷ count_word files ∷ []) ∷ flat_map file_parts files)
reply_text (ShowsCommit shown) = parts_text (commit_parts shown)
reply_text (ShowsContent shown) =
    parts_text
    (ok
    (codes "show" ∷ codes "content" ∷ kind_word shown.kind ∷ hex shown.id ∷ len_word shown.bytes
    ∷ []) ∷ Field shown.bytes ∷ [])
reply_text (PastIs moves) =
    parts_text (ok (codes "past" ∷ count_word moves ∷ []) ∷ []) ++ flat_map log_line moves
