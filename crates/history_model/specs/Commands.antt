-- The commands. Words, paths and messages are the bytes that were sent.
use Rattle.std.specs.Prelude.{Bool, List, Option}
use Rattle.history_model.specs.Bytes.{Bytes}
use Rattle.history_model.specs.declared.FileKind.{FileKind}

-- what is expected of a name: nothing, that it doesn't exist, or that it is at a word's commit
pub data Expect : Type 0 where
  Any : Expect
  New : Expect
  At : Bytes → Expect

pub record ActorLine : Type 0 where
  pub name : Bytes
  pub email : Bytes
  pub seconds : Bytes
  pub offset : Bytes

-- an edit as it was sent: a file's kind, path and content; a path; or, for a graft, a path, the
-- word of another commit, and a source among its files, empty for all of them
pub data EditLine : Type 0 where
  PutLine : FileKind → Bytes → Bytes → EditLine
  RemoveLine : Bytes → EditLine
  RemoveFileLine : Bytes → EditLine
  GraftLine : Bytes → Bytes → Bytes → EditLine

-- the parents are words
pub record CommitCommand : Type 0 where
  pub name : Bytes
  pub expect : Expect
  pub parents : List Bytes
  pub edits : List EditLine
  pub author : ActorLine
  pub committer : ActorLine
  pub message : Bytes

pub record TagCommand : Type 0 where
  pub name : Bytes
  pub expect : Expect
  pub word : Bytes
  pub tagger : ActorLine
  pub message : Bytes

-- one line `to` of a move
pub record To : Type 0 where
  pub name : Bytes
  pub expect : Expect
  pub word : Bytes

pub record MoveCommand : Type 0 where
  pub to : List To
  pub actor : ActorLine
  pub message : Bytes

pub data Order : Type 0 where
  Breadth : Order
  Newest : Order
  Oldest : Order
  NewestSince : Bytes → Order
  OldestSince : Bytes → Order
  Date : Order
  Topological : Order

-- a word at whose commit a log begins, or one whose commit is hidden with all that it reaches
pub data LogItem : Type 0 where
  Tip : Bytes → LogItem
  Hidden : Bytes → LogItem

pub record LogCommand : Type 0 where
  pub order : Order
  pub first_parents : Bool
  pub items : List LogItem
  pub paths : List Bytes

pub data Command : Type 0 where
  Commit : CommitCommand → Command
  Tag : TagCommand → Command
  Move : MoveCommand → Command
  -- from, to
  Rename : Bytes → Bytes → Command
  -- the word whose commit the name must be at, if one is given
  Delete : Bytes → Option Bytes → Command
  Switch : Bytes → Command
  Pack : Command
  Index : Command
  -- the folder whose names are listed, if one is given
  Names : Option Bytes → Command
  Files : Bytes → Command
  Past : Bytes → Command
  Log : LogCommand → Command
  -- a word, and a path, if one is given
  Show : Bytes → Option Bytes → Command
