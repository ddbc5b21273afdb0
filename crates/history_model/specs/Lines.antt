-- The lines of the command grammar: what each says, and the first line of each command.
use Rattle.std.specs.Prelude.{ℕ, Bool, List, [], length, map, Option, option_map}
use Rattle.history_model.specs.Bytes.{Bytes}
use Rattle.history_model.specs.Commands.{Command, Commit, Tag, Move, Rename, Delete, Switch, Pack, Index, Names, Files, Past, Log, Show, Expect, Order, LogItem}
use Rattle.history_model.specs.declared.FileKind.{FileKind}

pub data Role : Type 0 where
  Author : Role
  Committer : Role
  Tagger : Role
  -- of a move
  Mover : Role

-- What a line says. A number is the length of a field that follows the line.
pub data Heading : Type 0 where
  CommitHeading : (name : Bytes) → (expect : Expect) → Heading
  ParentHeading : (word : Bytes) → Heading
  PutHeading : (kind : FileKind) → (path : ℕ) → (content : ℕ) → Heading
  RemoveHeading : (path : ℕ) → Heading
  RemoveFileHeading : (path : ℕ) → Heading
  GraftHeading : (path : ℕ) → (word : Bytes) → (source : ℕ) → Heading
  ActorHeading : (role : Role) → (name : ℕ) → (email : ℕ) → (seconds : Bytes) → (offset : Bytes)
      → Heading
  MessageHeading : (message : ℕ) → Heading
  EndHeading : Heading
  TagHeading : (name : Bytes) → (expect : Expect) → (word : Bytes) → Heading
  MoveHeading : Heading
  ToHeading : (name : Bytes) → (expect : Expect) → (word : Bytes) → Heading
  RenameHeading : (old : Bytes) → (new : Bytes) → Heading
  DeleteHeading : (name : Bytes) → (at : Option Bytes) → Heading
  SwitchHeading : (name : Bytes) → Heading
  PackHeading : Heading
  IndexHeading : Heading
  NamesHeading : (folder : Option Bytes) → Heading
  FilesHeading : (word : Bytes) → Heading
  PastHeading : (name : Bytes) → Heading
  LogHeading : (order : Order) → (first_parents : Bool) → (items : List LogItem)
      → (paths : List ℕ) → Heading
  ShowHeading : (word : Bytes) → (path : Option ℕ) → Heading

-- the first line of a command
abbrev pub first_line : Command → Heading
first_line (Commit c) = CommitHeading c.name c.expect
first_line (Tag c) = TagHeading c.name c.expect c.word
first_line (Move c) = MoveHeading
first_line (Rename old new) = RenameHeading old new
first_line (Delete name at) = DeleteHeading name at
first_line (Switch name) = SwitchHeading name
first_line Pack = PackHeading
first_line Index = IndexHeading
first_line (Names folder) = NamesHeading folder
first_line (Files word) = FilesHeading word
first_line (Past name) = PastHeading name
first_line (Log c) = LogHeading c.order c.first_parents c.items (map length c.paths)
first_line (Show word path) = ShowHeading word (option_map length path)
