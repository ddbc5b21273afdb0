-- The first lines that are offered at this stage. The other modules define all commands; to offer
-- more, only this one is widened: the grammar and its table of lines each use it at one place.
use Rattle.std.specs.Prelude.{Bool, true, false}
use Rattle.history_model.specs.Commands.{Command}
use Rattle.history_model.specs.Lines.{Heading, CommitHeading, MoveHeading, RenameHeading, DeleteHeading, PackHeading, NamesHeading, FilesHeading, PastHeading, LogHeading, ShowHeading, SwitchHeading, TagHeading, IndexHeading, first_line}

-- The lines that may begin a command: those of `commit`, `tag`, `move`, `rename`, `delete`,
-- `switch`, `pack` and `index`, and of the commands that only read: `names`, `files`, `past`, `log`
-- and `show`. The grammar of a stream allows no other there.
abbrev pub opens : Heading → Bool
opens (CommitHeading name expect) = true
opens (TagHeading name expect word) = true
opens MoveHeading = true
opens (RenameHeading old new) = true
opens (DeleteHeading name at) = true
opens (SwitchHeading name) = true
opens PackHeading = true
opens IndexHeading = true
opens (NamesHeading folder) = true
opens (FilesHeading word) = true
opens (PastHeading name) = true
opens (LogHeading order first_parents items paths) = true
opens (ShowHeading word path) = true
opens _ = false

abbrev pub is_spoken : Command → Bool
is_spoken command = opens (first_line command)
