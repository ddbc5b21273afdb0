-- What the parts of the reader return for words without an action.
use Rattle.std.specs.Prelude.{◌≢◌, ⊤, List, Option, Result, MatchOption, MatchResult}
use Rattle.clap.specs.Words.{Row, Text}
use Rattle.clap.specs.declared.error.ErrorKind.{ErrorKind}
use Rattle.clap.specs.declared.error.ErrorKind.TheVariants.{OutOfMemory}
use Rattle.history_actions.specs.Line.{IsAskedBy, IsRequest}
use Rattle.history_actions.specs.declared.command_line.asked.AskError.{AskError}
use Rattle.history_actions.specs.declared.command_line.asked.AskError.TheVariants.{Help, Line, Memory}
use Rattle.history_actions.specs.declared.command_line.asked.Asked.{Asked}

-- what is returned for an error of `clap` of this kind
abbrev pub Tells : ErrorKind → AskError → Type 0
Tells kind (Help text) = IsRequest kind
Tells kind (Line text) = (¬ IsRequest kind) × (kind ≢ OutOfMemory)
Tells kind Memory = ⊤

abbrev pub IsNoHelp : AskError → Type 0
IsNoHelp (Help text) = ⊥
IsNoHelp (Line text) = ⊤
IsNoHelp Memory = ⊤

-- no action with a folder is among what the words enter
abbrev pub IsNothing : Option (Text × List Row) → AskError → Type 0
IsNothing found (Help text) = ⊥
IsNothing found (Line text) = (asked : Asked) → MatchOption found ⊥ (IsAskedBy asked) → ⊥
IsNothing found Memory = ⊤

-- what the entered words mean
abbrev pub IsEntered : Option (Text × List Row) → Result Asked AskError → Type 0
IsEntered found read =
    MatchResult read (λ asked. MatchOption found ⊥ (IsAskedBy asked)) (IsNothing found)
