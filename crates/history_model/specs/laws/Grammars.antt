-- Laws of a grammar of some of the commands, also of that of all.
use Rattle.std.specs.Prelude.{◌≡◌, ◌≢◌, ◌⊎◌, Bool, [], ◌++◌, IsTrue}
use Rattle.history_model.specs.Bytes.{Bytes}
use Rattle.history_model.specs.Commands.{Command}
use Rattle.history_model.specs.Spelling.{spelling}
use Rattle.history_model.specs.declared.Cause.{Cause}
use Rattle.history_model.specs.Grammar.{HasRestCauseOf}

-- no command's text begins another's
abbrev pub IsPrefixFree : (Command → Bool) → Type 0
IsPrefixFree is_known = (a b : Command) (x y : Bytes) → IsTrue (is_known a) → IsTrue (is_known b)
    → spelling a ++ x ≡ spelling b ++ y → (a ≡ b) × (x ≡ y)

-- a rest has at most one cause, and none if it begins with a command
abbrev pub HasOneRestCause : (Command → Bool) → Type 0
HasOneRestCause is_known =
    (rest : Bytes) (x y : Cause) → HasRestCauseOf is_known rest x → HasRestCauseOf is_known rest y
    → x ≡ y

abbrev pub RestBeginsWithNone : (Command → Bool) → Type 0
RestBeginsWithNone is_known = (rest more : Bytes) (cause : Cause) (command : Command)
    → HasRestCauseOf is_known rest cause → IsTrue (is_known command)
    → rest ≡ spelling command ++ more → ⊥

-- a rest that isn't empty begins with a command or has a cause
abbrev pub RestBeginsOrHasCause : (Command → Bool) → Type 0
RestBeginsOrHasCause is_known = (rest : Bytes) → rest ≢ []
    → ((command : Command) × (more : Bytes) × IsTrue (is_known command)
    × (rest ≡ spelling command ++ more)) ⊎ ((cause : Cause) × HasRestCauseOf is_known rest cause)
