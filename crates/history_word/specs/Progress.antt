-- When what came can't continue as a command, and for which cause.
use Rattle.std.specs.Prelude.{◌≡◌, ◌≢◌, ℕ, ◌<◌, ◌≤◌, List, [], ◌∷◌, ◌++◌, ◌+◌, length, take, slice_index, Some}
use Rattle.history_model.specs.Bytes.{Bytes}
use Rattle.history_model.specs.Spelling.{Part, parts_text, max_line}
use Rattle.history_model.specs.Grammar.{HasRestCause}
use Rattle.history_word.specs.LineTable.{Place}
use Rattle.history_word.specs.TableRuns.{Progress, run_from, StopsAt}
use Rattle.history_model.specs.declared.Cause.{Cause}
use Rattle.history_model.specs.declared.Cause.TheVariants.{Syntax, Truncated, LineTooLong}
use Rattle.history_word.specs.Held.{IsUnbroken}

-- the bytes don't begin with a line of an allowed length
abbrev pub IsEndless : Bytes → Cause → Type 0
IsEndless bytes Truncated = IsUnbroken bytes × (length bytes ≤ max_line)
IsEndless bytes LineTooLong = (max_line < length bytes) × IsUnbroken (take (max_line + 1) bytes)
IsEndless bytes _ = ⊥

-- a field of this size isn't whole, or no line feed follows it
abbrev pub IsNoField : ℕ → Bytes → Cause → Type 0
IsNoField size bytes Truncated = length bytes ≤ size
IsNoField size bytes Syntax = (size < length bytes) × (slice_index bytes size ≢ 10)
IsNoField size bytes _ = ⊥

-- some parts continue from here, and then none does
pub record StopsFrom (fields : List ℕ) (place : Place) (bytes : Bytes)
    (cause : Cause) : Type 0 where
  pub parts : List Part
  pub tail : Bytes
  pub then : Progress
  pub runs : run_from (record { fields = fields; place = place }) parts ≡ Some then
  pub split : bytes ≡ parts_text parts ++ tail
  pub stops : StopsAt then.fields then.place tail cause

-- the cause of what came; no bytes at all are cut short
abbrev pub IsCauseOf : Bytes → Cause → Type 0
IsCauseOf [] cause = cause ≡ Truncated
IsCauseOf (b ∷ bytes) cause = HasRestCause (b ∷ bytes) cause
