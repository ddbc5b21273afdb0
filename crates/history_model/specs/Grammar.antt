-- The grammar of a stream: the texts of commands, one after another, and a rest that begins with
-- none.
use Rattle.std.specs.Prelude.{◌≡◌, ◌≢◌, ℕ, ◌+◌, ◌<◌, ◌≤◌, ◌⊎◌, Bool, ◌&&◌, List, [], ◌∷◌, ◌++◌, length, take, IsTrue, IsFalse}
use Rattle.history_model.specs.Bytes.{Bytes, has_byte, line}
use Rattle.history_model.specs.Commands.{Command}
use Rattle.history_model.specs.Spelling.{Part, Line, Field, parts_of, parts_text, part_text, spelling, has_spelling, max_line}
use Rattle.history_model.specs.Stage.{is_spoken}
use Rattle.history_model.specs.declared.Cause.{Cause}
use Rattle.history_model.specs.declared.Cause.TheVariants.{Syntax, Truncated, LineTooLong}

-- the command has a spelling and is offered
abbrev pub is_command : Command → Bool
is_command command = has_spelling command && is_spoken command

-- the bytes are the command's text
abbrev pub Spells : Bytes → Command → Type 0
Spells text command = IsTrue (is_command command) × (text ≡ spelling command)

-- ---- a grammar of some of the commands

-- after these parts a known command may continue with this one
pub record GoesOnOf (is_known : Command → Bool) (parts : List Part) (next : Part) : Type 0 where
  pub command : Command
  pub known : IsTrue (is_known command)
  pub more : List Part
  pub is : parts_of command ≡ parts ++ next ∷ more

module _ (is_known : Command → Bool) where
  -- after these parts a line may follow, or a field of n bytes
  abbrev pub LineStandsOf : List Part → Type 0
  LineStandsOf parts = (words : List Bytes) × GoesOnOf is_known parts (Line words)

  abbrev pub FieldStandsOf : List Part → ℕ → Type 0
  FieldStandsOf parts n =
      (bytes : Bytes) × (length bytes ≡ n) × GoesOnOf is_known parts (Field bytes)

  -- the line, given without its line feed, is one that may follow here
  abbrev pub LineFitsOf : List Part → Bytes → Type 0
  LineFitsOf parts text =
      (words : List Bytes) × (line text ≡ part_text (Line words))
      × GoesOnOf is_known parts (Line words)

  -- What follows these parts can't continue them, for this cause.
  abbrev pub StopsByOf : List Part → Bytes → Cause → Type 0
  -- the input ends inside a line or a field
  StopsByOf parts rest Truncated =
      (LineStandsOf parts × IsFalse (has_byte 10 rest) × (length rest ≤ max_line))
      ⊎ ((n : ℕ) × FieldStandsOf parts n × (length rest ≤ n))
  -- more bytes than a line may have, without a line feed
  StopsByOf parts rest LineTooLong =
      LineStandsOf parts × (max_line < length rest)
      × IsFalse (has_byte 10 (take (max_line + 1) rest))
  -- a whole line that may not follow here, or a field without its line feed
  StopsByOf parts rest Syntax =
      ((text more : Bytes) × LineStandsOf parts × (rest ≡ line text ++ more)
      × IsFalse (has_byte 10 text) × (length text ≤ max_line)
      × ¬ (LineFitsOf parts text))
      ⊎ ((bytes more : Bytes) × (byte : ℕ) × FieldStandsOf parts (length bytes)
      × (rest ≡ bytes ++ byte ∷ more) × (byte ≢ 10))
  StopsByOf parts rest _ = ⊥

-- the cause of a rest that is not empty and begins with no known command
pub record HasRestCauseOf (is_known : Command → Bool) (rest : Bytes) (cause : Cause) : Type 0 where
  pub some : rest ≢ []
  pub parts : List Part
  pub tail : Bytes
  pub split : rest ≡ parts_text parts ++ tail
  pub stops : StopsByOf is_known parts tail cause

-- ---- the grammar of the commands that are offered

abbrev pub HasRestCause : Bytes → Cause → Type 0
HasRestCause = HasRestCauseOf is_command
