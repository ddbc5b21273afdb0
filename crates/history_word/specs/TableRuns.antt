-- Running the table of lines over the parts of a command: how far they lead, and what then may
-- follow.
use Rattle.std.specs.Prelude.{◌≡◌, ◌≢◌, ◌↔◌, ℕ, ◌+◌, ◌<◌, ◌≤◌, Bool, true, ◌&&◌, List, [], ◌∷◌, ◌++◌, length, take, ◌==◌, Option, Some, None, option_map, if◌then◌else◌, IsTrue, IsFalse}
use Rattle.std.specs.List.{join_with_byte}
use Rattle.std.specs.Option.{option_and_then}
use Rattle.history_model.specs.Bytes.{Bytes, has_byte, line}
use Rattle.history_model.specs.Commands.{Command}
use Rattle.history_model.specs.Spelling.{Part, Line, Field, is_part, parts_of, has_spelling, max_line}
use Rattle.history_model.specs.Lines.{Heading, first_line}
use Rattle.history_model.specs.LineWords.{words_of, sizes, are_sizes}
use Rattle.history_model.specs.Stage.{opens}
use Rattle.history_model.specs.Grammar.{GoesOnOf, LineStandsOf, FieldStandsOf, LineFitsOf, StopsByOf}
use Rattle.history_word.specs.LineTable.{heading_of, Place, Start, Done, next}
use Rattle.history_model.specs.declared.Cause.{Cause}
use Rattle.history_model.specs.declared.Cause.TheVariants.{Syntax, Truncated, LineTooLong}

-- how far a command has come: the lengths of the fields that come next, and the place of the line
-- after
pub record Progress : Type 0 where
  pub fields : List ℕ
  pub place : Place

abbrev pub at : List ℕ → Place → Progress
at fields place = record { fields = fields; place = place }

abbrev pub begin : Progress
begin = at [] Start

abbrev pub done : Progress
done = at [] Done

-- ---- over the commands whose first lines are known

module _ (is_known : Heading → Bool) where
  -- A line that begins no known command may not be at the start.
  abbrev pub next_of : Place → Heading → Option Place
  next_of Start heading = if is_known heading then next Start heading else None
  next_of place heading = next place heading

  abbrev pub after_line_of : Place → Heading → Option Progress
  after_line_of place heading =
      option_map (λ following. at (sizes heading) following) (next_of place heading)

  -- one more part: a line that the table has here, or a field of the awaited length
  abbrev pub part_step_of : List ℕ → Place → Part → Option Progress
  part_step_of [] place (Line words) =
      if is_part (Line words) then option_and_then (after_line_of place) (heading_of words)
      else None
  part_step_of [] place (Field bytes) = None
  part_step_of (size ∷ fields) place (Line words) = None
  part_step_of (size ∷ fields) place (Field bytes) =
      if length bytes == size then Some (at fields place) else None

  abbrev pub run_from_of : Progress → List Part → Option Progress
  run_from_of progress [] = Some progress
  run_from_of progress (part ∷ parts) =
      option_and_then (λ after. run_from_of after parts)
      (part_step_of progress.fields progress.place part)

  -- how far these parts lead, if some command may begin with them
  abbrev pub reached_of : List Part → Option Progress
  reached_of parts = run_from_of begin parts

  abbrev pub LeadsOf : List Part → List ℕ → Place → Type 0
  LeadsOf parts fields place = reached_of parts ≡ Some (at fields place)

-- the line, without its line feed, is one that the table has at this place
pub record IsLineAtOf (is_known : Heading → Bool) (place : Place) (text : Bytes) : Type 0 where
  pub heading : Heading
  pub spelled : text ≡ join_with_byte 32 (words_of heading)
  pub known : IsTrue (is_part (Line (words_of heading)))
  pub sized : IsTrue (are_sizes (sizes heading))
  pub following : Place
  pub stands : next_of is_known place heading ≡ Some following

module _ (is_known : Heading → Bool) where
  -- What follows can't continue from here, for this cause.
  abbrev pub StopsAtOf : List ℕ → Place → Bytes → Cause → Type 0
  -- if a line is awaited
  StopsAtOf [] place tail Truncated =
      (place ≢ Done) × IsFalse (has_byte 10 tail) × (length tail ≤ max_line)
  StopsAtOf [] place tail LineTooLong =
      (place ≢ Done) × (max_line < length tail) × IsFalse (has_byte 10 (take (max_line + 1) tail))
  StopsAtOf [] place tail Syntax = (place ≢ Done)
      × ((text more : Bytes) × (tail ≡ line text ++ more) × IsFalse (has_byte 10 text)
      × (length text ≤ max_line) × ¬ (IsLineAtOf is_known place text))
  -- if a field is awaited
  StopsAtOf (size ∷ fields) place tail Truncated = length tail ≤ size
  StopsAtOf (size ∷ fields) place tail Syntax =
      (bytes more : Bytes) × (byte : ℕ) × (length bytes ≡ size)
      × (tail ≡ bytes ++ byte ∷ more) × (byte ≢ 10)
  StopsAtOf fields place tail cause = ⊥

-- ---- over those that are offered

abbrev pub next_offered : Place → Heading → Option Place
next_offered = next_of opens

abbrev pub run_from : Progress → List Part → Option Progress
run_from = run_from_of opens

abbrev pub reached : List Part → Option Progress
reached = reached_of opens

abbrev pub IsLineAt : Place → Bytes → Type 0
IsLineAt = IsLineAtOf opens

abbrev pub StopsAt : List ℕ → Place → Bytes → Cause → Type 0
StopsAt = StopsAtOf opens

-- ---- what the table says, also over all commands

abbrev pub all_lines : Heading → Bool
all_lines heading = true

module _ (is_known : Heading → Bool) where
  -- the command has a spelling, and begins with a known line
  abbrev pub is_told : Command → Bool
  is_told command = has_spelling command && is_known (first_line command)

  -- Parts lead to the end exactly if they are those of a command.
  abbrev pub TableTellsCommands : Type 0
  TableTellsCommands = (parts : List Part) → LeadsOf is_known parts [] Done
      ↔ ((command : Command) × IsTrue (is_told command) × (parts_of command ≡ parts))

  -- Some command continues with a part exactly if the table has a step for it.
  abbrev pub TableTellsWhatGoesOn : Type 0
  TableTellsWhatGoesOn = (parts : List Part) (part : Part) → GoesOnOf is_told parts part
      ↔ ((progress : Progress) × (reached_of is_known (parts ++ part ∷ []) ≡ Some progress))

  -- if fields are awaited, some command has a field of the first's length
  abbrev pub TableTellsFields : Type 0
  TableTellsFields = (parts : List Part) (size : ℕ) (fields : List ℕ) (place : Place)
      → LeadsOf is_known parts (size ∷ fields) place → FieldStandsOf is_told parts size

  -- if no field is awaited and the command isn't done, some command has a line
  abbrev pub TableTellsLines : Type 0
  TableTellsLines = (parts : List Part) (place : Place)
      → LeadsOf is_known parts [] place → place ≢ Done → LineStandsOf is_told parts

  abbrev pub TableTellsWhatFits : Type 0
  TableTellsWhatFits = (parts : List Part) (place : Place) → LeadsOf is_known parts [] place
      → (text : Bytes) → LineFitsOf is_told parts text ↔ IsLineAtOf is_known place text

  -- The cause for which a rest can't continue is determined by the progress alone.
  abbrev pub TableTellsStops : Type 0
  TableTellsStops = (parts : List Part) (fields : List ℕ) (place : Place)
      → LeadsOf is_known parts fields place → (tail : Bytes) (cause : Cause)
      → StopsByOf is_told parts tail cause ↔ StopsAtOf is_known fields place tail cause

  -- A line of the table, and a field of the awaited length, lead on.
  abbrev pub TableTakesLines : Type 0
  TableTakesLines = (parts : List Part) (place following : Place) (heading : Heading)
      → LeadsOf is_known parts [] place → next_of is_known place heading ≡ Some following
      → IsTrue (is_part (Line (words_of heading))) → IsTrue (are_sizes (sizes heading))
      → LeadsOf is_known (parts ++ Line (words_of heading) ∷ []) (sizes heading) following

  abbrev pub TableTakesFields : Type 0
  TableTakesFields = (parts : List Part) (bytes : Bytes) (fields : List ℕ) (place : Place)
      → LeadsOf is_known parts (length bytes ∷ fields) place
      → LeadsOf is_known (parts ++ Field bytes ∷ []) fields place
