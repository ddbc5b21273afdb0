-- Which texts are logs, and what is wrong with others ("Logging updates" in git-update-ref(1)).
use Rattle.std.specs.Prelude.{◌≡◌, ◌≢◌, ◌<◌, ◌≤◌, ◌+◌, ℕ, ⊤, Bool, true, false, List, [], ◌∷◌, ◌++◌, length, take, Option, Some, None, IsTrue, IsFalse}
use Rattle.std.specs.List.{flat_map, list_all}
use Rattle.gix_hash.specs.declared.kind.Kind.{Kind}
use Rattle.gix_hash.specs.Id.{Id}
use Rattle.history_model.specs.Bytes.{Bytes, line, has_byte}
use Rattle.history_model.specs.Forms.{is_id, is_log_entry}
use Rattle.history_model.specs.Logs.{log_line, log_text}
use Rattle.history_model.specs.Objects.{hex}
use Rattle.history_model.specs.Repository.{LogEntry}
use Rattle.history_check_names.specs.declared.log.LineParts.{LineParts}
use Rattle.history_check_names.specs.declared.log.LogFault.{LogFault}
use Rattle.history_check_names.specs.declared.log.LogFault.TheVariants.{Bad, Long, Memory}

-- the most bytes of a line that is read, with its line feed
abbrev pub max_log_line : ℕ
max_log_line = 4_096

-- the most bytes that are read at once
abbrev pub max_piece : ℕ
max_piece = 65_536

-- The text is the log of moves in their written form.
pub record SpellsLog (kind : Kind) (text : Bytes) : Type 0 where
  pub moves : List LogEntry
  pub formed : IsTrue (list_all (is_log_entry kind) moves)
  pub told : text ≡ log_text moves

-- the text begins with no move's line
abbrev pub BeginsWithNoLine : Kind → Bytes → Type 0
BeginsWithNoLine kind text =
    (entry : LogEntry) (more : Bytes) → IsTrue (is_log_entry kind entry)
    → text ≢ log_line entry ++ more

-- the first line of the text is longer than any that is read
pub record BeginsWithLongLine (text : Bytes) : Type 0 where
  pub longer : max_log_line < length text
  pub endless : IsFalse (has_byte 10 (take max_log_line text))

-- The lines before the one of this number, counted from 1, are moves', and this holds of the text
-- from it on.
pub record FailsAt (kind : Kind) (text : Bytes) (number : ℕ) (Wrong : Bytes → Type 0) : Type 0 where
  pub before : List LogEntry
  pub rest : Bytes
  pub formed : IsTrue (list_all (is_log_entry kind) before)
  pub cut : text ≡ flat_map log_line before ++ rest
  pub number_is : number ≡ length before + 1
  pub some : rest ≢ []
  pub wrong : Wrong rest

abbrev pub HasBadLine : Kind → Bytes → ℕ → Type 0
HasBadLine kind text number = FailsAt kind text number (BeginsWithNoLine kind)

abbrev pub HasLongLine : Kind → Bytes → ℕ → Type 0
HasLongLine kind text number = FailsAt kind text number BeginsWithLongLine

abbrev pub HasFault : Kind → Bytes → LogFault → Type 0
HasFault kind text (Bad number) = HasBadLine kind text number
HasFault kind text (Long number) = HasLongLine kind text number
HasFault kind text Memory = ⊤

-- what is found in a text: that it is a log, or what is wrong with it
abbrev pub IsFoundIn : Kind → Bytes → Option LogFault → Type 0
IsFoundIn kind text None = SpellsLog kind text
IsFoundIn kind text (Some fault) = HasFault kind text fault

-- ---- pieces

-- The first lines of a log, so many, are those of moves, and this is the rest.
pub record BeginsWithMoves (kind : Kind) (log rest : Bytes) (lines : ℕ) : Type 0 where
  pub moves : List LogEntry
  pub formed : IsTrue (list_all (is_log_entry kind) moves)
  pub cut : log ≡ flat_map log_line moves ++ rest
  pub lines_are : lines ≡ length moves

-- a piece of a log is longer than a line may be, or nothing follows it
abbrev pub IsPiece : Bytes → Bytes → Type 0
IsPiece piece more = (piece ≢ []) × (length piece ≤ max_log_line → more ≡ [])

-- what is wrong with a text that has no line feed
abbrev pub IsEndless : Bytes → ℕ → LogFault → Type 0
IsEndless text number (Bad at) = (at ≡ number) × (length text ≤ max_log_line)
IsEndless text number (Long at) = (at ≡ number) × (max_log_line < length text)
IsEndless text number Memory = ⊥

-- ---- one line

-- whether the text, without a line feed, is a move's line
abbrev pub SpellsEntry : Kind → Bytes → Bool → Type 0
SpellsEntry kind text true =
    (entry : LogEntry) × IsTrue (is_log_entry kind entry) × (line text ≡ log_line entry)
SpellsEntry kind text false =
    (entry : LogEntry) → IsTrue (is_log_entry kind entry) → line text ≢ log_line entry

-- what is wrong with the line of this number, without its line feed
abbrev pub IsLineFault : Kind → Bytes → ℕ → LogFault → Type 0
IsLineFault kind text number (Bad at) = (at ≡ number) × SpellsEntry kind text false
IsLineFault kind text number (Long at) = (at ≡ number) × (max_log_line ≤ length text)
IsLineFault kind text number Memory = ⊤

-- ---- its parts

pub record Parts : Type 0 where
  pub before : Bytes
  pub after : Bytes
  pub actor : Bytes
  pub message : Bytes

abbrev pub parts_of : LineParts → Parts
parts_of parts =
    record {
      before =
          parts.before.now;
      after = parts.after.now;
      actor = parts.actor.now;
      message = parts.message.now;
    }

-- the text is these parts: no space is in the first two, and no tab in the third
pub record AreParts (parts : Parts) (text : Bytes) : Type 0 where
  pub spelled : text
      ≡ parts.before ++ 32 ∷ (parts.after ++ 32 ∷ (parts.actor ++ 9 ∷ parts.message))
  pub before : IsFalse (has_byte 32 parts.before)
  pub after : IsFalse (has_byte 32 parts.after)
  pub actor : IsFalse (has_byte 9 parts.actor)

abbrev pub IsUncut : Bytes → Type 0
IsUncut text = (parts : Parts) → AreParts parts text → ⊥

-- whether the text is an id's hex digits, in lower case
abbrev pub SpellsLower : Kind → Bytes → Type 0
SpellsLower kind text = (id : Id) × IsTrue (is_id kind id) × (text ≡ hex id)

-- whether it is
abbrev pub TellsLower : Kind → Bytes → Bool → Type 0
TellsLower kind text true = SpellsLower kind text
TellsLower kind text false = SpellsLower kind text → ⊥

-- whether the first two parts are
abbrev pub TellsIds : Kind → Parts → Bool → Type 0
TellsIds kind parts true = SpellsLower kind parts.before × SpellsLower kind parts.after
TellsIds kind parts false = SpellsLower kind parts.before → SpellsLower kind parts.after → ⊥
