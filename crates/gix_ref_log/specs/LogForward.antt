-- Logs that are read from their beginning.
use Rattle.std.specs.Prelude.{ℕ, ◌≡◌, List, [], ◌∷◌, Option, None, Some, Result, Ok, Err}
use Rattle.std.specs.List.{slice_split}
use Rattle.std.specs.Option.{option_map}
use Rattle.gix_object_lines.specs.Counts.{one_more}
use Rattle.gix_ref_log.specs.LogLine.{SpellsLine, IsNoLine, is_feed}
use Rattle.gix_ref_log.specs.LogViews.{parts_of}
use Rattle.gix_ref_log.specs.declared.line.LineRef.{LineRef}
use Rattle.gix_ref_log.specs.declared.iter.lines.Forward.{Forward}
use Rattle.gix_ref_log.specs.declared.iter.decode.Error.{Error}
use Rattle.gix_ref_log.specs.declared.iter.decode.LineNumber.TheVariants.{FromStart}

-- the lines that are left, the next first, and how many were given
pub record Lines : Type 0 where
  pub left : List (List ℕ)
  pub given : ℕ

abbrev pub lines_of_rest : Option (List ℕ) → List (List ℕ)
lines_of_rest None = []
lines_of_rest (Some text) = slice_split is_feed text

abbrev pub lines_left : Forward → List (List ℕ)
lines_left reader = lines_of_rest (option_map (λ text. text.now) reader.rest)

abbrev pub lines_of : Forward → Lines
lines_of reader = record { left = lines_left reader; given = reader.given }

-- what the line says, or an error with its number if it says nothing
abbrev pub TellsLine : ℕ → List ℕ → Result LineRef Error → Type 0
TellsLine number line (Ok read) = SpellsLine line (parts_of read)
TellsLine number line (Err error) = IsNoLine line × (error.line ≡ FromStart number)

-- the next line comes, and nothing if none is left
abbrev pub GivesLine : Lines → Option (Result LineRef Error) → Lines → Type 0
GivesLine before None after = (before.left ≡ []) × (after ≡ before)
GivesLine before (Some item) after = (line : List ℕ) × (before.left ≡ line ∷ after.left)
    × (after.given ≡ one_more before.given) × TellsLine after.given line item
