-- The octal texts of modes.
use Rattle.std.specs.Prelude.{ℕ, ◌≡◌, ◌<◌, ◌≤◌, ◌==◌, ◌&&◌, false, Bool, List, [], ◌∷◌, length, slice_index, if◌then◌else◌}
use Rattle.std.specs.Fmt.{digits}
use Rattle.std.specs.Str.Parse.{IsNumeral, digits_value}
use Rattle.gix_object_tree.specs.declared.tree.mode.EntryMode.{EntryMode}

-- a mode's number, and whether a zero precedes it
pub record Mode : Type 0 where
  pub value : ℕ
  pub padded : Bool

abbrev pub mode_of : EntryMode → Mode
mode_of mode = record { value = mode.value; padded = mode.padded }

-- octal digits, after a zero if the mode has one
abbrev pub mode_text : Mode → List ℕ
mode_text mode = if mode.padded then 48 ∷ digits 8 false mode.value else digits 8 false mode.value

-- at most seven octal digits spell the mode's number; of zeros before it one before a tree's is
-- kept
pub record SpellsMode (text : List ℕ) (mode : Mode) : Type 0 where
  pub numeral : IsNumeral 8 text
  pub short : length text ≤ 7
  pub value : digits_value 8 text ≡ mode.value
  pub fits : mode.value < 65536
  pub padded : mode.padded ≡ ((slice_index text 0 == 48) && (mode.value == 16384))

abbrev pub SpellsNoMode : List ℕ → Type 0
SpellsNoMode text = (mode : Mode) → SpellsMode text mode → ⊥

-- the text before the first such byte, all of it if there is none
abbrev pub text_before : ℕ → List ℕ → List ℕ
text_before byte [] = []
text_before byte (x ∷ text) = if x == byte then [] else x ∷ text_before byte text
