-- A line of a word, a space and an id in hexadecimal, as `tree`, `parent` and `object` begin it in
-- commits and tags (Git User Manual, "Commit Object" and "Tag Object"; git-mktag).
use Rattle.std.specs.Prelude.{ℕ, ◌≡◌, ◌≢◌, ◌==◌, Bool, ◌&&◌, ◌||◌, List, [], ◌∷◌, ◌++◌, length, IsTrue}
use Rattle.std.specs.List.{list_all}
use Rattle.std.specs.Char.{is_ascii_hexdigit}
use Rattle.gix_object_lines.specs.declared.decode.Error.{Error}
use Rattle.gix_object_lines.specs.declared.decode.Error.TheVariants.{FieldName, HexDigits, LineEnd, InvalidActor, InvalidTime, Memory}

abbrev pub is_hex : List ℕ → Bool
is_hex bytes = list_all is_ascii_hexdigit bytes

-- the digits of an id of a hash function
abbrev pub is_id : List ℕ → Bool
is_id digits = (length digits == 40 || length digits == 64) && is_hex digits

-- so many hexadecimal digits, in any letter case
abbrev pub IsHex : ℕ → List ℕ → Type 0
IsHex count digits = (length digits ≡ count) × IsTrue (is_hex digits)

abbrev pub hex_line : List ℕ → List ℕ → List ℕ
hex_line word digits = word ++ 32 ∷ digits ++ 10 ∷ []

-- the first part that the line lacks
abbrev pub HexLineFault : List ℕ → ℕ → List ℕ → Error → Type 0
HexLineFault word count input FieldName = (rest : List ℕ) → input ≢ word ++ 32 ∷ rest
HexLineFault word count input HexDigits = (rest : List ℕ) × (input ≡ word ++ 32 ∷ rest)
    × ((digits after : List ℕ) → IsHex count digits → rest ≢ digits ++ after)
HexLineFault word count input LineEnd =
    (digits rest : List ℕ) × (input ≡ word ++ 32 ∷ digits ++ rest) × IsHex count digits
    × ((after : List ℕ) → rest ≢ 10 ∷ after)
HexLineFault word count input InvalidActor = ⊥
HexLineFault word count input InvalidTime = ⊥
HexLineFault word count input Memory = ⊥
