-- How digits are spelled: a character for each.
use Rattle.std.specs.Prelude.{ℕ, ◌≡◌, List, map, slice_index, Some}
use Rattle.hex.specs.Hex.{lower_digits, hex_digit_value}

-- the character of a digit: `0` to `9`, then `a` to `f`
abbrev pub hex_character : ℕ → ℕ
hex_character d = slice_index lower_digits d

-- digits in lower-case hexadecimal
abbrev pub hex_text : List ℕ → List ℕ
hex_text digits = map hex_character digits

-- a text is hexadecimal for these digits, in any letter case
abbrev pub IsHexOf : List ℕ → List ℕ → Type 0
IsHexOf text digits = map hex_digit_value text ≡ map (λ (d : ℕ). Some d) digits
