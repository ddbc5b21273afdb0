-- How digits are spelled in reverse hexadecimal: a letter for each.
use Rattle.std.specs.Prelude.{ℕ, ◌≡◌, ◌-◌, nat_le, ◌&&◌, List, map, Option, Some, None, if◌then◌else◌, length}
use Rattle.gix_hash.specs.Kind.{hex_len}
use Rattle.gix_hash.specs.Id.{Id}

-- the character of a digit in reverse hexadecimal: the letter so many places before `z` (122), so
-- `z` for 0 and `k` for 15
abbrev pub reverse_character : ℕ → ℕ
reverse_character d = 122 - d

-- digits in reverse hexadecimal
abbrev pub reverse_hex_text : List ℕ → List ℕ
reverse_hex_text digits = map reverse_character digits

-- the value of a reverse digit, in either case: `k` to `z` are 107 to 122, and `K` to `Z` 75 to 90
abbrev pub reverse_digit_value : ℕ → Option ℕ
reverse_digit_value c =
    if nat_le 107 c && nat_le c 122 then Some (122 - c)
    else if nat_le 75 c && nat_le c 90 then Some (90 - c)
    else None

-- a text is reverse hexadecimal for these digits, in any letter case
abbrev pub IsReverseHexOf : List ℕ → List ℕ → Type 0
IsReverseHexOf text digits = map reverse_digit_value text ≡ map (λ (d : ℕ). Some d) digits

-- the text is an id's digits in full, in reverse hexadecimal of any letter case
pub record IsReverseHexOfId (text : List ℕ) (id : Id) : Type 0 where
  pub whole : length text ≡ hex_len id.kind
  pub spelled : IsReverseHexOf text id.digits
