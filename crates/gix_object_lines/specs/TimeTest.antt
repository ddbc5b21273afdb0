-- Whether a text spells a time, as a test. The contract of `lines::tells_time` says that the test
-- is the grammar in `Time`.
use Rattle.std.specs.Prelude.{ℕ, Bool, false, not, ◌&&◌, ◌||◌, ◌==◌, ◌+◌, ◌^◌, ◌-◌, nat_lt, List, [], ◌∷◌, length, take, drop, if◌then◌else◌}
use Rattle.std.specs.List.{list_all}
use Rattle.std.specs.Char.{is_ascii_digit}
use Rattle.std.specs.Str.Parse.{digits_value}

-- some digits, of a number below the limit
abbrev pub is_number_below : ℕ → List ℕ → Bool
is_number_below limit digits =
    not (length digits == 0)
    && (list_all is_ascii_digit digits && nat_lt (digits_value 10 digits) limit)

-- digits, or `-` and digits, of a number of 64 bits
abbrev pub is_seconds : List ℕ → Bool
is_seconds [] = false
is_seconds (byte ∷ digits) =
    if byte == 45 then is_number_below (2 ^ 63 + 1) digits
    else is_number_below (2 ^ 63) (byte ∷ digits)

-- a space, `+` or `-`, and four digits
abbrev pub is_offset : List ℕ → Bool
is_offset [] = false
is_offset (space ∷ []) = false
is_offset (space ∷ (sign ∷ digits)) =
    space == 32
    && ((sign == 43 || sign == 45) && (length digits == 4 && list_all is_ascii_digit digits))

-- the offset is the last six bytes
abbrev pub tells_time : List ℕ → Bool
tells_time text =
    let cut = length text - 6 in is_seconds (take cut text) && is_offset (drop cut text)
