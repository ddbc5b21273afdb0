-- A time as Git spells it: the seconds since 1970-01-01 in coordinated universal time, a space, and
-- how far local time is ahead of it, as a sign, two digits of hours and two of minutes
-- (git-fast-import, "Date formats", `raw`; the date formats of git-commit-tree, "Git internal
-- format").
use Rattle.std.specs.Prelude.{ℕ, ℤ, pos, negsuc, neg_ℤ, suc, ◌≡◌, ◌+◌, ◌*◌, ◌/◌, ◌%◌, ◌<◌, List, [], ◌∷◌, ◌++◌, FitsSigned, unsigned_abs}
use Rattle.std.specs.Fmt.{signed_decimal}
use Rattle.std.specs.Int.{w64}
use Rattle.std.specs.Str.Parse.{IsNumeral, digits_value}
use Rattle.gix_object_lines.specs.declared.lines.time.Time.{Time}

-- digits, or `-` and digits for a time before 1970; leading zeros say nothing
pub data SpellsSeconds (text : List ℕ) (seconds : ℤ) : Type 0 where
  Since : IsNumeral 10 text → seconds ≡ pos (digits_value 10 text) → SpellsSeconds text seconds
  Before : (digits : List ℕ) → text ≡ 45 ∷ digits → IsNumeral 10 digits
      → seconds ≡ neg_ℤ (pos (digits_value 10 digits)) → SpellsSeconds text seconds

-- a number below 100
abbrev pub two_digits : ℕ → List ℕ
two_digits n = (48 + n / 10) ∷ (48 + n % 10) ∷ []

-- `+` or `-`, two digits of hours and two of minutes, any four: `+0060` is an hour. `-0000` is zero
-- seconds.
pub data SpellsOffset (text : List ℕ) (offset : ℤ) : Type 0 where
  Ahead : (hours minutes : ℕ) → hours < 100 → minutes < 100
      → text ≡ 43 ∷ two_digits hours ++ two_digits minutes
      → offset ≡ pos (3600 * hours + 60 * minutes) → SpellsOffset text offset
  Behind : (hours minutes : ℕ) → hours < 100 → minutes < 100
      → text ≡ 45 ∷ two_digits hours ++ two_digits minutes
      → offset ≡ neg_ℤ (pos (3600 * hours + 60 * minutes)) → SpellsOffset text offset

-- the text spells the time
pub record SpellsTime (text : List ℕ) (time : Time) : Type 0 where
  pub front : List ℕ
  pub back : List ℕ
  pub spelled : text ≡ front ++ 32 ∷ back
  pub seconds : SpellsSeconds front time.seconds
  pub seconds_fit : FitsSigned w64 time.seconds
  pub offset : SpellsOffset back time.offset

-- ---- what is written

-- whole minutes, below 100 hours
abbrev pub IsSpellableOffset : ℤ → Type 0
IsSpellableOffset offset = (unsigned_abs offset % 60 ≡ 0) × (unsigned_abs offset < 360_000)

-- so many seconds as hours and minutes, which are below 60
abbrev pub clock_text : ℕ → List ℕ
clock_text seconds = two_digits (seconds / 3600) ++ two_digits (seconds / 60 % 60)

-- the sign is `-` for negative offsets only
abbrev pub offset_text : ℤ → List ℕ
offset_text (pos seconds) = 43 ∷ clock_text seconds
offset_text (negsuc seconds) = 45 ∷ clock_text (suc seconds)

-- without leading zeros
abbrev pub time_text : Time → List ℕ
time_text time = signed_decimal time.seconds ++ 32 ∷ offset_text time.offset
