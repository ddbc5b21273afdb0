-- Hours and minutes, as an offset has them after its sign.
use Rattle.std.specs.Prelude.{ℕ, ℤ, pos, ◌≡◌, ◌+◌, ◌*◌, ◌<◌, List, ◌++◌}
use Rattle.gix_object_lines.specs.Time.{two_digits}

-- the four digits are so many seconds
pub record SpellsClock (digits : List ℕ) (amount : ℤ) : Type 0 where
  pub hours : ℕ
  pub minutes : ℕ
  pub hours_low : hours < 100
  pub minutes_low : minutes < 100
  pub spelled : digits ≡ two_digits hours ++ two_digits minutes
  pub amount_is : amount ≡ pos (3600 * hours + 60 * minutes)
