-- Which day and time of day a second is.
use Rattle.std.proofs.Common.{◌≡◌, ◌+◌, ◌*◌, refl, arith, ℤ, pos, negsuc, ◌+ℤ◌, ◌*ℤ◌, ◌<ℤ◌, ◌≤ℤ◌}
use Rattle.std.specs.Prelude.{unsigned_abs}
use Rattle.std.proofs.lemmas.Int.{by_lt_z}
use Rattle.jiff_core.specs.declared.civil.date.Date.{Date}
use Rattle.jiff_core.specs.declared.civil.datetime.DateTime.{DateTime}
use Rattle.jiff_core.specs.Date.{epoch_day}
use Rattle.jiff_core.specs.DateTime.{civil_nanos}
use Rattle.jiff_core.proofs.SignedLemmas.{signed_arith}
use Rattle.jiff_core.proofs.CalendarLemmas.{days_from_civil-day_count, day_count-lt_year, day_count-epoch}
use Rattle.jiff_core.proofs.DateLemmas.{civil}
use Rattle.jiff_core.proofs.DateTimeLemmas.{civil_nanos-parts, time_nanos_bound}

late_day : (d : Date) → d.year <ℤ pos 1970 → epoch_day d <ℤ pos 0
late_day d early =
    omega (arith, signed_arith, days_from_civil-day_count d.year d.month d.day, day_count-lt_year d.year d.month d.day (pos 1970) 1 1 (civil d) (omega arith) early, day_count-epoch)

-- no second after the first of 1970 is of an earlier year
pub late_year : (moment : DateTime) → pos 0 <ℤ civil_nanos moment → pos 1970 ≤ℤ moment.date.year
late_year moment late =
    by_lt_z moment.date.year (pos 1970)
    (λ early. absurd (omega (arith, signed_arith, civil_nanos-parts moment, time_nanos_bound moment.time, late_day moment.date early)))
    (λ later. later)

pub moment_of : (moment : DateTime) (seconds : ℤ) → civil_nanos moment ≡ seconds *ℤ pos 1_000_000_000
    → seconds ≡ epoch_day moment.date *ℤ pos 86_400 +ℤ pos (3600 * moment.time.hour + 60 * moment.time.minute + moment.time.second)
moment_of moment seconds same = omega (arith, signed_arith, civil_nanos-parts moment, moment.time.subsec_in)

pub unsigned_is : (z : ℤ) → pos 0 ≤ℤ z → z ≡ pos (unsigned_abs z)
unsigned_is (pos n) at_least = refl
unsigned_is (negsuc n) at_least = absurd (omega (arith, signed_arith))
