use Rattle.std.proofs.Common.{◌≡◌, ◌*ℤ◌, ◌+ℤ◌, ◌+◌, ◌*◌, ◌≤ℤ◌, pos, arith, refl, rules, subst}
use Rattle.std.specs.Prelude.{unsigned_abs}
use Rattle.jiff_core.proofs.SignedLemmas.{signed_arith}
use Rattle.jiff_core.proofs.DateLemmas.{civil}
use Rattle.jiff_core.specs.Calendar.{IsCivilDate, days_from_civil}
use Rattle.jiff_core.specs.DateTime.{civil_nanos}
use Rattle.gix_object_signature.proofs.StampLemmas.{late_year, moment_of, unsigned_is}
use Rattle.gix_object_signature.proofs.verify.signed_time.word.Goals as goal

pub returns : goal.returns
returns c =
    let moment = c.from_nanosecond_in_range-moment.result in
    let nanos : civil_nanos moment ≡ c.args.seconds *ℤ pos 1_000_000_000 = omega (arith, signed_arith, c.from_nanosecond_in_range-moment.ensures, c.from.ensures) in
    let late : pos 1970 ≤ℤ moment.date.year = late_year moment (omega (arith, signed_arith, nanos, c.requires.late)) in
    let year : moment.date.year ≡ pos (unsigned_abs moment.date.year) = unsigned_is moment.date.year (omega (arith, signed_arith, late)) in
    let absolute : c.unsigned_abs-year.result ≡ unsigned_abs moment.date.year = search rules in (
      _,
      record {
        year = unsigned_abs moment.date.year;
        month = moment.date.month;
        day = moment.date.day;
        hour = moment.time.hour;
        minute = moment.time.minute;
        second = moment.time.second;
        date = subst (λ z. IsCivilDate z moment.date.month moment.date.day) year (civil moment.date);
        hour_low = moment.time.hour_in;
        minute_low = moment.time.minute_in;
        second_low = moment.time.second_in;
        moment = subst (λ z. c.args.seconds ≡ days_from_civil z moment.date.month moment.date.day *ℤ pos 86_400 +ℤ pos (3600 * moment.time.hour + 60 * moment.time.minute + moment.time.second)) year (moment_of moment c.args.seconds nanos);
        spelled = refl;
      },
      rw (c.two_digits.ensures, c.two_digits-2.ensures, c.two_digits-3.ensures, c.two_digits-4.ensures, c.two_digits-5.ensures, c.two_digits-6.ensures, c.two_digits-7.ensures) (rw absolute refl),
    )
