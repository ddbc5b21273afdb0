-- What `parse` reads as seconds.
use Rattle.std.proofs.Common.{◌≡◌, ◌≢◌, ◌∙◌, ap, refl, sym, subst, ℕ, ℤ, pos, neg_ℤ, zero, suc, ◌<◌, ◌≤◌, ◌^◌, List, [], ◌∷◌, length, get_or, drop, Option, Result, Ok, Err, ◌⊎◌, ⊎_elim, arith}
use Rattle.std.specs.Prelude.{FitsSigned, MatchResult, MatchOption}
use Rattle.std.specs.Int.{w64}
use Rattle.std.specs.Result.{OkIff, result_ok}
use Rattle.std.specs.Str.{IsUtf8}
use Rattle.std.specs.Str.Parse.{IsNumeral, AllDigits, digits_value, ParsesSigned}
use Rattle.std.proofs.lemmas.Fmt.{IsAscii-from_digits}
use Rattle.std.proofs.lemmas.Str.{IsUtf8-from_ascii}
use Rattle.std.proofs.lemmas.Str.Ascii.{IsAscii-cons}
use Rattle.std.proofs.lemmas.Str.Parse.{IsNumeralModel, numerals_by_value, tells_digits, digit_from_value, parse_signed_minus, parse_signed_plain}
use Rattle.gix_object_lines.specs.Time.{SpellsSeconds, Since, Before}

own : IsNumeralModel (AllDigits 10) (digits_value 10)
own = numerals_by_value _ tells_digits

high_45 : (ds : List ℕ) → IsNumeral 10 (45 ∷ ds) → ⊥
high_45 ds numeral = let high = digit_from_value 45 numeral.1.0 in omega arith

pub seconds_no_plus : (ds : List ℕ) (z : ℤ) → SpellsSeconds (43 ∷ ds) z → ⊥
seconds_no_plus ds z (Since numeral is) = let high = digit_from_value 43 numeral.1.0 in omega arith
seconds_no_plus ds z (Before digits spelled numeral is) = let signs : ◌≡◌ {A = ℕ} 43 45 = ap (λ t. get_or t 0 0) spelled in absurd (omega arith)

-- the amount of a number below zero is at most 2 ^ 63
fits_below : (n : ℕ) → FitsSigned w64 (neg_ℤ (pos n)) → n ≤ 2 ^ 63
fits_below zero fits = omega arith
fits_below (suc n) fits = omega (arith, fits.sfits)

pub minus_only : (ds : List ℕ) (z : ℤ) → FitsSigned w64 z → SpellsSeconds (45 ∷ ds) z → AllDigits 10 ds × (0 < length ds) × (digits_value 10 ds ≤ 2 ^ 63)
minus_only ds z fits (Since numeral is) = absurd (high_45 ds numeral)
minus_only ds z fits (Before digits spelled numeral is) =
    let same : digits ≡ ds = sym (ap (drop 1) spelled) in
    let n = subst (IsNumeral 10) same numeral in
    (n.1, n.0, fits_below (digits_value 10 ds) (subst (FitsSigned w64) (is ∙ ap (λ d. neg_ℤ (pos (digits_value 10 d))) same) fits))

pub digits_only : (text : List ℕ) (z : ℤ) → get_or text 0 0 ≢ 45 → FitsSigned w64 z → SpellsSeconds text z → AllDigits 10 text × (0 < length text) × (digits_value 10 text < 2 ^ 63)
digits_only text z other fits (Since numeral is) = (numeral.1, numeral.0, (subst (FitsSigned w64) is fits).sfits)
digits_only text z other fits (Before digits spelled numeral is) = absurd (other (ap (λ t. get_or t 0 0) spelled))

module _ {E : Type 0} where
  by_minus : (ds : List ℕ) (r : Result ℤ E) → OkIff r (AllDigits 10 ds × (0 < length ds) × (digits_value 10 ds ≤ 2 ^ 63)) (neg_ℤ (pos (digits_value 10 ds)))
      → MatchResult r (λ z. SpellsSeconds (45 ∷ ds) z) (λ _. (z : ℤ) → FitsSigned w64 z → ¬ SpellsSeconds (45 ∷ ds) z)
  by_minus ds (Ok x) h = Before ds refl (h.0.1, h.0.0) h.1
  by_minus ds (Err e) h = λ z fits spells. h (minus_only ds z fits spells)

  by_digits : (text : List ℕ) (r : Result ℤ E) → get_or text 0 0 ≢ 45 → OkIff r (AllDigits 10 text × (0 < length text) × (digits_value 10 text < 2 ^ 63)) (pos (digits_value 10 text))
      → MatchResult r (λ z. SpellsSeconds text z) (λ _. (z : ℤ) → FitsSigned w64 z → ¬ SpellsSeconds text z)
  by_digits text (Ok x) other h = Since (h.0.1, h.0.0) h.1
  by_digits text (Err e) other h = λ z fits spells. h (digits_only text z other fits spells)

  pub seconds_parsed : (text : List ℕ) (r : Result ℤ E) → ParsesSigned w64 10 text r → get_or text 0 0 ≢ 43
      → MatchResult r (λ z. SpellsSeconds text z) (λ _. (z : ℤ) → FitsSigned w64 z → ¬ SpellsSeconds text z)
  seconds_parsed [] r h plus = by_digits [] r (λ e. cc) (parse_signed_plain own w64 [] r h plus (λ e. cc))
  seconds_parsed (b ∷ ds) r h plus =
      ⊎_elim
      (λ minus. let all : b ∷ ds ≡ 45 ∷ ds = ap (λ x. x ∷ ds) minus in
      subst (λ t. MatchResult r (λ z. SpellsSeconds t z) (λ _. (z : ℤ) → FitsSigned w64 z → ¬ SpellsSeconds t z)) (sym all)
      (by_minus ds r (parse_signed_minus own w64 (b ∷ ds) r h minus)))
      (λ other. by_digits (b ∷ ds) r other (parse_signed_plain own w64 (b ∷ ds) r h plus other))
      (minus_or_not b)
    where
      minus_or_not : (b : ℕ) → (b ≡ 45) ⊎ (b ≢ 45)
      minus_or_not b = grind arith

-- seconds are text
pub seconds_text : (text : List ℕ) (z : ℤ) → SpellsSeconds text z → IsUtf8 text
seconds_text text z (Since numeral is) = IsUtf8-from_ascii text (IsAscii-from_digits text numeral.1)
seconds_text text z (Before digits spelled numeral is) = subst IsUtf8 (sym spelled) (IsUtf8-from_ascii (45 ∷ digits) (IsAscii-cons 45 digits (omega arith) (IsAscii-from_digits digits numeral.1)))

-- a `Some` of what was read
pub seconds_some : {E : Type 0} (text : List ℕ) (r : Result ℤ E) (o : Option ℤ) → o ≡ result_ok r → MatchResult r (λ z. SpellsSeconds text z) (λ _. (z : ℤ) → FitsSigned w64 z → ¬ SpellsSeconds text z)
    → MatchOption o ((z : ℤ) → FitsSigned w64 z → ¬ SpellsSeconds text z) (λ z. SpellsSeconds text z)
seconds_some text (Ok z) o is h = rw is h
seconds_some text (Err e) o is h = rw is h
