-- A text spells one time, and what is written for a time spells it.
use Rattle.std.proofs.Common.{◌≡◌, ◌∙◌, ap, refl, sym, subst, ℕ, ℤ, pos, negsuc, neg_ℤ, zero, suc, ◌+◌, ◌-◌, ◌≤◌, ◌*◌, ◌/◌, ◌%◌, ◌<◌, ◌^◌, List, [], ◌∷◌, ◌++◌, length, get_or, append-nil, ◌-ℤ◌, arith}
use Rattle.std.specs.Prelude.{FitsSigned, decimal}
use Rattle.std.specs.Fmt.{signed_decimal}
use Rattle.std.specs.Int.{w64, w32, IsInRange}
use Rattle.std.specs.Str.Parse.{IsNumeral, AllDigits, digits_value}
use Rattle.std.proofs.lemmas.Fmt.{decimal_is_IsNumeral}
use Rattle.std.proofs.lemmas.Int.{ints, to_z-of_z}
use Rattle.std.proofs.lemmas.Str.Parse.{digit_from_value}
use mir.Val.{to_z, of_z}
use Rattle.gix_object_lines.specs.Bytes.{Lacks}
use Rattle.gix_object_lines.specs.Time.{SpellsSeconds, Since, Before, SpellsOffset, Ahead, Behind, SpellsTime, two_digits, offset_text, time_text, IsSpellableOffset}
use Rattle.gix_object_lines.specs.Clock.{SpellsClock}
use Rattle.gix_object_lines.specs.declared.lines.time.Time.{Time}
use Rattle.gix_object_lines.proofs.Cuts.{cut_once}
use Rattle.gix_object_lines.proofs.CutLemmas.{lacks_cons}

-- ---- digits

pub digits_lack : (byte : ℕ) (digits : List ℕ) → ((d : ℕ) → IsInRange 48 57 d → d ≡ byte → ⊥) → AllDigits 10 digits → Lacks byte digits
digits_lack byte [] none all = refl
digits_lack byte (d ∷ digits) none all = lacks_cons byte d digits (none d (digit_from_value d all.0)) (digits_lack byte digits none all.1)

-- two digits spell the number that they are read as
pub two_spelled : (tens ones : ℕ) → 48 ≤ tens → tens ≤ 57 → 48 ≤ ones → ones ≤ 57 → tens ∷ ones ∷ [] ≡ two_digits (10 * (tens - 48) + (ones - 48))
two_spelled tens ones a b c d =
    let high : tens ≡ 48 + (10 * (tens - 48) + (ones - 48)) / 10 = omega arith in
    let low : ones ≡ 48 + (10 * (tens - 48) + (ones - 48)) % 10 = omega arith in
    ap (λ t. t ∷ ones ∷ []) high ∙ ap (λ o. (48 + (10 * (tens - 48) + (ones - 48)) / 10) ∷ o ∷ []) low

-- ---- a text spells one time

module _ (text : List ℕ) where
  pub seconds_once : (y z : ℤ) → SpellsSeconds text y → SpellsSeconds text z → y ≡ z
  seconds_once y z (Since numeral is) (Since numeral' is') = is ∙ sym is'
  seconds_once y z (Since numeral is) (Before digits spelled numeral' is') = absurd (no_sign digits spelled numeral)
    where
      no_sign : (digits : List ℕ) → text ≡ 45 ∷ digits → IsNumeral 10 text → ⊥
      no_sign digits spelled numeral = let high = digit_from_value 45 ((subst (IsNumeral 10) spelled numeral).1.0) in omega arith
  seconds_once y z (Before digits spelled numeral is) (Since numeral' is') = absurd (no_sign digits spelled numeral')
    where
      no_sign : (digits : List ℕ) → text ≡ 45 ∷ digits → IsNumeral 10 text → ⊥
      no_sign digits spelled numeral = let high = digit_from_value 45 ((subst (IsNumeral 10) spelled numeral).1.0) in omega arith
  seconds_once y z (Before digits spelled numeral is) (Before digits' spelled' numeral' is') =
      let same : digits ≡ digits' = cc in
      is ∙ ap (λ ds. neg_ℤ (pos (digits_value 10 ds))) same ∙ sym is'

clock_once : (hours minutes hours' minutes' : ℕ) (sign : ℕ) → sign ∷ two_digits hours ++ two_digits minutes ≡ sign ∷ two_digits hours' ++ two_digits minutes' → 3600 * hours + 60 * minutes ≡ 3600 * hours' + 60 * minutes'
clock_once hours minutes hours' minutes' sign e =
    let a : 48 + hours / 10 ≡ 48 + hours' / 10 = cc in
    let b : 48 + hours % 10 ≡ 48 + hours' % 10 = cc in
    let c : 48 + minutes / 10 ≡ 48 + minutes' / 10 = cc in
    let d : 48 + minutes % 10 ≡ 48 + minutes' % 10 = cc in
    let h : hours ≡ hours' = omega arith in
    let m : minutes ≡ minutes' = omega arith in
    omega arith

module _ (text : List ℕ) where
  pub offset_once : (y z : ℤ) → SpellsOffset text y → SpellsOffset text z → y ≡ z
  offset_once y z (Ahead h m _ _ spelled is) (Ahead h' m' _ _ spelled' is') = is ∙ ap pos (clock_once h m h' m' 43 (sym spelled ∙ spelled')) ∙ sym is'
  offset_once y z (Ahead h m _ _ spelled is) (Behind h' m' _ _ spelled' is') = let signs : ◌≡◌ {A = ℕ} 43 45 = ap (λ t. get_or t 0 0) (sym spelled ∙ spelled') in absurd (omega arith)
  offset_once y z (Behind h m _ _ spelled is) (Ahead h' m' _ _ spelled' is') = let signs : ◌≡◌ {A = ℕ} 45 43 = ap (λ t. get_or t 0 0) (sym spelled ∙ spelled') in absurd (omega arith)
  offset_once y z (Behind h m _ _ spelled is) (Behind h' m' _ _ spelled' is') = is ∙ ap (λ n. neg_ℤ (pos n)) (clock_once h m h' m' 45 (sym spelled ∙ spelled')) ∙ sym is'

-- seconds have no byte but digits and `-`
pub seconds_lack : (byte : ℕ) (text : List ℕ) (z : ℤ) → (45 ≡ byte → ⊥) → ((d : ℕ) → IsInRange 48 57 d → d ≡ byte → ⊥) → SpellsSeconds text z → Lacks byte text
seconds_lack byte text z no_sign none (Since numeral is) = digits_lack byte text none numeral.1
seconds_lack byte text z no_sign none (Before digits spelled numeral is) =
    subst (Lacks byte) (sym spelled) (lacks_cons byte 45 digits no_sign (digits_lack byte digits none numeral.1))

time_same : (a b : Time) → a.seconds ≡ b.seconds → a.offset ≡ b.offset → a ≡ b
time_same a b p q = λ i. record { seconds = p i; offset = q i }

-- the first space is the one after the seconds
pub front_is : (text : List ℕ) (time : Time) (spells : SpellsTime text time) → (front back : List ℕ) → text ≡ front ++ 32 ∷ back → Lacks 32 front → (spells.front ≡ front) × (spells.back ≡ back)
front_is text time spells front back cut lacks =
    cut_once 32 spells.front spells.back front back (seconds_lack 32 spells.front time.seconds (λ e. cc) (λ d r e. omega arith) spells.seconds) lacks (sym spells.spelled ∙ cut)

pub time_once : (text : List ℕ) (a b : Time) → SpellsTime text a → SpellsTime text b → a ≡ b
time_once text a b s t =
    let cut = cut_once 32 s.front s.back t.front t.back
    (seconds_lack 32 s.front a.seconds (λ e. cc) (λ d r e. omega arith) s.seconds)
    (seconds_lack 32 t.front b.seconds (λ e. cc) (λ d r e. omega arith) t.seconds)
    (sym s.spelled ∙ t.spelled) in
    time_same a b
    (seconds_once t.front a.seconds b.seconds (subst (λ f. SpellsSeconds f a.seconds) cut.0 s.seconds) t.seconds)
    (offset_once t.back a.offset b.offset (subst (λ r. SpellsOffset r a.offset) cut.1 s.offset) t.offset)

-- the parts make the time
pub time_from_parts : (text front back : List ℕ) (y y' z z' : ℤ) → text ≡ front ++ 32 ∷ back → y' ≡ y → z' ≡ z → FitsSigned w64 y → SpellsSeconds front y → SpellsOffset back z → SpellsTime text (record { seconds = y'; offset = z' })
time_from_parts text front back y y' z z' cut p q fits seconds offset = record {
  front = front;
  back = back;
  spelled = cut;
  seconds = subst (SpellsSeconds front) (sym p) seconds;
  seconds_fit = subst (FitsSigned w64) (sym p) fits;
  offset = subst (SpellsOffset back) (sym q) offset;
}

-- ---- five bytes of an offset

pub offset_length : (text : List ℕ) (z : ℤ) → SpellsOffset text z → length text ≡ 5
offset_length text z (Ahead h m _ _ spelled is) = ap length spelled
offset_length text z (Behind h m _ _ spelled is) = ap length spelled

pub five_reads : (text : List ℕ) → length text ≡ 5 → text ≡ get_or text 0 0 ∷ get_or text 1 0 ∷ get_or text 2 0 ∷ get_or text 3 0 ∷ get_or text 4 0 ∷ []
five_reads [] e = absurd (omega arith)
five_reads (a ∷ []) e = absurd (omega arith)
five_reads (a ∷ b ∷ []) e = absurd (omega arith)
five_reads (a ∷ b ∷ c ∷ []) e = absurd (omega arith)
five_reads (a ∷ b ∷ c ∷ d ∷ []) e = absurd (omega arith)
five_reads (a ∷ b ∷ c ∷ d ∷ f ∷ []) e = refl
five_reads (a ∷ b ∷ c ∷ d ∷ f ∷ g ∷ text) e = absurd (omega arith)

abbrev pub last_four : List ℕ → List ℕ
last_four text = get_or text 1 0 ∷ get_or text 2 0 ∷ get_or text 3 0 ∷ get_or text 4 0 ∷ []

abbrev pub NoClock : List ℕ → Type 0
NoClock digits = (hours minutes : ℕ) → hours < 100 → minutes < 100 → digits ≡ two_digits hours ++ two_digits minutes → ⊥

pub no_offset : (text : List ℕ) (z : ℤ) → NoClock (last_four text) → SpellsOffset text z → ⊥
no_offset text z none (Ahead h m hl ml spelled is) = none h m hl ml (ap last_four spelled)
no_offset text z none (Behind h m hl ml spelled is) = none h m hl ml (ap last_four spelled)

pub no_sign : (text : List ℕ) (z : ℤ) → (get_or text 0 0 ≡ 43 → ⊥) → (get_or text 0 0 ≡ 45 → ⊥) → SpellsOffset text z → ⊥
no_sign text z plus minus (Ahead h m hl ml spelled is) = plus (ap (λ t. get_or t 0 0) spelled)
no_sign text z plus minus (Behind h m hl ml spelled is) = minus (ap (λ t. get_or t 0 0) spelled)

pub offset_ahead : (text : List ℕ) (amount z : ℤ) → length text ≡ 5 → get_or text 0 0 ≡ 43 → SpellsClock (last_four text) amount → z ≡ amount → SpellsOffset text z
offset_ahead text amount z five sign clock is =
    Ahead clock.hours clock.minutes clock.hours_low clock.minutes_low (five_reads text five ∙ ap (λ s. s ∷ last_four text) sign ∙ ap (λ t. 43 ∷ t) clock.spelled) (is ∙ clock.amount_is)

pub offset_behind : (text : List ℕ) (amount z : ℤ) → length text ≡ 5 → get_or text 0 0 ≡ 45 → SpellsClock (last_four text) amount → z ≡ neg_ℤ amount → SpellsOffset text z
offset_behind text amount z five sign clock is =
    Behind clock.hours clock.minutes clock.hours_low clock.minutes_low (five_reads text five ∙ ap (λ s. s ∷ last_four text) sign ∙ ap (λ t. 45 ∷ t) clock.spelled) (is ∙ ap neg_ℤ clock.amount_is)

minus_is : (z : ℤ) → pos 0 -ℤ z ≡ neg_ℤ z
minus_is z = omega (arith, ints)

neg_fits : (n : ℕ) → n < 2 ^ 31 → FitsSigned w32 (neg_ℤ (pos n))
neg_fits zero small = record { sfits = omega arith }
neg_fits (suc n) small = record { sfits = omega arith }

-- an offset that is taken from zero
pub neg_read : (z : ℤ) (n : ℕ) → z ≡ pos n → n < 2 ^ 31 → to_z w32 (of_z w32 (pos 0 -ℤ to_z w32 (of_z w32 z))) ≡ neg_ℤ z
neg_read z n is small =
    let fits : FitsSigned w32 z = subst (FitsSigned w32) (sym is) (record { sfits = small }) in
    ap (λ x. to_z w32 (of_z w32 (pos 0 -ℤ x))) (to_z-of_z w32 z fits)
    ∙ ap (λ x. to_z w32 (of_z w32 x)) (minus_is z)
    ∙ to_z-of_z w32 (neg_ℤ z) (subst (λ y. FitsSigned w32 (neg_ℤ y)) (sym is) (neg_fits n small))

-- ---- what is written spells the time

pub seconds_written : (z : ℤ) → FitsSigned w64 z → SpellsSeconds (signed_decimal z) z
seconds_written (pos n) fits = let is = decimal_is_IsNumeral n (omega (arith, fits.sfits)) in Since is.0 (ap pos (sym is.1))
seconds_written (negsuc n) fits = let is = decimal_is_IsNumeral (suc n) (omega (arith, fits.sfits)) in Before (decimal (suc n)) refl is.0 (ap (λ m. neg_ℤ (pos m)) (sym is.1))

clock_is : (n : ℕ) → n % 60 ≡ 0 → n ≡ 3600 * (n / 3600) + 60 * (n / 60 % 60)
clock_is n whole = omega arith

pub offset_written : (z : ℤ) → IsSpellableOffset z → SpellsOffset (offset_text z) z
offset_written (pos n) h = Ahead (n / 3600) (n / 60 % 60) (omega (arith, h.1)) (omega arith) refl (ap pos (clock_is n h.0))
offset_written (negsuc n) h = Behind (suc n / 3600) (suc n / 60 % 60) (omega (arith, h.1)) (omega arith) refl (ap (λ m. neg_ℤ (pos m)) (clock_is (suc n) h.0))

pub time_written : (time : Time) → FitsSigned w64 time.seconds → IsSpellableOffset time.offset → SpellsTime (time_text time) time
time_written time fits whole = record {
  front = signed_decimal time.seconds;
  back = offset_text time.offset;
  spelled = refl;
  seconds = seconds_written time.seconds fits;
  seconds_fit = fits;
  offset = offset_written time.offset whole;
}

-- what is written part by part is the time
pub time_parts : (time : Time) (seconds offset : List ℕ) → seconds ≡ signed_decimal time.seconds → offset ≡ offset_text time.offset → seconds ++ (32 ∷ [] ++ (offset ++ [])) ≡ time_text time
time_parts time seconds offset p q = ap (λ s. s ++ 32 ∷ (offset ++ [])) p ∙ ap (λ o. signed_decimal time.seconds ++ 32 ∷ o) (append-nil offset ∙ q)
