-- The test of `TimeTest` is the grammar of times.
use Rattle.std.proofs.Common.{◌≡◌, ◌≢◌, ◌∙◌, ap, refl, sym, subst, ℕ, ℤ, pos, neg_ℤ, zero, suc, ◌+◌, ◌*◌, ◌-◌, ◌/◌, ◌%◌, ◌<◌, ◌≤◌, ◌^◌, Bool, true, false, not, cond, ◌&&◌, ◌||◌, ◌==◌, leb, nat_lt, List, [], ◌∷◌, ◌++◌, length, take, drop, length-append, ◌⊎◌, inl, inr, Decides, leb-true, le-leb, eqb-true, arith}
use Rattle.std.specs.Prelude.{FitsSigned}
use Rattle.std.specs.Char.{digit_value, is_ascii_digit}
use Rattle.std.specs.Int.{w64}
use Rattle.std.specs.List.{list_all}
use Rattle.std.specs.Str.Parse.{IsNumeral, AllDigits, digits_value}
use Rattle.std.proofs.Math.Seq.{take-append_seam, drop-append_seam}
use Rattle.std.proofs.lemmas.Bool.{eqb-false}
use Rattle.std.proofs.lemmas.Bool.Decides.{Decides-like, Decides-and, Decides-or, Decides-not, Decides-eqb, Decides-ltb}
use Rattle.std.proofs.lemmas.List.{take-append-drop}
use Rattle.std.proofs.lemmas.Str.{digit_value_digit}
use Rattle.std.proofs.lemmas.Str.Parse.{digit_from_value}
use Rattle.gix_object_lines.specs.Actor.{TellsTime}
use Rattle.gix_object_lines.specs.Time.{SpellsSeconds, Since, Before, SpellsOffset, Ahead, Behind, SpellsTime, two_digits}
use Rattle.gix_object_lines.specs.TimeTest.{is_number_below, is_seconds, is_offset, tells_time}
use Rattle.gix_object_lines.specs.declared.lines.time.Time.{Time}
use Rattle.gix_object_lines.proofs.SecondsLemmas.{minus_only, digits_only}
use Rattle.gix_object_lines.proofs.TimeLemmas.{offset_length}

-- ---- digits

digit-Decides : (c : ℕ) → Decides (is_ascii_digit c) (digit_value c < 10)
digit-Decides c = Decides-like {P = (48 ≤ c) × (c ≤ 57)} (is_ascii_digit c)
    (λ k. omega (arith, digit_value_digit c k))
    (λ d. digit_from_value c d)
    (Decides-and (leb 48 c) (leb c 57) (leb-true 48 c, le-leb 48 c) (leb-true c 57, le-leb c 57))

digits-Decides : (ds : List ℕ) → Decides (list_all is_ascii_digit ds) (AllDigits 10 ds)
digits-Decides [] = (λ _. tt, λ _. refl)
digits-Decides (c ∷ ds) = Decides-and (is_ascii_digit c) (list_all is_ascii_digit ds) (digit-Decides c) (digits-Decides ds)

some : (n : ℕ) → n ≢ 0 → 0 < n
some zero h = absurd (h refl)
some (suc n) h = omega arith

not_none : (n : ℕ) → 0 < n → n ≢ 0
not_none n h e = omega arith

number-Decides : (limit : ℕ) (ds : List ℕ) → Decides (is_number_below limit ds) (IsNumeral 10 ds × (digits_value 10 ds < limit))
number-Decides limit ds = Decides-like (is_number_below limit ds)
    (λ h. ((some (length ds) h.0, h.1.0), h.1.1))
    (λ h. (not_none (length ds) h.0.0, (h.0.1, h.1)))
    (Decides-and (not (length ds == 0)) (list_all is_ascii_digit ds && nat_lt (digits_value 10 ds) limit)
    (Decides-not (length ds == 0) (Decides-eqb (length ds) 0))
    (Decides-and (list_all is_ascii_digit ds) (nat_lt (digits_value 10 ds) limit) (digits-Decides ds) (Decides-ltb (digits_value 10 ds) limit)))

-- ---- seconds

abbrev TellsSeconds : List ℕ → Type 0
TellsSeconds text = (z : ℤ) × (SpellsSeconds text z × FitsSigned w64 z)

below_fits : (n : ℕ) → n < 2 ^ 63 + 1 → FitsSigned w64 (neg_ℤ (pos n))
below_fits zero h = record { sfits = omega arith }
below_fits (suc n) h = record { sfits = omega arith }

no_seconds : TellsSeconds [] → ⊥
no_seconds (z, (Since numeral is, fits)) = let n = numeral.0 in omega arith
no_seconds (z, (Before digits spelled numeral is, fits)) = let n : ◌≡◌ {A = ℕ} 0 (suc (length digits)) = ap length spelled in omega arith

module _ (byte : ℕ) (ds : List ℕ) where
  minus_told : byte ≡ 45 → TellsSeconds (byte ∷ ds) → IsNumeral 10 ds × (digits_value 10 ds < 2 ^ 63 + 1)
  minus_told minus told = let n = minus_only ds told.0 told.1.1 (subst (λ b. SpellsSeconds (b ∷ ds) told.0) minus told.1.0) in ((n.1, n.0), omega (arith, n.2))

  plain_told : byte ≢ 45 → TellsSeconds (byte ∷ ds) → IsNumeral 10 (byte ∷ ds) × (digits_value 10 (byte ∷ ds) < 2 ^ 63)
  plain_told other told = let n = digits_only (byte ∷ ds) told.0 other told.1.1 told.1.0 in ((n.1, n.0), n.2)

  by_first : (t : Bool) → (byte == 45) ≡ t → Decides (cond t (is_number_below (2 ^ 63 + 1) ds) (is_number_below (2 ^ 63) (byte ∷ ds))) (TellsSeconds (byte ∷ ds))
  by_first true e = Decides-like (is_number_below (2 ^ 63 + 1) ds)
      (λ h. (neg_ℤ (pos (digits_value 10 ds)), (Before ds (ap (λ b. b ∷ ds) (eqb-true byte 45 e)) h.0 refl, below_fits (digits_value 10 ds) h.1)))
      (minus_told (eqb-true byte 45 e))
      (number-Decides (2 ^ 63 + 1) ds)
  by_first false e = Decides-like (is_number_below (2 ^ 63) (byte ∷ ds))
      (λ h. (pos (digits_value 10 (byte ∷ ds)), (Since h.0 refl, record { sfits = h.1 })))
      (plain_told (eqb-false byte 45 e))
      (number-Decides (2 ^ 63) (byte ∷ ds))

seconds-Decides : (text : List ℕ) → Decides (is_seconds text) (TellsSeconds text)
seconds-Decides [] = (λ e. absurd cc, λ told. absurd (no_seconds told))
seconds-Decides (byte ∷ ds) = by_first byte ds (byte == 45) refl

-- ---- the offset

-- a space and an offset
abbrev TellsOffset : List ℕ → Type 0
TellsOffset text = (z : ℤ) × ((rest : List ℕ) × ((text ≡ 32 ∷ rest) × SpellsOffset rest z))

abbrev IsSigned : ℕ → List ℕ → Type 0
IsSigned sign ds = ((sign ≡ 43) ⊎ (sign ≡ 45)) × ((length ds ≡ 4) × AllDigits 10 ds)

abbrev number_of : ℕ → ℕ → ℕ
number_of a b = 10 * (a - 48) + (b - 48)

number_low : (a b : ℕ) → digit_value a < 10 → digit_value b < 10 → number_of a b < 100
number_low a b p q = omega (arith, digit_from_value a p, digit_from_value b q)

tens_is : (a b : ℕ) → digit_value a < 10 → digit_value b < 10 → a ≡ 48 + number_of a b / 10
tens_is a b p q = omega (arith, digit_from_value a p, digit_from_value b q)

ones_is : (a b : ℕ) → digit_value a < 10 → digit_value b < 10 → b ≡ 48 + number_of a b % 10
ones_is a b p q = omega (arith, digit_from_value a p, digit_from_value b q)

number_spelled : (a b : ℕ) → digit_value a < 10 → digit_value b < 10 → a ∷ b ∷ [] ≡ two_digits (number_of a b)
number_spelled a b p q = ap (λ x. x ∷ b ∷ []) (tens_is a b p q) ∙ ap (λ x. (48 + number_of a b / 10) ∷ x ∷ []) (ones_is a b p q)

-- four digits are a clock
abbrev IsClock : List ℕ → Type 0
IsClock ds = (h : ℕ) × ((m : ℕ) × ((h < 100) × ((m < 100) × (ds ≡ two_digits h ++ two_digits m))))

clock_from : (ds : List ℕ) → length ds ≡ 4 → AllDigits 10 ds → IsClock ds
clock_from [] e all = absurd (omega arith)
clock_from (a ∷ []) e all = absurd (omega arith)
clock_from (a ∷ b ∷ []) e all = absurd (omega arith)
clock_from (a ∷ b ∷ c ∷ []) e all = absurd (omega arith)
clock_from (a ∷ b ∷ c ∷ d ∷ []) e all = (
  number_of a b,
  (
    number_of c d,
    (
      number_low a b all.0 all.1.0,
      (
        number_low c d all.1.1.0 all.1.1.1.0,
        ap (λ t. t ++ c ∷ d ∷ []) (number_spelled a b all.0 all.1.0) ∙ ap (λ t. two_digits (number_of a b) ++ t) (number_spelled c d all.1.1.0 all.1.1.1.0),
      ),
    ),
  ),
)
clock_from (a ∷ b ∷ c ∷ d ∷ f ∷ ds) e all = absurd (omega arith)

digit_is : (n : ℕ) → n < 10 → digit_value (48 + n) < 10
digit_is n low = omega (arith, digit_value_digit (48 + n) (omega arith, omega arith))

clock_digits : (h m : ℕ) → h < 100 → m < 100 → AllDigits 10 (two_digits h ++ two_digits m)
clock_digits h m hl ml = (digit_is (h / 10) (omega arith), (digit_is (h % 10) (omega arith), (digit_is (m / 10) (omega arith), (digit_is (m % 10) (omega arith), tt))))

pub heads : (x y : ℕ) (xs ys : List ℕ) → x ∷ xs ≡ y ∷ ys → x ≡ y
heads x y xs ys e = cc

tails : (x y : ℕ) (xs ys : List ℕ) → x ∷ xs ≡ y ∷ ys → xs ≡ ys
tails x y xs ys e = cc

signed_clock : (sign : ℕ) (ds : List ℕ) (h m : ℕ) → h < 100 → m < 100 → ds ≡ two_digits h ++ two_digits m → (length ds ≡ 4) × AllDigits 10 ds
signed_clock sign ds h m hl ml is = (ap length is, subst (AllDigits 10) (sym is) (clock_digits h m hl ml))

signed_from : (sign : ℕ) (ds : List ℕ) (z : ℤ) → SpellsOffset (sign ∷ ds) z → IsSigned sign ds
signed_from sign ds z (Ahead h m hl ml spelled is) = (inl (heads sign 43 ds _ spelled), signed_clock sign ds h m hl ml (tails sign 43 ds _ spelled))
signed_from sign ds z (Behind h m hl ml spelled is) = (inr (heads sign 45 ds _ spelled), signed_clock sign ds h m hl ml (tails sign 45 ds _ spelled))

offset_from : (sign : ℕ) (ds : List ℕ) → (sign ≡ 43) ⊎ (sign ≡ 45) → IsClock ds → (z : ℤ) × SpellsOffset (sign ∷ ds) z
offset_from sign ds (inl plus) (h, (m, (hl, (ml, is)))) = (pos (3600 * h + 60 * m), Ahead h m hl ml (ap (λ s. s ∷ ds) plus ∙ ap (λ t. 43 ∷ t) is) refl)
offset_from sign ds (inr minus) (h, (m, (hl, (ml, is)))) = (neg_ℤ (pos (3600 * h + 60 * m)), Behind h m hl ml (ap (λ s. s ∷ ds) minus ∙ ap (λ t. 45 ∷ t) is) refl)

module _ (space sign : ℕ) (ds : List ℕ) where
  told_from_signed : (space ≡ 32) × IsSigned sign ds → TellsOffset (space ∷ sign ∷ ds)
  told_from_signed (blank, signed) =
      let o = offset_from sign ds signed.0 (clock_from ds signed.1.0 signed.1.1) in
      (o.0, (sign ∷ ds, (ap (λ s. s ∷ sign ∷ ds) blank, o.1)))

  signed_from_told : TellsOffset (space ∷ sign ∷ ds) → (space ≡ 32) × IsSigned sign ds
  signed_from_told (z, (rest, (is, spells))) =
      (heads space 32 (sign ∷ ds) rest is, signed_from sign ds z (subst (λ r. SpellsOffset r z) (sym (tails space 32 (sign ∷ ds) rest is)) spells))

no_offset_at_end : (space : ℕ) → TellsOffset (space ∷ []) → ⊥
no_offset_at_end space (z, (rest, (is, spells))) = let short : ◌≡◌ {A = ℕ} 1 (suc (length rest)) = ap length is in omega (arith, offset_length rest z spells)

no_offset_nowhere : TellsOffset [] → ⊥
no_offset_nowhere (z, (rest, (is, spells))) = let short : ◌≡◌ {A = ℕ} 0 (suc (length rest)) = ap length is in omega arith

offset-Decides : (text : List ℕ) → Decides (is_offset text) (TellsOffset text)
offset-Decides [] = (λ e. absurd cc, λ told. absurd (no_offset_nowhere told))
offset-Decides (space ∷ []) = (λ e. absurd cc, λ told. absurd (no_offset_at_end space told))
offset-Decides (space ∷ sign ∷ ds) = Decides-like (is_offset (space ∷ sign ∷ ds)) (told_from_signed space sign ds) (signed_from_told space sign ds)
    (Decides-and (space == 32) ((sign == 43 || sign == 45) && (length ds == 4 && list_all is_ascii_digit ds)) (Decides-eqb space 32)
    (Decides-and (sign == 43 || sign == 45) (length ds == 4 && list_all is_ascii_digit ds)
    (Decides-or (sign == 43) (sign == 45) (Decides-eqb sign 43) (Decides-eqb sign 45))
    (Decides-and (length ds == 4) (list_all is_ascii_digit ds) (Decides-eqb (length ds) 4) (digits-Decides ds))))

-- ---- the whole

cut_is : (text front back : List ℕ) → text ≡ front ++ 32 ∷ back → length back ≡ 5 → length text - 6 ≡ length front
cut_is text front back is five = omega (arith, ap length is, length-append front (32 ∷ back))

module _ (text : List ℕ) (cut : ℕ) where
  time_from : TellsSeconds (take cut text) × TellsOffset (drop cut text) → TellsTime text
  time_from ((y, (seconds, fits)), (z, (rest, (is, offset)))) = (
    record { seconds = y; offset = z },
    record {
      front = take cut text;
      back = rest;
      spelled = sym (take-append-drop cut text) ∙ ap (λ r. take cut text ++ r) is;
      seconds = seconds;
      seconds_fit = fits;
      offset = offset;
    },
  )

parts_from : (text : List ℕ) (time : Time) → SpellsTime text time → TellsSeconds (take (length text - 6) text) × TellsOffset (drop (length text - 6) text)
parts_from text time s =
    let at = cut_is text s.front s.back s.spelled (offset_length s.back time.offset s.offset) in
    let front : take (length text - 6) text ≡ s.front = ap (λ n. take n text) at ∙ ap (take (length s.front)) s.spelled ∙ take-append_seam s.front (32 ∷ s.back) in
    let back : drop (length text - 6) text ≡ 32 ∷ s.back = ap (λ n. drop n text) at ∙ ap (drop (length s.front)) s.spelled ∙ drop-append_seam s.front (32 ∷ s.back) in
    ((time.seconds, (subst (λ f. SpellsSeconds f time.seconds) (sym front) s.seconds, s.seconds_fit)), (time.offset, (s.back, (back, s.offset))))

pub tells_time-Decides : (text : List ℕ) → Decides (tells_time text) (TellsTime text)
tells_time-Decides text = Decides-like (tells_time text)
    (time_from text (length text - 6))
    (λ told. parts_from text told.0 told.1)
    (Decides-and (is_seconds (take (length text - 6) text)) (is_offset (drop (length text - 6) text)) (seconds-Decides (take (length text - 6) text)) (offset-Decides (drop (length text - 6) text)))
