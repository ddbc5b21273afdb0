-- The offsets of the written form are those that are written.
use Rattle.std.proofs.Common.{◌≡◌, ◌∙◌, ap, refl, sym, subst, ℕ, ℤ, pos, negsuc, neg_ℤ, zero, suc, ◌+◌, ◌-◌, ◌*◌, ◌/◌, ◌%◌, ◌<◌, ◌≤◌, Bool, true, false, not, ◌&&◌, ◌||◌, ◌⊎◌, inl, inr, [], ◌∷◌, ◌++◌, length, get_or, drop, arith, tests}
use Rattle.std.specs.Prelude.{◌==◌, nat_lt, bytes_eq, codes}
use Rattle.std.specs.List.{list_all}
use Rattle.std.specs.Char.{is_ascii_digit}
use Rattle.std.specs.Fmt.{digits}
use Rattle.gix_object_lines.specs.Time.{SpellsTime, SpellsSeconds, SpellsOffset, Ahead, Behind, IsSpellableOffset, two_digits, offset_text}
use Rattle.history_model.specs.Bytes.{Bytes}
use Rattle.history_model.specs.Forms.{is_offset}
use Rattle.history_model.proofs.PlaceLemmas.{one_text, text_itself}
use Rattle.gix_object_lines.specs.declared.lines.time.Time.{Time}
use Rattle.gix_object_lines.proofs.TimeLemmas.{front_is, five_reads, offset_length, offset_once, seconds_written, two_spelled}
use Rattle.history_texts.specs.Actors.{IsOffsetOf}
use Rattle.std.proofs.lemmas.Bool.{eqb-true, false_from_ne_true, or_cases}
use Rattle.gix_ref_file.proofs.Rooted.{both}

-- what a word in an offset's written form says
pub record OffsetTold (word : Bytes) : Type 0 where
  pub offset : ℤ
  pub spells : SpellsOffset word offset
  pub whole : IsSpellableOffset offset
  pub spelled : offset_text offset ≡ word

digit_low : (d : ℕ) → is_ascii_digit d ≡ true → 48 ≤ d
digit_low d h = grind (arith, tests)

digit_high : (d : ℕ) → is_ascii_digit d ≡ true → d ≤ 57
digit_high d h = grind (arith, tests)

hours_of : (h m : ℕ) → m < 60 → (3600 * h + 60 * m) / 3600 ≡ h
hours_of h m low = omega arith

minutes_of : (h m : ℕ) → m < 60 → (3600 * h + 60 * m) / 60 % 60 ≡ m
minutes_of h m low = omega arith

whole_of : (h m : ℕ) → h < 100 → m < 60 → ((3600 * h + 60 * m) % 60 ≡ 0) × (3600 * h + 60 * m < 360_000)
whole_of h m hl ml = (omega arith, omega arith)

clock_spelled : (sign h m : ℕ) → m < 60 → sign ∷ two_digits ((3600 * h + 60 * m) / 3600) ++ two_digits ((3600 * h + 60 * m) / 60 % 60) ≡ sign ∷ two_digits h ++ two_digits m
clock_spelled sign h m low = (λ i. sign ∷ two_digits (hours_of h m low i) ++ two_digits (minutes_of h m low i))

four_spelled : (sign a b c d h m : ℕ) → a ∷ b ∷ [] ≡ two_digits h → c ∷ d ∷ [] ≡ two_digits m → sign ∷ a ∷ b ∷ c ∷ d ∷ [] ≡ sign ∷ two_digits h ++ two_digits m
four_spelled sign a b c d h m e f = ap (λ t. sign ∷ t ++ (c ∷ d ∷ [])) e ∙ ap (λ t. sign ∷ two_digits h ++ t) f

ahead : (word : Bytes) (h m : ℕ) → h < 100 → m < 60 → word ≡ 43 ∷ two_digits h ++ two_digits m → OffsetTold word
ahead word h m hl ml is = record {
  offset = pos (3600 * h + 60 * m);
  spells = Ahead h m hl (omega arith) is refl;
  whole = whole_of h m hl ml;
  spelled = clock_spelled 43 h m ml ∙ sym is;
}

behind : (word : Bytes) (h m n : ℕ) → h < 100 → m < 60 → 3600 * h + 60 * m ≡ suc n → word ≡ 45 ∷ two_digits h ++ two_digits m → OffsetTold word
behind word h m n hl ml some is = record {
  offset = negsuc n;
  spells = Behind h m hl (omega arith) is (ap (λ k. neg_ℤ (pos k)) (sym some));
  whole = subst (λ k. (k % 60 ≡ 0) × (k < 360_000)) some (whole_of h m hl ml);
  spelled = ap (λ k. 45 ∷ two_digits (k / 3600) ++ two_digits (k / 60 % 60)) (sym some) ∙ clock_spelled 45 h m ml ∙ sym is;
}

low_tens : (c : ℕ) → nat_lt c 54 ≡ true → c < 54
low_tens c h = grind (arith, tests)

not_true : (b : Bool) → not b ≡ true → b ≡ true → ⊥
not_true true h k = cc
not_true false h k = cc

pub offset_told : (word : Bytes) → is_offset word ≡ true → OffsetTold word
offset_told [] h = cc
offset_told (s ∷ []) h = cc
offset_told (s ∷ a ∷ []) h = cc
offset_told (s ∷ a ∷ b ∷ []) h = cc
offset_told (s ∷ a ∷ b ∷ c ∷ []) h = cc
offset_told (s ∷ a ∷ b ∷ c ∷ d ∷ []) h =
    let outer = both ((s == 43 || s == 45) && list_all is_ascii_digit (a ∷ b ∷ c ∷ d ∷ []) && nat_lt c 54) (not (bytes_eq (s ∷ a ∷ b ∷ c ∷ d ∷ []) (codes "-0000"))) h in
    let mid = both ((s == 43 || s == 45) && list_all is_ascii_digit (a ∷ b ∷ c ∷ d ∷ [])) (nat_lt c 54) outer.0 in
    let inner = both (s == 43 || s == 45) (list_all is_ascii_digit (a ∷ b ∷ c ∷ d ∷ [])) mid.0 in
    let one = both (is_ascii_digit a) (list_all is_ascii_digit (b ∷ c ∷ d ∷ [])) inner.1 in
    let two = both (is_ascii_digit b) (list_all is_ascii_digit (c ∷ d ∷ [])) one.1 in
    let three = both (is_ascii_digit c) (list_all is_ascii_digit (d ∷ [])) two.1 in
    let four = both (is_ascii_digit d) true three.1 in
    by_sign (or_cases (s == 43) (s == 45) inner.0) outer.1 (low_tens c mid.1) (digit_low a one.0) (digit_high a one.0) (digit_low b two.0) (digit_high b two.0) (digit_low c three.0) (digit_low d four.0) (digit_high d four.0)
  where
    by_sign : ((s == 43) ≡ true) ⊎ ((s == 45) ≡ true) → not (bytes_eq (s ∷ a ∷ b ∷ c ∷ d ∷ []) (codes "-0000")) ≡ true → c < 54
        → 48 ≤ a → a ≤ 57 → 48 ≤ b → b ≤ 57 → 48 ≤ c → 48 ≤ d → d ≤ 57 → OffsetTold (s ∷ a ∷ b ∷ c ∷ d ∷ [])
    by_sign (inl plus) other tens al ah bl bh cl dl dh =
        ahead (s ∷ a ∷ b ∷ c ∷ d ∷ []) (10 * (a - 48) + (b - 48)) (10 * (c - 48) + (d - 48)) (omega arith) (omega arith)
        (ap (λ x. x ∷ a ∷ b ∷ c ∷ d ∷ []) (eqb-true s 43 plus) ∙ four_spelled 43 a b c d _ _ (two_spelled a b al ah bl bh) (two_spelled c d cl (omega arith) dl dh))
    by_sign (inr minus) other tens al ah bl bh cl dl dh = by_amount (3600 * (10 * (a - 48) + (b - 48)) + 60 * (10 * (c - 48) + (d - 48))) refl
      where
        by_amount : (n : ℕ) → 3600 * (10 * (a - 48) + (b - 48)) + 60 * (10 * (c - 48) + (d - 48)) ≡ n → OffsetTold (s ∷ a ∷ b ∷ c ∷ d ∷ [])
        by_amount zero none =
            let p : a ≡ 48 = omega arith in
            let q : b ≡ 48 = omega arith in
            let t : c ≡ 48 = omega arith in
            let u : d ≡ 48 = omega arith in
            let word : s ∷ a ∷ b ∷ c ∷ d ∷ [] ≡ codes "-0000" = (λ i. eqb-true s 45 minus i ∷ p i ∷ q i ∷ t i ∷ u i ∷ []) in
            absurd (not_true (bytes_eq (s ∷ a ∷ b ∷ c ∷ d ∷ []) (codes "-0000")) other (ap (λ w. bytes_eq w (codes "-0000")) word ∙ text_itself (codes "-0000")))
        by_amount (suc n) some =
            behind (s ∷ a ∷ b ∷ c ∷ d ∷ []) (10 * (a - 48) + (b - 48)) (10 * (c - 48) + (d - 48)) n (omega arith) (omega arith) some
            (ap (λ x. x ∷ a ∷ b ∷ c ∷ d ∷ []) (eqb-true s 45 minus) ∙ four_spelled 45 a b c d _ _ (two_spelled a b al ah bl bh) (two_spelled c d cl (omega arith) dl dh))
offset_told (s ∷ a ∷ b ∷ c ∷ d ∷ e ∷ more) h = cc

-- ---- what is written has the written form

low_digit : (n : ℕ) → n < 10 → is_ascii_digit (48 + n) ≡ true
low_digit n low = grind (arith, tests)

all_four : (a b c d : Bool) → a ≡ true → b ≡ true → c ≡ true → d ≡ true → (a && (b && (c && (d && true)))) ≡ true
all_four a b c d p q r t = λ i. p i && (q i && (r i && (t i && true)))

pub digits_formed : (h m : ℕ) → h < 100 → m < 100 → list_all is_ascii_digit (two_digits h ++ two_digits m) ≡ true
digits_formed h m hl ml = all_four _ _ _ _ (low_digit (h / 10) (omega arith)) (low_digit (h % 10) (omega arith)) (low_digit (m / 10) (omega arith)) (low_digit (m % 10) (omega arith))

four_true : (a b c d : Bool) → a ≡ true → b ≡ true → c ≡ true → d ≡ true → (a && b && c && d) ≡ true
four_true a b c d p q r t = λ i. p i && q i && r i && t i

-- what is spelled is in written form if its minutes are below 60 and it isn't `-0000`
pub spelled_formed : (s a b c d : ℕ) (z : ℤ) → SpellsOffset (s ∷ a ∷ b ∷ c ∷ d ∷ []) z → nat_lt c 54 ≡ true → bytes_eq (s ∷ a ∷ b ∷ c ∷ d ∷ []) (codes "-0000") ≡ false → is_offset (s ∷ a ∷ b ∷ c ∷ d ∷ []) ≡ true
spelled_formed s a b c d z (Ahead h m hl ml spelled is) tens other =
    four_true _ _ _ _ (ap (λ t. get_or t 0 0 == 43 || get_or t 0 0 == 45) spelled) (ap (λ t. list_all is_ascii_digit (drop 1 t)) spelled ∙ digits_formed h m hl ml) tens (ap not other)
spelled_formed s a b c d z (Behind h m hl ml spelled is) tens other =
    four_true _ _ _ _ (ap (λ t. get_or t 0 0 == 43 || get_or t 0 0 == 45) spelled) (ap (λ t. list_all is_ascii_digit (drop 1 t)) spelled ∙ digits_formed h m hl ml) tens (ap not other)

-- ---- an offset that is read after a zero and a space

zero_spelled : SpellsSeconds (48 ∷ []) (pos 0)
unfolding digits
zero_spelled = seconds_written (pos 0) (record { sfits = omega arith })

pub read_behind_zero : (word : Bytes) (z : ℤ) → SpellsOffset word z → SpellsTime (48 ∷ 32 ∷ word) (record { seconds = pos 0; offset = z })
read_behind_zero word z spells = record { front = 48 ∷ []; back = word; spelled = refl; seconds = zero_spelled; seconds_fit = record { sfits = omega arith }; offset = spells }

pub behind_zero : (word : Bytes) (time : Time) → SpellsTime (48 ∷ 32 ∷ word) time → SpellsOffset word time.offset
behind_zero word time spells = subst (λ w. SpellsOffset w time.offset) (front_is (48 ∷ 32 ∷ word) time spells (48 ∷ []) word refl refl).1 spells.offset

-- what was read of a word of five bytes
pub offset_of : (word : Bytes) (time : Time) (z : ℤ) → length word ≡ 5 → SpellsTime (48 ∷ 32 ∷ get_or word 0 0 ∷ get_or word 1 0 ∷ get_or word 2 0 ∷ get_or word 3 0 ∷ get_or word 4 0 ∷ []) time → z ≡ time.offset
    → get_or word 3 0 < 54 → (word ≡ codes "-0000" → ⊥) → IsOffsetOf word z
offset_of word time z five spells is tens other =
    let whole_word = five_reads word five in
    let here = behind_zero _ time spells in
    let low : nat_lt (get_or word 3 0) 54 ≡ true = low_test (get_or word 3 0) tens in
    let differs = false_from_ne_true (bytes_eq (get_or word 0 0 ∷ get_or word 1 0 ∷ get_or word 2 0 ∷ get_or word 3 0 ∷ get_or word 4 0 ∷ []) (codes "-0000")) (λ e. other (whole_word ∙ one_text _ _ e)) in
    let formed : is_offset word ≡ true = ap is_offset whole_word ∙ spelled_formed _ _ _ _ _ time.offset here low differs in
    let told = offset_told word formed in
    let one : told.offset ≡ z = offset_once word told.offset time.offset told.spells (subst (λ w. SpellsOffset w time.offset) (sym whole_word) here) ∙ sym is in
    record { formed = formed; whole = subst IsSpellableOffset one told.whole; spelled = ap offset_text (sym one) ∙ told.spelled }
  where
    low_test : (c : ℕ) → c < 54 → nat_lt c 54 ≡ true
    low_test c h = grind (arith, tests)

-- a word of the written form is read
pub offset_reads : (word : Bytes) → is_offset word ≡ true
    → (time : Time) × SpellsTime (48 ∷ 32 ∷ get_or word 0 0 ∷ get_or word 1 0 ∷ get_or word 2 0 ∷ get_or word 3 0 ∷ get_or word 4 0 ∷ []) time
offset_reads word formed =
    let told = offset_told word formed in
    let five = five_reads word (offset_length word told.offset told.spells) in
    (record { seconds = pos 0; offset = told.offset }, subst (λ w. SpellsTime (48 ∷ 32 ∷ w) (record { seconds = pos 0; offset = told.offset })) five (read_behind_zero word told.offset told.spells))
