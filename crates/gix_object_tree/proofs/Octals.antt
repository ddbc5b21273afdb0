-- Octal digits, read and written.
use Rattle.std.proofs.Common.{◌≡◌, ◌∙◌, ap, refl, sym, subst, ℕ, zero, suc, ◌+◌, ◌*◌, ◌/◌, ◌%◌, ◌^◌, ◌<◌, ◌≤◌, true, false, List, [], ◌∷◌, ◌++◌, length, drop, get_or, lt-ltb, eq-eqb, ne_eqb, arith}
use Rattle.std.specs.Prelude.{if◌then◌else◌}
use Rattle.std.specs.Fmt.{digits, digits_onto, digit_glyph}
use Rattle.std.specs.Str.Parse.{AllDigits, digits_value, digits_value_after}
use Rattle.std.specs.Char.{digit_value}
use Rattle.std.specs.Prelude.{codes, slice_set}
use Rattle.std.proofs.lemmas.Nat.{div_below}
use Rattle.std.proofs.Math.Nat.{pow-suc}
use Rattle.gix_object_tree.specs.ModeText.{Mode, mode_text, text_before}
use Rattle.gix_object_lines.specs.Bytes.{Lacks}
use Rattle.gix_object_lines.proofs.Cuts.{lacks_head, lacks_tail}
use Rattle.std.proofs.lemmas.List.{drop_more}

-- ---- reading

-- more digits write no smaller number
pub value_grows : (n : ℕ) (ds : List ℕ) → n ≤ digits_value_after 8 n ds
value_grows n [] = omega arith
value_grows n (c ∷ ds) = let later = value_grows (n * 8 + digit_value c) ds in omega arith

-- what is known of the digits before a place: their number, and that they are digits
pub record ReadTo (text : List ℕ) (at number : ℕ) : Type 0 where
  pub small : number < 65536
  pub value : digits_value_after 8 number (drop at text) ≡ digits_value 8 text
  pub all : AllDigits 8 (drop at text) → AllDigits 8 text
  pub left : AllDigits 8 text → AllDigits 8 (drop at text)

pub read_none : (text : List ℕ) → ReadTo text 0 0
read_none text = record { small = omega arith; value = refl; all = λ h. h; left = λ h. h }

pub read_one : (text : List ℕ) (at number digit d : ℕ) → at < length text → ReadTo text at number → digit ≡ digit_value (get_or text at d) → digit < 8 → number * 8 + digit < 65536 → ReadTo text (at + 1) (number * 8 + digit)
read_one text at number digit d within old is low fits =
    let cut = drop_more text at d within in
    let sum : number * 8 + digit ≡ number * 8 + digit_value (get_or text at d) = ap (λ n. number * 8 + n) is in record {
      small = fits;
      value = ap (λ n. digits_value_after 8 n (drop (at + 1) text)) sum ∙ sym (ap (digits_value_after 8 number) cut) ∙ old.value;
      all = λ later. old.all (subst (AllDigits 8) (sym cut) (subst (λ n. n < 8) is low, later));
      left = λ h. (subst (AllDigits 8) cut (old.left h)).1;
    }

-- a byte that is no digit, and a number that doesn't fit
pub read_bad : (text : List ℕ) (at number d : ℕ) → at < length text → ReadTo text at number → 8 ≤ digit_value (get_or text at d) → AllDigits 8 text → ⊥
read_bad text at number d within old high h =
    let here = (subst (AllDigits 8) (drop_more text at d within) (old.left h)).0 in
    let P : ℕ → Type 0 = λ n. n < 8 in omega arith

pub read_large : (text : List ℕ) (at number digit d : ℕ) → at < length text → ReadTo text at number → digit ≡ digit_value (get_or text at d) → 65536 ≤ number * 8 + digit → 65536 ≤ digits_value 8 text
read_large text at number digit d within old is large =
    let cut = drop_more text at d within in
    let whole : digits_value_after 8 (number * 8 + digit) (drop (at + 1) text) ≡ digits_value 8 text =
    ap (λ n. digits_value_after 8 (number * 8 + n) (drop (at + 1) text)) is ∙ sym (ap (digits_value_after 8 number) cut) ∙ old.value in
    let grows = value_grows (number * 8 + digit) (drop (at + 1) text) in
    omega arith

pub drop_all : (text : List ℕ) (n : ℕ) → n ≡ length text → drop n text ≡ []
drop_all [] zero e = refl
drop_all [] (suc n) e = refl
drop_all (x ∷ text) zero e = absurd (omega arith)
drop_all (x ∷ text) (suc n) e = drop_all text n (omega arith)

pub read_all : (text : List ℕ) (at number : ℕ) → at ≡ length text → ReadTo text at number → AllDigits 8 text × (digits_value 8 text ≡ number)
read_all text at number end old =
    let nothing = drop_all text at end in
    (old.all (subst (AllDigits 8) (sym nothing) tt), sym old.value ∙ ap (digits_value_after 8 number) nothing)

-- ---- writing

glyph : (n : ℕ) → digit_glyph false (n % 8) ≡ 48 + n % 8
glyph n = let low : n % 8 < 10 = omega arith in ap (λ b. if b then 48 + n % 8 else (if false then 55 + n % 8 else 87 + n % 8)) (lt-ltb _ _ low)

-- a digit more of a number that has more
pub onto_more : (k n : ℕ) (acc : List ℕ) → 0 < n / 8 → digits_onto (suc k) 8 false n acc ≡ digits_onto k 8 false (n / 8) ((48 + n % 8) ∷ acc)
onto_more k n acc more =
    ap (λ b. if b then digit_glyph false (n % 8) ∷ acc else digits_onto k 8 false (n / 8) (digit_glyph false (n % 8) ∷ acc)) (ne_eqb (n / 8) 0 (λ is. omega arith))
    ∙ ap (λ g. digits_onto k 8 false (n / 8) (g ∷ acc)) (glyph n)

-- the last one
pub onto_last : (k n : ℕ) (acc : List ℕ) → n / 8 ≡ 0 → digits_onto (suc k) 8 false n acc ≡ (48 + n % 8) ∷ acc
onto_last k n acc last =
    ap (λ b. if b then digit_glyph false (n % 8) ∷ acc else digits_onto k 8 false (n / 8) (digit_glyph false (n % 8) ∷ acc)) (eq-eqb (n / 8) 0 last)
    ∙ ap (λ g. g ∷ acc) (glyph n)

drop_set : (xs : List ℕ) (k v : ℕ) → k < length xs → drop k (slice_set xs k v) ≡ v ∷ drop (suc k) xs
drop_set [] k v within = absurd (omega arith)
drop_set (x ∷ xs) zero v within = refl
drop_set (x ∷ xs) (suc k) v within = let less : k < length xs = omega arith in drop_set xs k v less

-- the last digit of what is left is written before those after it
pub write_digit : (k rest number : ℕ) (bytes : List ℕ) → k < length bytes → digits_onto (58 + suc k) 8 false rest (drop (suc k) bytes) ≡ digits 8 false number → 0 < rest / 8
    → digits_onto (58 + k) 8 false (rest / 8) (drop k (slice_set bytes k (48 + rest % 8))) ≡ digits 8 false number
write_digit k rest number bytes within old more =
    let next : 58 + suc k ≡ suc (58 + k) = omega arith in
    ap (digits_onto (58 + k) 8 false (rest / 8)) (drop_set bytes k (48 + rest % 8) within)
    ∙ sym (onto_more (58 + k) rest (drop (suc k) bytes) more)
    ∙ ap (λ n. digits_onto n 8 false rest (drop (suc k) bytes)) (sym next)
    ∙ old

pub write_last : (k rest number : ℕ) (bytes : List ℕ) → k < length bytes → digits_onto (58 + suc k) 8 false rest (drop (suc k) bytes) ≡ digits 8 false number → rest / 8 ≡ 0
    → drop k (slice_set bytes k (48 + rest % 8)) ≡ digits 8 false number
write_last k rest number bytes within old last =
    let next : 58 + suc k ≡ suc (58 + k) = omega arith in
    drop_set bytes k (48 + rest % 8) within
    ∙ sym (onto_last (58 + k) rest (drop (suc k) bytes) last)
    ∙ ap (λ n. digits_onto n 8 false rest (drop (suc k) bytes)) (sym next)
    ∙ old

pub padded_text : (mode : Mode) → mode.padded ≡ true → mode.value ≡ 16384 → mode_text mode ≡ codes "040000"
unfolding digits
padded_text mode padded is =
    ap (λ b. if b then 48 ∷ digits 8 false mode.value else digits 8 false mode.value) padded ∙ ap (λ n. 48 ∷ digits 8 false n) is

-- ---- the text before a byte

pub before_cut : (byte : ℕ) (text rest : List ℕ) → Lacks byte text → text_before byte (text ++ byte ∷ rest) ≡ text
before_cut byte [] rest lacks = ap (λ b. if b then [] else byte ∷ text_before byte rest) (eq-eqb byte byte refl)
before_cut byte (x ∷ text) rest lacks =
    ap (λ b. if b then [] else x ∷ text_before byte (text ++ byte ∷ rest)) (ne_eqb x byte (lacks_head byte x text lacks))
    ∙ ap (λ t. x ∷ t) (before_cut byte text rest (lacks_tail byte x text lacks))

pub before_none : (byte : ℕ) (text : List ℕ) → Lacks byte text → text_before byte text ≡ text
before_none byte [] lacks = refl
before_none byte (x ∷ text) lacks =
    ap (λ b. if b then [] else x ∷ text_before byte text) (ne_eqb x byte (lacks_head byte x text lacks))
    ∙ ap (λ t. x ∷ t) (before_none byte text (lacks_tail byte x text lacks))

pub eighth : (k n : ℕ) → n < 8 ^ suc k → n / 8 < 8 ^ k
eighth k n less = div_below n 8 (8 ^ k) (omega arith) (omega (arith, pow-suc 8 k))
