-- Bytes without a line feed, and the first line.
use Rattle.std.proofs.Common.{◌≡◌, ◌⊎◌, inl, inr, ℕ, zero, suc, ◌+◌, ◌-◌, ◌≤◌, ◌<◌, Bool, true, false, ◌||◌, ◌==◌, List, [], ◌∷◌, ◌++◌, length, take, drop, get_or, min, refl, sym, ap, subst, ◌∙◌, arith}
use Rattle.std.specs.Prelude.{nat_le}
use borrow.Author.Tests.{leb-true}
use Rattle.std.proofs.Math.ListN.{get_or-append}
use Rattle.std.proofs.lemmas.List.{take-append-le, take_all, length-take, length-drop, get_or-take, get_or-drop}
use Rattle.std.proofs.Math.Seq.{take-add}
use Rattle.std.proofs.lemmas.Bool.Decides.{nat_tests}
use Rattle.history_model.specs.Bytes.{has_byte}
use Rattle.history_word.specs.Held.{IsUnbroken, IsLineOf}
use Rattle.std.proofs.lemmas.Bool.{false_from_ne_true, or_from, or_parts}

or_assoc : (a b c : Bool) → ((a || b) || c) ≡ (a || (b || c))
or_assoc true b c = refl
or_assoc false b c = refl

has_byte-append : (d : ℕ) (a b : List ℕ) → has_byte d (a ++ b) ≡ (has_byte d a || has_byte d b)
has_byte-append d [] b = refl
has_byte-append d (x ∷ a) b = ap (λ o. (x == d) || o) (has_byte-append d a b) ∙ sym (or_assoc (x == d) (has_byte d a) (has_byte d b))

pub unbroken_front : (a b : List ℕ) → IsUnbroken (a ++ b) → IsUnbroken a
unbroken_front a b h = (or_parts (has_byte 10 a) (has_byte 10 b) (sym (has_byte-append 10 a b) ∙ h)).0

pub unbroken_both : (a b : List ℕ) → IsUnbroken a → IsUnbroken b → IsUnbroken (a ++ b)
unbroken_both a b h k = has_byte-append 10 a b ∙ or_from (has_byte 10 a) (has_byte 10 b) h k

-- fewer bytes of the front
pub unbroken_less : (m n : ℕ) (xs : List ℕ) → m ≤ n → IsUnbroken (take n xs) → IsUnbroken (take m xs)
unbroken_less m n xs l h =
    let e : n ≡ m + (n - m) = omega arith in
    unbroken_front (take m xs) (take (n - m) (drop m xs)) (subst IsUnbroken (ap (λ k. take k xs) e ∙ take-add m (n - m) xs) h)

pub unbroken_nowhere : (xs : List ℕ) → ((k : ℕ) → k < length xs → (get_or xs k 0 == 10) ≡ true → ⊥) → IsUnbroken xs
unbroken_nowhere [] h = refl
unbroken_nowhere (x ∷ xs) h = or_from (x == 10) (has_byte 10 xs) (false_from_ne_true (x == 10) (h 0 (omega arith))) (unbroken_nowhere xs (λ k l e. h (suc k) (omega arith) e))

-- the bytes from one place up to another
abbrev pub between : ℕ → ℕ → List ℕ → List ℕ
between known looked xs = take (looked - known) (drop known xs)

looked_at : (known looked : ℕ) (xs : List ℕ) → known ≤ looked → take looked xs ≡ take known xs ++ between known looked xs
looked_at known looked xs l =
    let e : looked ≡ known + (looked - known) = omega arith in
    ap (λ k. take k xs) e ∙ take-add known (looked - known) xs

-- if no line feed is in the bytes that were looked at now
pub none_found : (known looked : ℕ) (xs : List ℕ) → known ≤ looked → IsUnbroken (take known xs)
    → ((k : ℕ) → 0 ≤ k → k < length (between known looked xs) → ¬ ((get_or (between known looked xs) k 0 == 10) ≡ true)) → IsUnbroken (take looked xs)
none_found known looked xs l h f =
    subst IsUnbroken (sym (looked_at known looked xs l)) (unbroken_both (take known xs) (between known looked xs) h (unbroken_nowhere (between known looked xs) (λ k less. f k (omega arith) less)))

is_ten : (b : ℕ) → (b == 10) ≡ true → b ≡ 10
is_ten b e = grind (arith, nat_tests)

-- if one is, at its first place
pub line_found : (known looked at : ℕ) (xs : List ℕ) → known ≤ looked → looked ≤ length xs → looked ≤ 4097 → IsUnbroken (take known xs) → at < length (between known looked xs)
    → ((k : ℕ) → 0 ≤ k → k < at → ¬ ((get_or (between known looked xs) k 0 == 10) ≡ true)) → (get_or (between known looked xs) at 0 == 10) ≡ true → IsLineOf (known + at) xs
line_found known looked at xs l within limit h in_range before here =
    let size : length (between known looked xs) ≡ looked - known = omega (arith, length-take (looked - known) (drop known xs), length-drop known xs) in
    let same : (k : ℕ) → k < looked - known → get_or (between known looked xs) k 0 ≡ get_or (drop known xs) k 0 = λ k less. get_or-take (looked - known) (drop known xs) k 0 less in
    record {
      short = omega arith;
      within = omega arith;
      ends = sym (get_or-drop known xs at 0) ∙ sym (same at (omega arith)) ∙ is_ten (get_or (between known looked xs) at 0) here;
      whole = subst IsUnbroken (sym (take-add known at xs)) (unbroken_both (take known xs) (take at (drop known xs)) h
          (unbroken_nowhere (take at (drop known xs)) (λ k less e.
          let short : k < at = omega (arith, length-take at (drop known xs)) in
          before k (omega arith) short (ap (λ b. b == 10) (same k (omega arith) ∙ sym (get_or-take at (drop known xs) k 0 short)) ∙ e))));
    }

-- a front that reaches the limit, or the end
pub unbroken_all : (known limit : ℕ) (xs : List ℕ) → min (length xs) limit ≤ known → IsUnbroken (take known xs) → IsUnbroken (take limit xs)
unbroken_all known limit xs l h = cut_unbroken known limit xs l h
  where
    cut : (n : ℕ) (xs : List ℕ) → take (min (length xs) n) xs ≡ take n xs
    cut zero xs = let e : min (length xs) zero ≡ zero = omega arith in ap (λ k. take k xs) e
    cut (suc n) [] = let e : min (length {A = ℕ} []) (suc n) ≡ zero = omega arith in ap (λ k. take {A = ℕ} k []) e
    cut (suc n) (x ∷ xs) = let e : min (length (x ∷ xs)) (suc n) ≡ suc (min (length xs) n) = omega arith in ap (λ k. take k (x ∷ xs)) e ∙ ap (λ ys. x ∷ ys) (cut n xs)

    cut_unbroken : (known limit : ℕ) (xs : List ℕ) → min (length xs) limit ≤ known → IsUnbroken (take known xs) → IsUnbroken (take limit xs)
    cut_unbroken known limit xs l h = subst IsUnbroken (cut limit xs) (unbroken_less (min (length xs) limit) known xs l h)

-- ---- the bytes before more followed

pub unbroken_old : (old new more : List ℕ) → old ++ more ≡ new → IsUnbroken (take 4097 new) → IsUnbroken (take 4097 old)
unbroken_old old new more same none = by_test (nat_le (length old) 4097) refl
  where
    by_test : (b : Bool) → nat_le (length old) 4097 ≡ b → IsUnbroken (take 4097 old)
    by_test true short =
        let fits : length old ≤ 4097 = leb-true _ _ short in
        let front : take (length old) new ≡ old = ap (take (length old)) (sym same) ∙ take-append-le (length old) old more (omega arith) ∙ take_all (length old) old (omega arith) in
        subst IsUnbroken (sym (take_all 4097 old fits)) (subst IsUnbroken front (unbroken_less (length old) 4097 new fits none))
    by_test false long =
        let over : 4097 ≤ length old = grind (arith, nat_tests) in
        subst IsUnbroken (ap (take 4097) (sym same) ∙ take-append-le 4097 old more over) none

holds_at : (xs : List ℕ) (k : ℕ) → k < length xs → get_or xs k 0 ≡ 10 → has_byte 10 xs ≡ true
holds_at [] k l e = absurd (omega (arith, l))
holds_at (x ∷ xs) zero l e = ap (λ b. (b == 10) || has_byte 10 xs) e
holds_at (x ∷ xs) (suc k) l e = ap (λ o. (x == 10) || o) (holds_at xs k (omega (arith, l)) e) ∙ or_true (x == 10)
  where
    or_true : (b : Bool) → (b || true) ≡ true
    or_true true = refl
    or_true false = refl

-- a line whose end is in the old bytes is found without a reading
pub stands_already : {S : Type 0} (s t : S) (old new more : List ℕ) (n : ℕ) → old ++ more ≡ new → IsLineOf n new → (t ≡ s) ⊎ IsUnbroken (take 4097 old) → n < length old → t ≡ s
stands_already s t old new more n same line (inl idle) here = idle
stands_already s t old new more n same line (inr none) here =
    let ends : get_or old n 0 ≡ 10 = sym (get_or-append old more 0 n here) ∙ ap (λ xs. get_or xs n 0) same ∙ line.ends in
    let inside : get_or (take 4097 old) n 0 ≡ 10 = get_or-take 4097 old n 0 (omega (arith, line.short)) ∙ ends in
    absurd (cc (sym none ∙ holds_at (take 4097 old) n (omega (arith, here, line.short, length-take 4097 old)) inside))
