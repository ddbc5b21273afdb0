-- Seconds as commands spell them.
use Rattle.std.proofs.Common.{◌≡◌, ℕ, ◌≢◌, ◌<◌, ◌≤◌, ◌^◌, Bool, true, false, cond, ◌&&◌, ◌⊎◌, inl, inr, Some, None, refl, sym, ◌∙◌, ap, nat_lt, nat_le, arith}
use Rattle.std.proofs.lemmas.Bool.Decides.{nat_tests}
use Rattle.std.specs.Prelude.{decimal}
use Rattle.history_model.specs.Bytes.{Bytes, is_decimal, digits_value}
use Rattle.history_word.proofs.LineLemmas.{no_number, a_number}
use Rattle.history_model.specs.Forms.{is_seconds, max_seconds}
use Rattle.history_word.specs.LineTable.{number_of}

-- a word that spells a number has its form and its value
told : (decimal : Bool) (value n : ℕ) → cond (decimal && nat_lt value (2 ^ 64)) (Some value) None ≡ Some n → (decimal ≡ true) × (value ≡ n)
told true value n e = by_test (nat_lt value (2 ^ 64)) e
  where
    by_test : (b : Bool) → cond b (Some value) None ≡ Some n → (true ≡ true) × (value ≡ n)
    by_test true e = (refl, cc)
    by_test false e = cc
told false value n e = cc

pub good_seconds : (word : Bytes) (n : ℕ) → number_of word ≡ Some n → n ≤ max_seconds → (is_seconds word ≡ true) × (n ≡ digits_value word)
good_seconds word n e small =
    let so = told (is_decimal word) (digits_value word) n e in
    (ap (λ d. d && nat_le (digits_value word) max_seconds) so.0 ∙ ap (λ v. nat_le v max_seconds) so.1 ∙ fits, sym so.1)
  where
    fits : nat_le n max_seconds ≡ true
    fits = grind (arith, nat_tests)

pub late_seconds : (word : Bytes) (n : ℕ) → number_of word ≡ Some n → max_seconds < n → is_seconds word ≡ false
late_seconds word n e large =
    let so = told (is_decimal word) (digits_value word) n e in
    ap (λ d. d && nat_le (digits_value word) max_seconds) so.0 ∙ ap (λ v. nat_le v max_seconds) so.1 ∙ over
  where
    over : nat_le n max_seconds ≡ false
    over = grind (arith, nat_tests)

pub no_seconds : (word : Bytes) → number_of word ≡ None → is_seconds word ≡ false
no_seconds word e = by_form (is_decimal word) e
  where
    over : (value : ℕ) → nat_lt value (2 ^ 64) ≡ false → nat_le value max_seconds ≡ false
    over value h = grind (arith, nat_tests)

    by_value : (b : Bool) → nat_lt (digits_value word) (2 ^ 64) ≡ b → cond b (Some (digits_value word)) None ≡ None → nat_le (digits_value word) max_seconds ≡ false
    by_value true h e = cc
    by_value false h e = over (digits_value word) h

    by_form : (d : Bool) → cond (d && nat_lt (digits_value word) (2 ^ 64)) (Some (digits_value word)) None ≡ None → (d && nat_le (digits_value word) max_seconds) ≡ false
    by_form true e = by_value (nat_lt (digits_value word) (2 ^ 64)) refl e
    by_form false e = refl

le_or : (a b : ℕ) → (a ≤ b) ⊎ (b < a)
le_or a b = grind arith

not_late : (word : Bytes) → is_seconds word ≡ true → is_seconds word ≡ false → ⊥
not_late word is isnt = cc (sym is ∙ isnt)

-- a word that spells no number within the limit
pub spells_none : (word : Bytes) → ((n : ℕ) → n ≤ max_seconds → word ≢ decimal n) → is_seconds word ≡ false
spells_none word none = by_test (is_seconds word) refl
  where
    by_test : (b : Bool) → is_seconds word ≡ b → b ≡ false
    by_test false e = refl
    by_test true is = absurd (not_late word is (no_seconds word (no_number word (λ n h e. elim (le_or n max_seconds) [
      | inl small ↦ none n small e
      | inr large ↦ not_late word is (late_seconds word n (a_number word n h e) large)
    ]))))

pub spells_some : (word : Bytes) (n : ℕ) → n ≤ max_seconds → word ≡ decimal n → (is_seconds word ≡ true) × (n ≡ digits_value word)
spells_some word n small e = good_seconds word n (a_number word n (omega arith) e) small
