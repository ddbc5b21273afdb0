-- Where a message's title ends, and what its first 1,025 bytes say of it.
use Rattle.std.proofs.Common.{◌≡◌, ℕ, zero, suc, ◌<◌, ◌≤◌, Bool, true, false, cond, not, ◌||◌, [], ◌∷◌, length, take, refl, sym, ◌∙◌, ap, nat_lt, ◌==◌, arith, length-take}
use Rattle.std.specs.List.{list_any}
use Rattle.std.proofs.lemmas.Bool.{or_parts}
use Rattle.std.proofs.lemmas.List.{take_all}
use Rattle.std.proofs.lemmas.List.Sums.{take_while-cons}
use borrow.Author.Tests.{ltb-true, ltb-false}
use Rattle.history_model.specs.Bytes.{Bytes, has_byte, is_empty}
use Rattle.history_model.specs.Forms.{title, max_title}
use Rattle.history_model.specs.Causes.{is_bad_title}
use Rattle.history_word.specs.Fields.{Keeps, max_kept}
use Rattle.history_word.specs.declared.command.Field.{Field}
use Rattle.history_word.specs.declared.command.Field.TheVariants.{Whole, TooLong}
use Rattle.history_repository.specs.Fields.{kept_bytes}
use Rattle.history_repository.proofs.FieldLemmas.{beyond, not_empty}

-- ---- a front of a message

-- the title of a front is a front of the title
title_front : (k : ℕ) (message : Bytes) → title (take k message) ≡ take k (title message)
title_front zero [] = refl
title_front (suc k) [] = refl
title_front zero (b ∷ message) = refl
title_front (suc k) (b ∷ message) =
    take_while-cons (λ c. not (c == 10)) b (take k message) ∙ by_test (not (b == 10)) (title_front k message) ∙ ap (take (suc k)) (sym (take_while-cons (λ c. not (c == 10)) b message))
  where
    by_test : (t : Bool) → title (take k message) ≡ take k (title message) → cond t (b ∷ title (take k message)) [] ≡ take (suc k) (cond t (b ∷ title message) [])
    by_test true e = ap (λ rest. b ∷ rest) e
    by_test false e = refl

too_long : (text : Bytes) → max_title < length text → is_bad_title text ≡ true
too_long text large = ap (λ over. (((is_empty text || over) || has_byte 9 text) || has_byte 13 text) || has_byte 0 text) (beyond max_title (length text) large) ∙ so (is_empty text)
  where
    so : (e : Bool) → ((((e || true) || has_byte 9 text) || has_byte 13 text) || has_byte 0 text) ≡ true
    so true = refl
    so false = refl

bad_front : (text : Bytes) → is_bad_title (take max_kept text) ≡ is_bad_title text
bad_front text = by_test (nat_lt max_kept (length text)) refl
  where
    by_test : (b : Bool) → nat_lt max_kept (length text) ≡ b → is_bad_title (take max_kept text) ≡ is_bad_title text
    by_test true large = too_long (take max_kept text) (omega (arith, length-take max_kept text, ltb-true _ _ large)) ∙ sym (too_long text (omega (arith, ltb-true _ _ large)))
    by_test false small = ap is_bad_title (take_all max_kept text (omega (arith, ltb-false _ _ small)))

-- The title of a message is bad exactly if that of what is kept of it is.
pub bad_kept : (limit : ℕ) (field : Field) (message : Bytes) → Keeps limit field message → is_bad_title (title (kept_bytes field)) ≡ is_bad_title (title message)
bad_kept limit (Whole kept) message h = ap (λ m. is_bad_title (title m)) h.1
bad_kept limit (TooLong kept) message h = ap (λ m. is_bad_title (title m)) h.1 ∙ ap is_bad_title (title_front max_kept message) ∙ bad_front (title message)

-- ---- messages of one line

one_line : (message : Bytes) → has_byte 10 message ≡ false → title message ≡ message
one_line [] none = refl
one_line (b ∷ message) none =
    let parts = or_parts (b == 10) (has_byte 10 message) none in
    take_while-cons (λ c. not (c == 10)) b message ∙ ap (λ t. cond (not t) (b ∷ title message) []) parts.0 ∙ ap (λ rest. b ∷ rest) (one_line message parts.1)

-- a second line is bad, and without one the whole message is the title
line_told : (message : Bytes) → (is_bad_title (title message) || has_byte 10 message) ≡ (is_bad_title message || has_byte 10 message)
line_told message = go (has_byte 10 message) refl
  where
    or_true : (b : Bool) → (b || true) ≡ true
    or_true true = refl
    or_true false = refl

    go : (b : Bool) → has_byte 10 message ≡ b → (is_bad_title (title message) || has_byte 10 message) ≡ (is_bad_title message || has_byte 10 message)
    go true e = (λ i. is_bad_title (title message) || e i) ∙ or_true (is_bad_title (title message)) ∙ sym ((λ i. is_bad_title message || e i) ∙ or_true (is_bad_title message))
    go false e = ap (λ t. is_bad_title t || has_byte 10 message) (one_line message e)

-- A message is one line that can be a title exactly if what is kept of it is.
pub bad_line_kept : (limit : ℕ) (field : Field) (message : Bytes) → max_title ≤ limit → Keeps limit field message → (is_bad_title (kept_bytes field) || has_byte 10 (kept_bytes field)) ≡ (is_bad_title (title message) || has_byte 10 message)
bad_line_kept limit (Whole kept) message wide h = ap (λ m. is_bad_title m || has_byte 10 m) h.1 ∙ sym (line_told message)
bad_line_kept limit (TooLong kept) message wide h =
    ap (λ m. is_bad_title m || has_byte 10 m) h.1
    ∙ ap (λ b. b || has_byte 10 (take max_kept message)) (bad_front message ∙ too_long message (omega (arith, wide, h.0)))
    ∙ sym (line_told message ∙ ap (λ b. b || has_byte 10 message) (too_long message (omega (arith, wide, h.0))))

-- and so a message that is none is kept whole
pub good_line_kept : (limit : ℕ) (field : Field) (message : Bytes) → max_title ≤ limit → Keeps limit field message → (is_bad_title (title message) || has_byte 10 message) ≡ false → kept_bytes field ≡ message
good_line_kept limit (Whole kept) message wide h good = h.1
good_line_kept limit (TooLong kept) message wide h good =
    let bad = line_told message ∙ ap (λ b. b || has_byte 10 message) (too_long message (omega (arith, wide, h.0))) in absurd (cc (sym good ∙ bad))

-- ---- bytes that no title may have

pub barred_in_title : (text : Bytes) → list_any (λ b. (b == 0 || b == 9) || b == 13) text ≡ ((has_byte 9 text || has_byte 13 text) || has_byte 0 text)
barred_in_title [] = refl
barred_in_title (b ∷ text) =
    ap (λ t. ((b == 0 || b == 9) || b == 13) || t) (barred_in_title text)
    ∙ turned (b == 0) (b == 9) (b == 13) (has_byte 9 text) (has_byte 13 text) (has_byte 0 text)
  where
    turned : (o t r u v w : Bool) → (((o || t) || r) || ((u || v) || w)) ≡ (((t || u) || (r || v)) || (o || w))
    turned true true r u v w = refl
    turned true false true true v w = refl
    turned true false true false v w = refl
    turned true false false true v w = refl
    turned true false false false true w = refl
    turned true false false false false w = refl
    turned false true r u v w = refl
    turned false false true true v w = refl
    turned false false true false v w = refl
    turned false false false u v w = refl

-- a title that is neither empty nor over its limit is bad for a byte
pub bad_for_a_byte : (text : Bytes) → (length text == 0) ≡ false → nat_lt max_title (length text) ≡ false → ((has_byte 9 text || has_byte 13 text) || has_byte 0 text) ≡ is_bad_title text
bad_for_a_byte text some short = sym (
    ap (λ e. (((e || nat_lt max_title (length text)) || has_byte 9 text) || has_byte 13 text) || has_byte 0 text) (not_empty text some)
    ∙ ap (λ over. ((over || has_byte 9 text) || has_byte 13 text) || has_byte 0 text) short)
