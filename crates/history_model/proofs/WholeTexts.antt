-- One text has one kind's word and one content; ids of one kind have one length.
use Rattle.std.proofs.Common.{ap, ◌≡◌, ℕ, zero, suc, ◌+◌, ◌<◌, ◌%◌, ◌/◌, Bool, true, false, cond, [], ◌∷◌, ◌++◌, length, refl, sym, ◌∙◌, arith, tests, nat_lt, ◌==◌, append_assoc, decimal}
use Rattle.std.specs.Fmt.{digits_onto, digit_glyph, digits}
use Rattle.gix_object_lines.specs.Kind.{kind_word}
use Rattle.gix_object_lines.specs.declared.kind.Kind.{Kind as ObjectKind}
use Rattle.gix_object_lines.proofs.Headers.{word_lacks_space, kind_word-injective}
use Rattle.history_model.specs.Bytes.{Bytes, has_byte}
use Rattle.history_model.specs.Objects.{object_text, Value, object_kind, content_of, value_text}
use Rattle.gix_hash.specs.declared.kind.Kind.{Kind}
use Rattle.history_model.proofs.PartLemmas.{split_at, head_same, tail_same}
use Rattle.std.proofs.lemmas.Bool.{or_from}

unequal_numbers : (a d : ℕ) → d < a → (a == d) ≡ false
unequal_numbers a d h = grind (arith, tests)

glyph_high : (d n : ℕ) → d < 48 → (digit_glyph false n == d) ≡ false
glyph_high d n h = go (nat_lt n 10)
  where
    go : (b : Bool) → (cond b (48 + n) (87 + n) == d) ≡ false
    go true = unequal_numbers (48 + n) d (omega arith)
    go false = unequal_numbers (87 + n) d (omega arith)

either_high : (d : ℕ) (b : Bool) (xs ys : Bytes) → has_byte d xs ≡ false → has_byte d ys ≡ false → has_byte d (cond b xs ys) ≡ false
either_high d true xs ys h k = h
either_high d false xs ys h k = k

digits_high : (d : ℕ) → d < 48 → (k base n : ℕ) (acc : Bytes) → has_byte d acc ≡ false → has_byte d (digits_onto k base false n acc) ≡ false
digits_high d h zero base n acc none = none
digits_high d h (suc k) base n acc none =
    let more : has_byte d (digit_glyph false (n % base) ∷ acc) ≡ false = or_from (digit_glyph false (n % base) == d) (has_byte d acc) (glyph_high d (n % base) h) none in
    either_high d (n / base == 0) (digit_glyph false (n % base) ∷ acc) (digits_onto k base false (n / base) (digit_glyph false (n % base) ∷ acc)) more
    (digits_high d h k base (n / base) (digit_glyph false (n % base) ∷ acc) more)

-- a decimal number has no byte below the digits
pub decimal_high : (d : ℕ) → d < 48 → (n : ℕ) → has_byte d (decimal n) ≡ false
unfolding digits
decimal_high d h n = digits_high d h 64 10 n [] refl

-- equal texts of a word and a content have equal words and contents
pub word_same : (v w a b : Bytes) → has_byte 32 v ≡ false → has_byte 32 w ≡ false → v ++ 32 ∷ decimal (length a) ++ 0 ∷ a ≡ w ++ 32 ∷ decimal (length b) ++ 0 ∷ b → (v ≡ w) × (a ≡ b)
word_same v w a b hv hw e =
    let cut = split_at 32 v w (decimal (length a) ++ 0 ∷ a) (decimal (length b) ++ 0 ∷ b) hv hw
    (sym (append_assoc v (32 ∷ decimal (length a)) (0 ∷ a)) ∙ e ∙ append_assoc w (32 ∷ decimal (length b)) (0 ∷ b)) in
    let rest = split_at 0 (decimal (length a)) (decimal (length b)) a b (decimal_high 0 (omega arith) (length a)) (decimal_high 0 (omega arith) (length b)) cut.1 in
    (cut.0, rest.1)

-- an object's text is one of its kind's word
pub object_cut : (object : ObjectKind) (content : Bytes) → object_text object content ≡ kind_word object ++ 32 ∷ decimal (length content) ++ 0 ∷ content
object_cut object content = append_assoc (kind_word object ++ 32 ∷ decimal (length content)) (0 ∷ []) content

pub object_same : (v w : ObjectKind) (a b : Bytes) → object_text v a ≡ object_text w b → (v ≡ w) × (a ≡ b)
object_same v w a b e =
    let same = word_same (kind_word v) (kind_word w) a b (word_lacks_space v) (word_lacks_space w) (sym (object_cut v a) ∙ e ∙ object_cut w b) in
    (kind_word-injective v w same.0, same.1)

-- the word that a value's text begins with
abbrev pub type_word : Value → Bytes
type_word value = kind_word (object_kind value)

pub text_same : (kind : Kind) (v w : Value) → value_text kind v ≡ value_text kind w → (type_word v ≡ type_word w) × (content_of kind v ≡ content_of kind w)
text_same kind v w e = let same = object_same (object_kind v) (object_kind w) (content_of kind v) (content_of kind w) e in (ap kind_word same.0, same.1)

-- ---- ids

-- equal texts whose first parts have one length are equal part by part
pub cut_same : (a b x y : Bytes) → length a ≡ length b → a ++ x ≡ b ++ y → (a ≡ b) × (x ≡ y)
cut_same [] [] x y n e = (refl, e)
cut_same [] (c ∷ b) x y n e = absurd (omega arith)
cut_same (c ∷ a) [] x y n e = absurd (omega arith)
cut_same (c ∷ a) (d ∷ b) x y n e =
    let rest = cut_same a b x y (omega arith) (tail_same e) in
    (λ i. head_same e i ∷ rest.0 i, rest.1)
