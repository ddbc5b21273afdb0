-- The laws of spellings.
use Rattle.std.proofs.Common.{◌≡◌, ℕ, suc, ◌<◌, List, [], ◌∷◌, length, map, get_or, Some, refl, sym, ap, ◌∙◌, arith, subst, Bool}
use Rattle.std.specs.Prelude.{IsTrue, ◌↔◌}
use Rattle.hex.specs.Hex.{hex_digit_value}
use Rattle.hex.proofs.HexLemmas.{IsDigits-lower_digits}
use Rattle.gix_hash.specs.Kind.{hex_len, kind_of_byte_len}
use Rattle.gix_hash.specs.Views.{IsBytesOf}
use Rattle.gix_hash.specs.Id.{Id, digits_of}
use Rattle.gix_hash.specs.Order.{id_eq}
use Rattle.gix_hash.specs.OrderLaws.{same_id, id_eq-same, id_eq-itself}
use Rattle.gix_hash.specs.Spelling.{hex_text, IsHexOf}
use Rattle.gix_hash.proofs.KindLemmas.{hex_len-injective}

-- digits are below 16
pub data AreDigits : List ℕ → Type 0 where
  none : AreDigits []
  more : {d : ℕ} {ds : List ℕ} → d < 16 → AreDigits ds → AreDigits (d ∷ ds)

-- those of bytes are
pub digits_of-AreDigits : (xs : List ℕ) → ((i : ℕ) → get_or xs i 0 < 256) → AreDigits (digits_of xs)
digits_of-AreDigits [] h = none
digits_of-AreDigits (x ∷ xs) h =
    let fits : x < 256 = h 0 in
    more (omega arith) (more (omega arith) (digits_of-AreDigits xs (λ i. h (suc i))))

-- printed digits read back
pub hex_text-IsHexOf : (ds : List ℕ) → AreDigits ds → IsHexOf (hex_text ds) ds
hex_text-IsHexOf [] none = refl
hex_text-IsHexOf (d ∷ ds) (more low h) = rw (IsDigits-lower_digits d low, hex_text-IsHexOf ds h) refl

-- digits are found by the values of their characters
pub same_values : (xs ys : List ℕ) → map (λ (d : ℕ). Some d) xs ≡ map (λ (d : ℕ). Some d) ys → xs ≡ ys
same_values [] [] e = refl
same_values [] (y ∷ ys) e = cc
same_values (x ∷ xs) [] e = cc
same_values (x ∷ xs) (y ∷ ys) e =
    let first : x ≡ y = cc in
    let others : map (λ (d : ℕ). Some d) xs ≡ map (λ (d : ℕ). Some d) ys = cc in
    let rest = same_values xs ys others in
    rw (first, rest) refl

-- ids of as many digits with the same values are one
pub one_reading : (a b : Id) → hex_len a.kind ≡ hex_len b.kind → map (λ (d : ℕ). Some d) a.digits ≡ map (λ (d : ℕ). Some d) b.digits → a ≡ b
one_reading a b len e =
    let kinds = hex_len-injective a.kind b.kind len in
    same_id a b kinds (same_values a.digits b.digits e)

-- an id's digits are below 16 where its bytes fit
pub id-AreDigits : (id : Id) (bytes : List ℕ) → IsBytesOf bytes id → ((i : ℕ) → get_or bytes i 0 < 256) → AreDigits id.digits
id-AreDigits id bytes h fits = subst (λ (ds : List ℕ). AreDigits ds) h.digits (digits_of-AreDigits bytes fits)

-- the digits of bytes that fit are below 16
pub bytes-AreDigits : (digits bytes : List ℕ) → digits_of bytes ≡ digits → ((i : ℕ) → get_or bytes i 0 < 256) → AreDigits digits
bytes-AreDigits digits bytes is fits = subst (λ (ds : List ℕ). AreDigits ds) is (digits_of-AreDigits bytes fits)

-- one list of bytes shows one id
pub same_view : (xs ys : List ℕ) → xs ≡ ys
    → ◌≡◌ {A = Id} (record { kind = kind_of_byte_len (length xs); digits = digits_of xs }) (record { kind = kind_of_byte_len (length ys); digits = digits_of ys })
same_view xs ys e = rw e refl

-- digits are found by their text
pub same_text : (xs ys : List ℕ) → AreDigits xs → AreDigits ys → hex_text xs ≡ hex_text ys → xs ≡ ys
same_text xs ys hx hy e =
    same_values xs ys (sym (hex_text-IsHexOf xs hx) ∙ (ap (λ (t : List ℕ). map hex_digit_value t) e ∙ hex_text-IsHexOf ys hy))

-- a test of equality is one of kinds and texts
pub texts_decide : (a b : Id) (r : Bool) → r ≡ id_eq a b → AreDigits a.digits → AreDigits b.digits
    → IsTrue r ↔ ((a.kind ≡ b.kind) × (hex_text a.digits ≡ hex_text b.digits))
texts_decide a b r e ha hb = (
  λ h.
      let one = id_eq-same a b (sym e ∙ h) in
      (ap (λ (c : Id). c.kind) one, ap (λ (c : Id). hex_text c.digits) one),
  λ h. e ∙ subst (λ (c : Id). IsTrue (id_eq a c)) (same_id a b h.0 (same_text a.digits b.digits ha hb h.1)) (id_eq-itself a),
)

-- whole ids with one text have one kind
pub kind_of_text : (a b : Id) → length a.digits ≡ hex_len a.kind → length b.digits ≡ hex_len b.kind
    → AreDigits a.digits → AreDigits b.digits → hex_text a.digits ≡ hex_text b.digits → a.kind ≡ b.kind
kind_of_text a b la lb ha hb e =
    hex_len-injective a.kind b.kind (sym la ∙ (ap (λ (ds : List ℕ). length ds) (same_text a.digits b.digits ha hb e) ∙ lb))
