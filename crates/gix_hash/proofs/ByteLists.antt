-- Bytes and their digits.
use Rattle.std.proofs.Common.{◌≡◌, ℕ, ◌*◌, ◌/◌, ◌%◌, List, [], ◌∷◌, ◌++◌, length, refl, ap, sym, ◌∙◌, arith, Bool, nat_eq, subst}
use Rattle.std.specs.Prelude.{IsTrue, ◌↔◌}
use Rattle.std.specs.Cmp.Lexicographic.{pointwise}
use Rattle.std.proofs.lemmas.Slice.Eq.{bytes_eq-Decides}
use Rattle.gix_hash.specs.declared.object_id.ObjectId.{ObjectId}
use Rattle.gix_hash.specs.declared.object_id.ObjectId.TheVariants.{Sha1, Sha256}
use Rattle.gix_hash.specs.Kind.{kind_of_byte_len, byte_len}
use Rattle.gix_hash.specs.Id.{Id, digits_of, id_of, bytes_of}
use Rattle.gix_hash.specs.Views.{IsBytesOf}
use Rattle.gix_hash.specs.Order.{id_eq}
use Rattle.gix_hash.specs.OrderLaws.{same_id, id_eq-same, id_eq-itself}
use Rattle.gix_hash.proofs.KindLemmas.{byte_len-injective}
use Rattle.std.specs.Cmp.{both_ways}

-- two digits for each byte
pub length-digits_of : (xs : List ℕ) → length (digits_of xs) ≡ 2 * length xs
length-digits_of [] = refl
length-digits_of (x ∷ xs) = let e = length-digits_of xs in omega (arith, e)

-- the digits of one list of bytes after another
pub digits_of-append : (xs ys : List ℕ) → digits_of (xs ++ ys) ≡ digits_of xs ++ digits_of ys
digits_of-append [] ys = refl
digits_of-append (x ∷ xs) ys = ap (λ (ds : List ℕ). x / 16 ∷ x % 16 ∷ ds) (digits_of-append xs ys)

-- the same digits are the same bytes
pub digits_of-injective : (xs ys : List ℕ) → digits_of xs ≡ digits_of ys → xs ≡ ys
digits_of-injective [] [] e = refl
digits_of-injective [] (y ∷ ys) e = cc
digits_of-injective (x ∷ xs) [] e = cc
digits_of-injective (x ∷ xs) (y ∷ ys) e =
    let high : x / 16 ≡ y / 16 = cc in
    let low : x % 16 ≡ y % 16 = cc in
    let rest : digits_of xs ≡ digits_of ys = cc in
    let same : x ≡ y = omega arith in
    let more : xs ≡ ys = digits_of-injective xs ys rest in
    cc

-- the digits of an id are those of its bytes
pub digits-of_bytes : (id : ObjectId) → (id_of id).digits ≡ digits_of (bytes_of id)
digits-of_bytes (Sha1 bytes) = refl
digits-of_bytes (Sha256 bytes) = refl

-- the bytes of an id are found by their digits
pub IsBytesOf-same : (id : ObjectId) (bytes : List ℕ) → IsBytesOf bytes (id_of id) → bytes ≡ bytes_of id
IsBytesOf-same id bytes h = digits_of-injective bytes (bytes_of id) (h.digits ∙ digits-of_bytes id)

-- the comparison of two views' bytes decides whether they are one id
pub viewed-Decides : (a b : List ℕ) (r : Bool) → r ≡ pointwise nat_eq a b
    → IsTrue r ↔ (◌≡◌ {A = Id} (record { kind = kind_of_byte_len (length a); digits = digits_of a }) (record { kind = kind_of_byte_len (length b); digits = digits_of b }))
viewed-Decides a b r e =
    let decides = bytes_eq-Decides a b in (
      λ h. let same : a ≡ b = decides.0 (sym e ∙ h) in rw same refl,
      λ h. let same : a ≡ b = digits_of-injective a b (ap (λ (id : Id). id.digits) h) in e ∙ decides.1 same,
    )

-- the comparison of two ids' bytes decides whether they are one id
pub ids-Decides : (a b : Id) (xs ys : List ℕ) (r : Bool) → IsBytesOf xs a → IsBytesOf ys b → r ≡ pointwise nat_eq xs ys → r ≡ id_eq a b
ids-Decides a b xs ys r hx hy e =
    let decides = bytes_eq-Decides xs ys in
    both_ways r (id_eq a b)
    (λ h.
    let same : xs ≡ ys = decides.0 (sym e ∙ h) in
    let kinds : a.kind ≡ b.kind = byte_len-injective a.kind b.kind (sym hx.whole ∙ (ap (λ (z : List ℕ). length z) same ∙ hy.whole)) in
    let digits : a.digits ≡ b.digits = sym hx.digits ∙ (ap digits_of same ∙ hy.digits) in
    let one : a ≡ b = same_id a b kinds digits in
    subst (λ (c : Id). IsTrue (id_eq a c)) one (id_eq-itself a))
    (λ h.
    let one : a ≡ b = id_eq-same a b h in
    let same : xs ≡ ys = digits_of-injective xs ys (hx.digits ∙ (ap (λ (c : Id). c.digits) one ∙ sym hy.digits)) in
    e ∙ decides.1 same)

-- how many digits an id has
pub id-digits_len : (id : Id) (bytes : List ℕ) → IsBytesOf bytes id → length id.digits ≡ 2 * byte_len id.kind
id-digits_len id bytes h =
    sym (ap (λ (ds : List ℕ). length ds) h.digits) ∙ (length-digits_of bytes ∙ ap (λ (n : ℕ). 2 * n) h.whole)
