-- Ids: their equality, maps by them, and that their digits, texts and bytes determine them.
use Rattle.std.proofs.Common.{◌≡◌, ℕ, zero, suc, ◌+◌, ◌*◌, ◌/◌, ◌%◌, ◌<◌, Bool, true, false, cond, ◌&&◌, List, [], ◌∷◌, map, length, get_or, refl, sym, ◌∙◌, ap, arith, tests, Some, nat_lt, ◌==◌}
use Rattle.std.specs.List.{list_all}
use Rattle.std.specs.Ordering.{eq_by_cmp, is_eq}
use Rattle.std.specs.declared.cmp.Ordering.TheVariants.{Equal}
use Rattle.std.specs.FinMap.{FinMap, get, get-insert, insert, same_map}
use Rattle.std.proofs.lemmas.List.{length-map}
use Rattle.sha1.specs.Sha1.{sha1, digest_bytes as sha1_bytes, hash_after as sha1_hash, padded_message as sha1_padded}
use Rattle.sha2.specs.Sha256.{sha256, digest_bytes as sha256_bytes, final_hash as sha256_hash, initial_hash_256}
use Rattle.hex.specs.Hex.{hex_digit_value}
use Rattle.gix_hash.specs.declared.kind.Kind.{Kind}
use Rattle.gix_hash.specs.declared.kind.Kind.TheVariants.{Sha1, Sha256}
use Rattle.gix_hash.specs.Kind.{byte_len, hex_len, kind_number}
use Rattle.gix_hash.specs.Id.{Id, null_id, digits_of, bytes_from, raw_bytes}
use Rattle.gix_hash.specs.Order.{id_eq}
use Rattle.gix_hash.specs.OrderLaws.{id_eq-same, id_eq-itself, id_total, id_tied, kind_number-injective, same_id}
use Rattle.gix_hash.specs.Hasher.{digest_of}
use Rattle.gix_hash.specs.Spelling.{hex_character, IsHexOf}
use Rattle.gix_hash.proofs.ByteLists.{length-digits_of}
use Rattle.gix_hash.proofs.KindLemmas.{hex_len-byte_len}
use Rattle.gix_hash.proofs.LawLemmas.{AreDigits, none, more, same_text, hex_text-IsHexOf, digits_of-AreDigits}
pub use Rattle.gix_ref_format.proofs.IdLemmas.{id_from_hex-reads, id_from_hex-tells}
use Rattle.history_model.specs.Bytes.{Bytes}
use Rattle.history_model.specs.Objects.{by_id, digest, hex}
use Rattle.history_model.specs.Forms.{is_id}
use Rattle.history_model.specs.PackedNames.{id_from_hex}
use Rattle.history_model.proofs.WholeLists.{clash}
use Rattle.std.proofs.lemmas.Bool.{eqb-true, and_from, and_parts}
use Rattle.gix_ref_format.proofs.IdLemmas.{same_number}

-- ---- equality

pub one_id : (a b : Id) → id_eq a b ≡ true → a ≡ b
one_id a b e = id_eq-same a b e

pub id_itself : (a : Id) → id_eq a a ≡ true
id_itself a = id_eq-itself a

pub ids_apart : (a b : Id) → (a ≡ b → ⊥) → id_eq a b ≡ false
ids_apart a b differ = go (id_eq a b) refl
  where
    go : (t : Bool) → id_eq a b ≡ t → t ≡ false
    go false e = refl
    go true e = absurd (differ (one_id a b e))

pub apart_ids : {A : Type 0} (a b : Id) → id_eq a b ≡ false → a ≡ b → A
apart_ids a b e same = clash (ap (id_eq a) (sym same) ∙ id_itself a) e

-- ---- maps by ids

pub same_id_key : (a b : Id) → eq_by_cmp by_id a b ≡ id_eq a b
same_id_key a b = sym (id_tied a b)

pub get_with_id : {X : Type 0} (m : FinMap by_id X) (key : Id) (x : X) (q : Id) → get (insert m key x) q ≡ cond (id_eq q key) (Some x) (get m q)
get_with_id m key x q = get-insert id_total m key x q ∙ ap (λ b. cond b (Some x) (get m q)) (same_id_key q key)

-- ids that tie are one
pub same_id_tie : (a b : Id) → by_id a b ≡ Equal → a ≡ b
same_id_tie a b e = one_id a b (id_tied a b ∙ ap is_eq e)

pub one_by_ids : {X : Type 0} (m n : FinMap by_id X) → ((q : Id) → get m q ≡ get n q) → m ≡ n
one_by_ids m n h = same_map id_total same_id_tie m n h

-- ---- digits

-- what ids of a kind have
pub record HasKind (kind : Kind) (id : Id) : Type 0 where
  pub of_kind : id.kind ≡ kind
  pub whole : length id.digits ≡ hex_len kind
  pub digits : AreDigits id.digits

pub low_digit : (d : ℕ) → nat_lt d 16 ≡ true → d < 16
low_digit d h = grind (arith, tests)

digit_low : (d : ℕ) → d < 16 → nat_lt d 16 ≡ true
digit_low d h = grind (arith, tests)

pub are_digits : (ds : List ℕ) → list_all (λ d. nat_lt d 16) ds ≡ true → AreDigits ds
are_digits [] h = none
are_digits (d ∷ ds) h =
    let parts = and_parts (nat_lt d 16) (list_all (λ d. nat_lt d 16) ds) h in
    more (low_digit d parts.0) (are_digits ds parts.1)

pub all_digits : (ds : List ℕ) → AreDigits ds → list_all (λ d. nat_lt d 16) ds ≡ true
all_digits [] none = refl
all_digits (d ∷ ds) (more low h) = and_from (nat_lt d 16) (list_all (λ d. nat_lt d 16) ds) (digit_low d low) (all_digits ds h)

pub id_digits : (kind : Kind) (id : Id) → is_id kind id ≡ true → list_all (λ d. nat_lt d 16) id.digits ≡ true
id_digits kind id h = (and_parts (kind_number id.kind == kind_number kind && length id.digits == hex_len kind) (list_all (λ d. nat_lt d 16) id.digits) h).1

pub has_kind : (kind : Kind) (id : Id) → is_id kind id ≡ true → HasKind kind id
has_kind kind id h =
    let number = kind_number id.kind == kind_number kind in
    let whole = length id.digits == hex_len kind in
    let outer = and_parts (number && whole) (list_all (λ d. nat_lt d 16) id.digits) h in
    let inner = and_parts number whole outer.0 in
    record {
      of_kind = kind_number-injective id.kind kind (eqb-true (kind_number id.kind) (kind_number kind) inner.0);
      whole = eqb-true (length id.digits) (hex_len kind) inner.1;
      digits = are_digits id.digits outer.1;
    }

pub kind_has : (kind : Kind) (id : Id) → HasKind kind id → is_id kind id ≡ true
kind_has kind id h =
    let number = kind_number id.kind == kind_number kind in
    let whole = length id.digits == hex_len kind in
    and_from (number && whole) (list_all (λ d. nat_lt d 16) id.digits)
    (and_from number whole (same_number (kind_number id.kind) (kind_number kind) (ap kind_number h.of_kind)) (same_number (length id.digits) (hex_len kind) h.whole))
    (all_digits id.digits h.digits)

-- ids of one kind with the same digits
pub one_of_kind : (kind : Kind) (a b : Id) → HasKind kind a → HasKind kind b → a.digits ≡ b.digits → a ≡ b
one_of_kind kind a b ha hb e = same_id a b (ha.of_kind ∙ sym hb.of_kind) e

pub null_is_id : (kind : Kind) → is_id kind (null_id kind) ≡ true
null_is_id Sha1 = refl
null_is_id Sha256 = refl

-- ---- digests

low_byte : (n : ℕ) → nat_lt (n % 256) 256 ≡ true
low_byte n = grind (arith, tests)

below_256 : (b : ℕ) → nat_lt b 256 ≡ true → b < 256
below_256 b h = grind (arith, tests)

bytes_below : (xs : List ℕ) → list_all (λ b. nat_lt b 256) xs ≡ true → (i : ℕ) → get_or xs i 0 < 256
bytes_below [] h i = omega arith
bytes_below (x ∷ xs) h zero = below_256 x (and_parts (nat_lt x 256) (list_all (λ b. nat_lt b 256) xs) h).0
bytes_below (x ∷ xs) h (suc i) = bytes_below xs (and_parts (nat_lt x 256) (list_all (λ b. nat_lt b 256) xs) h).1 i

sha1_whole : (h : List ℕ) → (length (sha1_bytes h 5) == 20 && list_all (λ b. nat_lt b 256) (sha1_bytes h 5)) ≡ true
unfolding sha1_bytes
sha1_whole h = simp low_byte

sha256_whole : (h : List ℕ) → (length (sha256_bytes h 8) == 32 && list_all (λ b. nat_lt b 256) (sha256_bytes h 8)) ≡ true
unfolding sha256_bytes
sha256_whole h = simp low_byte

digest_whole : (kind : Kind) (text : Bytes) → (length (digest_of kind text) == byte_len kind && list_all (λ b. nat_lt b 256) (digest_of kind text)) ≡ true
unfolding sha1 sha256
digest_whole Sha1 text = sha1_whole (sha1_hash (sha1_padded text) (length (sha1_padded text) / 64))
digest_whole Sha256 text = sha256_whole (sha256_hash initial_hash_256 text)

-- a digest has its kind's length
pub length-digest_of : (kind : Kind) (text : Bytes) → length (digest_of kind text) ≡ byte_len kind
length-digest_of kind text =
    eqb-true (length (digest_of kind text)) (byte_len kind)
    (and_parts (length (digest_of kind text) == byte_len kind) (list_all (λ b. nat_lt b 256) (digest_of kind text)) (digest_whole kind text)).0

-- and its bytes are below 256
pub digest_of-bytes : (kind : Kind) (text : Bytes) (i : ℕ) → get_or (digest_of kind text) i 0 < 256
digest_of-bytes kind text =
    bytes_below (digest_of kind text) (and_parts (length (digest_of kind text) == byte_len kind) (list_all (λ b. nat_lt b 256) (digest_of kind text)) (digest_whole kind text)).1

digest_has : (kind : Kind) (text : Bytes) → HasKind kind (digest kind text)
unfolding digest
digest_has kind text = record {
  of_kind = refl;
  whole = length-digits_of (digest_of kind text) ∙ ap (λ (n : ℕ). 2 * n) (length-digest_of kind text) ∙ sym (hex_len-byte_len kind);
  digits = digits_of-AreDigits (digest_of kind text) (digest_of-bytes kind text);
}

-- a digest is an id of its kind
pub digest_is_id : (kind : Kind) (text : Bytes) → is_id kind (digest kind text) ≡ true
digest_is_id kind text = kind_has kind (digest kind text) (digest_has kind text)

-- ---- texts

pub length-hex : (id : Id) → length (hex id) ≡ length id.digits
length-hex id = length-map id.digits hex_character

-- ids of one kind with equal texts are equal
pub hex_tells : (kind : Kind) (a b : Id) → is_id kind a ≡ true → is_id kind b ≡ true → hex a ≡ hex b → a ≡ b
hex_tells kind a b ha hb e =
    let ka = has_kind kind a ha in
    let kb = has_kind kind b hb in
    one_of_kind kind a b ka kb (same_text a.digits b.digits ka.digits kb.digits e)

-- ---- texts that spell ids

-- the digits are as many as the characters, and below 16
spelled_length : (text digits : List ℕ) → IsHexOf text digits → length digits ≡ length text
spelled_length text digits e = sym (length-map digits (λ (d : ℕ). Some d)) ∙ ap length (sym e) ∙ length-map text hex_digit_value

digit_value-low : (c d : ℕ) → hex_digit_value c ≡ Some d → d < 16
digit_value-low c d e = grind (arith, tests)

spelled_low : (text digits : List ℕ) → IsHexOf text digits → AreDigits digits
spelled_low text [] e = none
spelled_low [] (d ∷ digits) e = cc
spelled_low (c ∷ text) (d ∷ digits) e =
    let first : hex_digit_value c ≡ Some d = cc in
    let others : map hex_digit_value text ≡ map (λ (d : ℕ). Some d) digits = cc in
    more (digit_value-low c d first) (spelled_low text digits others)

-- what is read has the kind's form
pub id_from_hex-is_id : (kind : Kind) (text : Bytes) (id : Id) → id_from_hex kind text ≡ Some id → is_id kind id ≡ true
id_from_hex-is_id kind text id e =
    let read = id_from_hex-tells kind text id e in
    kind_has kind id (record { of_kind = read.2; whole = spelled_length text id.digits read.1 ∙ read.0; digits = spelled_low text id.digits read.1 })

-- and a printed id is read as itself
pub id_from_hex-hex : (kind : Kind) (id : Id) → is_id kind id ≡ true → id_from_hex kind (hex id) ≡ Some id
id_from_hex-hex kind id h =
    let has = has_kind kind id h in
    id_from_hex-reads kind (hex id) id (length-hex id ∙ has.whole) (hex_text-IsHexOf id.digits has.digits) has.of_kind

-- ---- bytes

-- digits by twos
pub digits_of-bytes_from : (n : ℕ) (ds : List ℕ) → length ds ≡ 2 * n → AreDigits ds → digits_of (bytes_from ds) ≡ ds
digits_of-bytes_from n [] e h = refl
digits_of-bytes_from n (a ∷ []) e h = absurd (omega arith)
digits_of-bytes_from zero (a ∷ b ∷ ds) e h = absurd (omega arith)
digits_of-bytes_from (suc n) (a ∷ b ∷ ds) e (more la (more lb h)) =
    let high : (a * 16 + b) / 16 ≡ a = omega arith in
    let low : (a * 16 + b) % 16 ≡ b = omega arith in
    let rest = digits_of-bytes_from n ds (omega arith) h in
    rw (high, low, rest) refl

pub length-bytes_from : (n : ℕ) (ds : List ℕ) → length ds ≡ 2 * n → length (bytes_from ds) ≡ n
length-bytes_from n [] e = omega arith
length-bytes_from n (a ∷ []) e = absurd (omega arith)
length-bytes_from zero (a ∷ b ∷ ds) e = absurd (omega arith)
length-bytes_from (suc n) (a ∷ b ∷ ds) e = let rest = length-bytes_from n ds (omega arith) in omega arith

even_digits : (kind : Kind) (id : Id) → is_id kind id ≡ true → length id.digits ≡ 2 * byte_len kind
even_digits kind id h = (has_kind kind id h).whole ∙ hex_len-byte_len kind

pub length-raw_bytes : (kind : Kind) (id : Id) → is_id kind id ≡ true → length (raw_bytes id) ≡ byte_len kind
length-raw_bytes kind id h = length-bytes_from (byte_len kind) id.digits (even_digits kind id h)

pub digits_of-raw_bytes : (kind : Kind) (id : Id) → is_id kind id ≡ true → digits_of (raw_bytes id) ≡ id.digits
digits_of-raw_bytes kind id h = digits_of-bytes_from (byte_len kind) id.digits (even_digits kind id h) (has_kind kind id h).digits

-- ids of one kind with equal bytes are equal
pub raw_bytes_tell : (kind : Kind) (a b : Id) → is_id kind a ≡ true → is_id kind b ≡ true → raw_bytes a ≡ raw_bytes b → a ≡ b
raw_bytes_tell kind a b ha hb e =
    one_of_kind kind a b (has_kind kind a ha) (has_kind kind b hb)
    (sym (digits_of-raw_bytes kind a ha) ∙ ap digits_of e ∙ digits_of-raw_bytes kind b hb)
