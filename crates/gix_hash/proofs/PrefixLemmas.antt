-- How prefixes are made and read.
use Rattle.std.proofs.Common.{◌≡◌, ◌≢◌, ℕ, zero, suc, ◌+◌, ◌*◌, ◌/◌, ◌%◌, ◌-◌, ◌<◌, ◌≤◌, List, [], ◌∷◌, ◌++◌, length, length-append, take, drop, map, replicate, get_or, slice_set, Option, Some, None, refl, ap, sym, ◌∙◌, arith, inl, inr, subst}
use Rattle.std.specs.Prelude.{Any, MatchResult, Result, Ok, Err}
use Rattle.std.proofs.lemmas.Bool.{cases_lt}
use Rattle.std.proofs.lemmas.Bool.Decides.{nat_tests}
use Rattle.std.proofs.lemmas.List.{take-take, take_more, take_more_set, drop-set-lt, drop-drop, take_at, drop_at, take-append-drop, take-map, map-append, length-map, length-replicate, get_or_append_left, get_or-append_right, get_or-replicate, drop-replicate, length-take-le, set_at, append_assoc}
use Rattle.hex.specs.Hex.{hex_digit_value, lower_digits}
use Rattle.hex.proofs.HexLemmas.{IsDigits-lower_digits}
use Rattle.gix_hash.specs.declared.kind.Kind.{Kind}
use Rattle.gix_hash.specs.declared.kind.Kind.TheVariants.{Sha1, Sha256}
use Rattle.gix_hash.specs.declared.object_id.ObjectId.{ObjectId}
use Rattle.gix_hash.specs.declared.object_id.decode.Error.{Error}
use Rattle.gix_hash.specs.declared.object_id.decode.Error.TheVariants.{InvalidHexEncodingLength, Invalid}
use Rattle.gix_hash.specs.Kind.{byte_len, hex_len, kind_for_digits}
use Rattle.gix_hash.specs.Id.{Id, digits_of, id_of}
use Rattle.gix_hash.specs.PackedBeginning.{beginning_of, IsZeroFrom}
use Rattle.gix_hash.specs.declared.prefix.from_hex.Error as reading
use Rattle.gix_hash.specs.declared.prefix.from_hex.Error.TheVariants as reading_cases
use Rattle.gix_hash.specs.Prefix.{first_digits, IsReadAs, SpellsPrefix, IsTextFault}
use Rattle.gix_hash.specs.Spelling.{hex_text, hex_character}
use Rattle.gix_hash.specs.ReverseSpelling.{reverse_digit_value}
use Rattle.gix_hash.specs.Views.{IsBytesOf, IsHexOfId, IsFaultOf}
use Rattle.gix_hash.proofs.ByteLists.{length-digits_of, digits_of-append}
use Rattle.gix_hash.proofs.Padding.{digits_of-take, digits_of-replicate, take_odd-digits_of, take-zeros, zero_from}
use Rattle.gix_hash.proofs.KindLemmas.{byte_len-injective, hex_len-injective, hex_len-byte_len}
use Rattle.gix_hash.proofs.Reading.{any_through}

-- so many digits fit the kind that is read from them
pub kind_fits : (n : ℕ) (kind : Kind) → kind_for_digits n ≡ Some kind → n ≤ hex_len kind
kind_fits n Sha1 e = grind (arith, nat_tests)
kind_fits n Sha256 e = grind (arith, nat_tests)

pub kind_fits_all : (n : ℕ) (kind : Kind) → kind_for_digits n ≡ Some kind → n ≤ 64
kind_fits_all n Sha1 e = let h = kind_fits n Sha1 e in omega arith
kind_fits_all n Sha256 e = kind_fits n Sha256 e

pub hex_len-small : (kind : Kind) → hex_len kind ≤ 64
hex_len-small Sha1 = omega arith
hex_len-small Sha256 = omega arith

-- digits that are all zero
zero_digits : (ds : List ℕ) (k : ℕ) → map (λ (d : ℕ). Some d) ds ≡ replicate k (Some 0) → ds ≡ replicate k 0
zero_digits [] zero e = refl
zero_digits [] (suc k) e = cc
zero_digits (d ∷ ds) zero e = cc
zero_digits (d ∷ ds) (suc k) e =
    let first : d ≡ 0 = cc in
    let more : map (λ (d : ℕ). Some d) ds ≡ replicate k (Some 0) = cc in
    let rest = zero_digits ds k more in
    rw (first, rest) refl

-- what zeros after a text read as
map-zeros : (k : ℕ) → map hex_digit_value (replicate k 48) ≡ replicate k (Some 0)
map-zeros zero = refl
map-zeros (suc k) = ap (λ (xs : List (Option ℕ)). Some 0 ∷ xs) (map-zeros k)

-- a text and zeros that read as an id
pub read_prefix : (id : ObjectId) (front whole : List ℕ) (kind : Kind) → length front ≤ hex_len kind
    → whole ≡ front ++ replicate (hex_len kind - length front) 48 → IsHexOfId whole (id_of id)
    → IsZeroFrom id (length front) × ((id_of id).kind ≡ kind) × (map hex_digit_value front ≡ map (λ (d : ℕ). Some d) (take (length front) (id_of id).digits))
read_prefix id front whole kind fits e h =
    let n = length front in
    let k = hex_len kind - n in
    let ds = (id_of id).digits in
    let all : length whole ≡ hex_len kind = ap length e ∙ (length-append front (replicate k 48) ∙ (let len = length-replicate {A = ℕ} k 48 in omega (arith, len))) in
    let same : (id_of id).kind ≡ kind = hex_len-injective (id_of id).kind kind (sym h.whole ∙ all) in
    let read : map hex_digit_value front ++ replicate k (Some 0) ≡ map (λ (d : ℕ). Some d) ds =
    sym (ap (λ (w : List ℕ). map hex_digit_value w) e ∙ (map-append hex_digit_value front (replicate k 48) ∙ ap (λ (z : List (Option ℕ)). map hex_digit_value front ++ z) (map-zeros k))) ∙ h.spelled in
    let len : length (map hex_digit_value front) ≡ n = length-map front hex_digit_value in
    let first : map hex_digit_value front ≡ map (λ (d : ℕ). Some d) (take n ds) =
    sym (take_at (map hex_digit_value front) (replicate k (Some 0)) n len) ∙ (ap (λ (z : List (Option ℕ)). take n z) read ∙ take-map (λ (d : ℕ). Some d) n ds) in
    let split : map (λ (d : ℕ). Some d) ds ≡ map (λ (d : ℕ). Some d) (take n ds) ++ map (λ (d : ℕ). Some d) (drop n ds) =
    ap (λ (z : List ℕ). map (λ (d : ℕ). Some d) z) (sym (take-append-drop n ds)) ∙ map-append (λ (d : ℕ). Some d) (take n ds) (drop n ds) in
    let len2 : length (map (λ (d : ℕ). Some d) (take n ds)) ≡ n = ap length (sym first) ∙ len in
    let last : map (λ (d : ℕ). Some d) (drop n ds) ≡ replicate k (Some 0) =
    sym (drop_at (map (λ (d : ℕ). Some d) (take n ds)) (map (λ (d : ℕ). Some d) (drop n ds)) n len2) ∙ (ap (λ (z : List (Option ℕ)). drop n z) (sym split ∙ sym read) ∙ drop_at (map hex_digit_value front) (replicate k (Some 0)) n len) in
    let zeros : drop n ds ≡ replicate k 0 = zero_digits (drop n ds) k last in
    let count : length ds ≡ hex_len kind =
    sym (length-map ds (λ (d : ℕ). Some d)) ∙ (ap length (sym h.spelled) ∙ (length-map whole hex_digit_value ∙ all)) in (
      record {
        whole = count ∙ ap hex_len (sym same);
        fits = subst (λ (q : Kind). n ≤ hex_len q) (sym same) fits;
        zeros = zeros ∙ ap (λ (q : Kind). replicate (hex_len q - n) 0) (sym same);
      },
      same,
      first,
    )

-- the bad character is in the text, and not in the zeros after it
pub refused_front : (front whole : List ℕ) (k : ℕ) → whole ≡ front ++ replicate k 48
    → Any (λ c. hex_digit_value c ≡ None) whole → Any (λ c. hex_digit_value c ≡ None) front
refused_front front whole k e h =
    let at : get_or (front ++ replicate k 48) h.0 h.1 ≡ h.1 = sym (ap (λ (w : List ℕ). get_or w h.0 h.1) e) ∙ h.3 in
    let under : h.0 < length front + k = (let len = ap length e ∙ length-append front (replicate k 48) in let zeros = length-replicate {A = ℕ} k 48 in let low = h.2 in omega arith) in
    elim (cases_lt h.0 (length front)) [
      | inl first ↦ (h.0, h.1, first, sym (get_or_append_left front (replicate k 48) h.1 h.0 first) ∙ at, h.4)
      | inr later ↦
          let zero_there : get_or (replicate k 48) (h.0 - length front) h.1 ≡ 48 = get_or-replicate k (h.0 - length front) 48 h.1 (omega arith) in
          let same : 48 ≡ h.1 = sym zero_there ∙ (sym (get_or-append_right front (replicate k 48) (length front) h.0 h.1 refl later) ∙ at) in
          let none : hex_digit_value 48 ≡ None = ap hex_digit_value same ∙ h.4 in
          absurd (some_not_none none)
    ]
  where
    some_not_none : ◌≡◌ {A = Option ℕ} (Some 0) None → ⊥
    some_not_none e = cc

-- the first digits of bytes, in an array of zeros, where their number is even
pub first_even : (bytes : List ℕ) (n : ℕ) → n % 2 ≡ 0 → n ≤ 2 * length bytes → length bytes ≤ 32
    → digits_of (take (length bytes) (take (n / 2) bytes ++ drop {A = ℕ} (n / 2) (replicate 32 0))) ≡ take n (digits_of bytes) ++ replicate (2 * length bytes - n) 0
first_even bytes n even fits small =
    let k = n / 2 in
    let e : 2 * k ≡ n = omega arith in
    let len : length (take k bytes) ≡ k = length-take-le k bytes (omega arith) in
    let zeros : drop {A = ℕ} k (replicate 32 0) ≡ replicate (32 - k) 0 = drop-replicate k 32 0 in
    let cut : take (length bytes) (take k bytes ++ replicate (32 - k) 0) ≡ take k bytes ++ replicate (length bytes - k) 0 =
    take-zeros (take k bytes) (length bytes) (32 - k) 0 (omega arith) (omega arith) ∙ ap (λ (m : ℕ). take k bytes ++ replicate (length bytes - m) 0) len in
    let twice : 2 * (length bytes - k) ≡ 2 * length bytes - n = omega arith in
    rw (zeros, cut, digits_of-append, digits_of-take k bytes, e, digits_of-replicate (length bytes - k), twice) refl

-- a prefix's digits are among those of its bytes
pub prefix_room : (id : ObjectId) (n : ℕ) (bytes : List ℕ) → IsZeroFrom id n → IsBytesOf bytes (id_of id) → n ≤ 2 * length bytes
prefix_room id n bytes h b =
    let len = length-digits_of bytes in
    let same = ap length b.digits in
    let whole = h.whole in
    let fits = h.fits in
    omega arith

-- the text of a prefix's digits
pub prefix_text : (id : ObjectId) (n : ℕ) (bytes text : List ℕ) → IsZeroFrom id n → IsBytesOf bytes (id_of id)
    → take (2 * length bytes) text ≡ hex_text (digits_of bytes) → take n text ≡ hex_text (beginning_of id n).digits
prefix_text id n bytes text h b e =
    let room = prefix_room id n bytes h b in
    sym (take-take n (2 * length bytes) text room) ∙ (ap (λ (z : List ℕ). take n z) (e ∙ ap hex_text b.digits) ∙ take-map hex_character n (id_of id).digits)

-- the same, where their number is odd: the last byte keeps its first digit
pub first_odd : (bytes : List ℕ) (n : ℕ) → n % 2 ≡ 1 → n ≤ 2 * length bytes → length bytes ≤ 32
    → digits_of (take (length bytes) (slice_set (take (n / 2) bytes ++ drop {A = ℕ} (n / 2) (replicate 32 0)) (n / 2) (get_or bytes (n / 2) 0 / 16 * 16)))
    ≡ take n (digits_of bytes) ++ replicate (2 * length bytes - n) 0
first_odd bytes n odd fits small =
    let k = n / 2 in
    let x : ℕ = get_or bytes k 0 / 16 * 16 in
    let front : List ℕ = take k bytes in
    let e : n ≡ 2 * k + 1 = omega arith in
    let len : length front ≡ k = length-take-le k bytes (omega arith) in
    let rest : drop {A = ℕ} k (replicate 32 0) ≡ 0 ∷ replicate (31 - k) 0 =
    drop-replicate k 32 0 ∙ ap (λ (m : ℕ). replicate {A = ℕ} m 0) (let m : 32 - k ≡ suc (31 - k) = omega arith in m) in
    let put : slice_set (front ++ 0 ∷ replicate (31 - k) 0) k x ≡ (front ++ x ∷ []) ++ replicate (31 - k) 0 =
    set_at front 0 (replicate (31 - k) 0) x k len ∙ sym (append_assoc front (x ∷ []) (replicate (31 - k) 0)) in
    let len2 : length (front ++ x ∷ []) ≡ k + 1 = length-append front (x ∷ []) ∙ ap (λ (m : ℕ). m + 1) len in
    let cut : take (length bytes) ((front ++ x ∷ []) ++ replicate (31 - k) 0) ≡ (front ++ x ∷ []) ++ replicate (length bytes - (k + 1)) 0 =
    take-zeros (front ++ x ∷ []) (length bytes) (31 - k) 0 (omega arith) (omega arith) ∙ ap (λ (m : ℕ). (front ++ x ∷ []) ++ replicate (length bytes - m) 0) len2 in
    let high : x / 16 ≡ get_or bytes k 0 / 16 = omega arith in
    let low : x % 16 ≡ 0 = omega arith in
    let twice : suc (2 * (length bytes - (k + 1))) ≡ 2 * length bytes - n = omega arith in
    let left : digits_of ((front ++ x ∷ []) ++ replicate (length bytes - (k + 1)) 0) ≡ (digits_of front ++ (get_or bytes k 0 / 16) ∷ []) ++ replicate (2 * length bytes - n) 0 =
    digits_of-append (front ++ x ∷ []) (replicate (length bytes - (k + 1)) 0)
    ∙ (ap (λ (z : List ℕ). z ++ digits_of (replicate (length bytes - (k + 1)) 0)) (digits_of-append front (x ∷ []))
    ∙ (ap (λ (z : List ℕ). (digits_of front ++ x / 16 ∷ x % 16 ∷ []) ++ z) (digits_of-replicate (length bytes - (k + 1)))
    ∙ (odd_end (digits_of front) (x / 16) (x % 16) (get_or bytes k 0 / 16) (2 * (length bytes - (k + 1))) high low
    ∙ ap (λ (m : ℕ). (digits_of front ++ (get_or bytes k 0 / 16) ∷ []) ++ replicate m 0) twice))) in
    let right : take n (digits_of bytes) ≡ digits_of front ++ (get_or bytes k 0 / 16) ∷ [] =
    ap (λ (m : ℕ). take m (digits_of bytes)) e ∙ take_odd-digits_of k bytes (omega arith) in
    ap (λ (z : List ℕ). digits_of (take (length bytes) z)) (ap (λ (z : List ℕ). slice_set (front ++ z) k x) rest ∙ put)
    ∙ (ap digits_of cut ∙ (left ∙ ap (λ (z : List ℕ). z ++ replicate (2 * length bytes - n) 0) (sym right)))
  where
    odd_end : (ds : List ℕ) (a b c m : ℕ) → a ≡ c → b ≡ 0 → (ds ++ a ∷ b ∷ []) ++ replicate m 0 ≡ (ds ++ c ∷ []) ++ replicate (suc m) 0
    odd_end ds a b c m ha hb =
        rw (ha, hb) (append_assoc ds (c ∷ 0 ∷ []) (replicate m 0) ∙ sym (append_assoc ds (c ∷ []) (replicate (suc m) 0)))

-- the prefix of an id's first digits
pub new_prefix : (id : ObjectId) (v : Id) (first bytes : List ℕ) (n : ℕ) → IsBytesOf bytes v → length first ≡ 32 → n ≤ hex_len v.kind
    → IsBytesOf (take (byte_len v.kind) first) (id_of id)
    → digits_of (take (length bytes) first) ≡ take n (digits_of bytes) ++ replicate (2 * length bytes - n) 0
    → IsZeroFrom id n × (beginning_of id n ≡ first_digits v n)
new_prefix id v first bytes n b len fits made digits =
    let small = byte_len-small v.kind in
    let kinds : (id_of id).kind ≡ v.kind =
    byte_len-injective (id_of id).kind v.kind (sym made.whole ∙ length-take-le (byte_len v.kind) first (omega arith)) in
    let twice = hex_len-byte_len v.kind in
    let whole : length bytes ≡ byte_len v.kind = b.whole in
    let all : length v.digits ≡ hex_len v.kind = ap length (sym b.digits) ∙ (length-digits_of bytes ∙ omega arith) in
    let front : length (take n v.digits) ≡ n = length-take-le n v.digits (omega arith) in
    let rest : 2 * length bytes - n ≡ hex_len v.kind - n = omega arith in
    let is : (id_of id).digits ≡ take n v.digits ++ replicate (hex_len v.kind - n) 0 =
    sym made.digits ∙ (ap (λ (m : ℕ). digits_of (take m first)) (sym whole)
    ∙ (digits ∙ (ap (λ (m : ℕ). take n (digits_of bytes) ++ replicate m 0) rest
    ∙ ap (λ (z : List ℕ). take n z ++ replicate (hex_len v.kind - n) 0) b.digits))) in
    let zeros = zero_from id (take n v.digits)
    (subst (λ (q : Kind). length (take n v.digits) ≤ hex_len q) (sym kinds) (omega arith))
    (is ∙ (ap (λ (q : Kind). take n v.digits ++ replicate (hex_len q - n) 0) (sym kinds)
    ∙ ap (λ (m : ℕ). take n v.digits ++ replicate (hex_len (id_of id).kind - m) 0) (sym front))) in
    let same : take n (id_of id).digits ≡ take n v.digits = ap (λ (m : ℕ). take m (id_of id).digits) (sym front) ∙ zeros.1 in (
      subst (λ (m : ℕ). IsZeroFrom id m) front zeros.0,
      ap (λ (q : Kind). let r : Id = record { kind = q; digits = take n (id_of id).digits } in r) kinds
          ∙ ap (λ (z : List ℕ). let r : Id = record { kind = v.kind; digits = z } in r) same,
    )
  where
    byte_len-small : (kind : Kind) → byte_len kind ≤ 32
    byte_len-small Sha1 = omega arith
    byte_len-small Sha256 = omega arith

-- a reverse digit is below 16
pub reverse_digit_value-small : (c v : ℕ) → reverse_digit_value c ≡ Some v → v < 16
reverse_digit_value-small c v e = grind (arith, nat_tests)

-- one letter more reads as its digit
pub reverse_more_read : (letters text : List ℕ) (i v : ℕ) → i < length letters → i < length text
    → reverse_digit_value (get_or letters i 0) ≡ Some v
    → map hex_digit_value (take i text) ≡ map reverse_digit_value (take i letters)
    → map hex_digit_value (take (i + 1) (slice_set text i (get_or lower_digits v 0))) ≡ map reverse_digit_value (take (i + 1) letters)
reverse_more_read letters text i v h room e inv =
    let digit : hex_digit_value (get_or lower_digits v 0) ≡ Some v = IsDigits-lower_digits v (reverse_digit_value-small (get_or letters i 0) v e) in
    rw (take_more_set text i (get_or lower_digits v 0) room, take_more letters i 0 h, map-append, map-append, inv, digit, e) refl

-- the zeros after it
pub reverse_more_zeros : (text : List ℕ) (i c : ℕ) → drop i text ≡ replicate (64 - i) 48
    → drop (i + 1) (slice_set text i c) ≡ replicate (64 - (i + 1)) 48
reverse_more_zeros text i c inv =
    let m : 64 - i - 1 ≡ 64 - (i + 1) = omega arith in
    drop-set-lt (i + 1) text i c (omega arith)
    ∙ (sym (drop-drop 1 i text) ∙ (ap (λ (z : List ℕ). drop 1 z) inv ∙ (drop-replicate 1 (64 - i) 48 ∙ ap (λ (k : ℕ). replicate k 48) m)))

-- the front of a text that zeros follow
pub cut_text : (text : List ℕ) (n m : ℕ) → length text ≡ 64 → n ≤ m → m ≤ 64 → drop n text ≡ replicate (64 - n) 48
    → take m text ≡ take n text ++ replicate (m - length (take n text)) 48
cut_text text n m len low high zeros =
    let front : length (take n text) ≡ n = length-take-le n text (omega arith) in
    ap (λ (z : List ℕ). take m z) (sym (take-append-drop n text))
    ∙ (ap (λ (z : List ℕ). take m (take n text ++ z)) zeros
    ∙ take-zeros (take n text) m (64 - n) 48 (omega arith) (omega arith))

-- what a result shows, said in other words
pub match_weaker : {T E : Type 0} (r : Result T E) (P P' : T → Type 0) (Q Q' : E → Type 0) → MatchResult r P Q
    → ((x : T) → P x → P' x) → ((e : E) → Q e → Q' e) → MatchResult r P' Q'
match_weaker (Ok x) P P' Q Q' h f g = f x h
match_weaker (Err e) P P' Q Q' h f g = g e h

-- a text that reads as a prefix by way of hexadecimal text
pub spells_through : (value : ℕ → Option ℕ) (text front : List ℕ) (kind : Kind) (prefix : Id) → 1 ≤ length text
    → kind_for_digits (length text) ≡ Some kind → map hex_digit_value front ≡ map value text
    → IsReadAs kind front prefix → SpellsPrefix value 1 text prefix
spells_through value text front kind prefix least is same h = record {
  long_enough = least;
  kind = is ∙ ap (λ (k : Kind). Some k) (sym h.same_kind);
  spelled = sym same ∙ h.spelled;
}

-- a text that does not
pub fault_through : (value : ℕ → Option ℕ) (text front : List ℕ) (kind : Kind) (fault : reading.Error) → 1 ≤ length text
    → kind_for_digits (length text) ≡ Some kind → map hex_digit_value front ≡ map value text
    → (fault ≡ reading_cases.Invalid) × Any (λ c. hex_digit_value c ≡ None) front → IsTextFault value 1 text fault
fault_through value text front kind fault least is same h =
    subst (λ (e : reading.Error). IsTextFault value 1 text e) (sym h.0)
    (least, kind_fits_all (length text) kind is, any_through hex_digit_value value front text same h.1)

-- a text of 40 or 64 characters that is refused has a bad character
pub refused_len : (value : ℕ → Option ℕ) (whole : List ℕ) (fault : Error) → ((length whole ≢ 40) → length whole ≡ 64)
    → IsFaultOf value whole fault → Any (λ c. value c ≡ None) whole
refused_len value whole (InvalidHexEncodingLength n) f h = absurd (h.2 (h.0 ∙ f (λ e. h.1 (h.0 ∙ e))))
refused_len value whole Invalid f h = h.1
