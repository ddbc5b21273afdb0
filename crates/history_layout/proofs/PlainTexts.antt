-- No carriage return is in what is written of records.
use Rattle.std.proofs.Common.{◌≡◌, ℕ, zero, suc, Bool, true, false, ◌&&◌, ◌==◌, List, [], ◌∷◌, ◌++◌, length, Option, Some, None, refl, sym, ◌∙◌, ap, arith, tests, nat_le}
use Rattle.std.specs.Prelude.{slice_index}
use Rattle.std.specs.Str.{is_utf8}
use Rattle.std.specs.List.{AllByRecursion, list_any}
use Rattle.std.proofs.lemmas.Bool.{and_parts, or_from, or_parts}
use Rattle.std.proofs.lemmas.List.Folds.{list_any-append}
use Rattle.hex.specs.Hex.{lower_digits}
use Rattle.gix_hash.specs.Id.{Id}
use Rattle.gix_hash.specs.Spelling.{hex_character, hex_text}
use Rattle.gix_object_lines.specs.NameTest.{is_barred, is_partial_name}
use Rattle.gix_ref_format.specs.Packed.{Record}
use Rattle.gix_ref_format.specs.Written.{header_text, packed_text, peel_text, record_text, records_text}
use Rattle.history_model.specs.Bytes.{Bytes, begins, has_byte}
use Rattle.history_model.specs.Forms.{is_name, max_name, refs_front}
use Rattle.history_model.proofs.NameTests.{unbarred_of}

clash : {A : Type 0} {b : Bool} → b ≡ true → b ≡ false → A
clash e f = absurd (go (sym e ∙ f))
  where
    go : true ≡ false → ⊥
    go e = cc

abbrev IsPlain : Bytes → Type 0
IsPlain text = has_byte 13 text ≡ false

both : (xs ys : Bytes) → IsPlain xs → IsPlain ys → IsPlain (xs ++ ys)
both xs ys one other = list_any-append (λ b. b == 13) xs ys ∙ or_from (has_byte 13 xs) (has_byte 13 ys) one other

-- ---- ids

one_digit : (digits : Bytes) → IsPlain digits → (d : ℕ) → (slice_index digits d == 13) ≡ false
one_digit [] plain d = refl
one_digit (c ∷ digits) plain zero = (or_parts (c == 13) (has_byte 13 digits) plain).0
one_digit (c ∷ digits) plain (suc d) = one_digit digits (or_parts (c == 13) (has_byte 13 digits) plain).1 d

hex_plain : (digits : List ℕ) → IsPlain (hex_text digits)
hex_plain [] = refl
hex_plain (d ∷ digits) = or_from (hex_character d == 13) (has_byte 13 (hex_text digits)) (one_digit lower_digits refl d) (hex_plain digits)

-- ---- names

unbarred_plain : (name : Bytes) → list_any is_barred name ≡ false → IsPlain name
unbarred_plain [] none = refl
unbarred_plain (b ∷ name) none =
    let parts = or_parts (is_barred b) (list_any is_barred name) none in
    or_from (b == 13) (has_byte 13 name) (go (b == 13) refl parts.0) (unbarred_plain name parts.1)
  where
    same : (b : ℕ) → (b == 13) ≡ true → b ≡ 13
    same b e = grind (arith, tests)

    go : (t : Bool) → (b == 13) ≡ t → is_barred b ≡ false → t ≡ false
    go false e k = refl
    go true e k = clash (ap is_barred (same b e)) k

name_plain : (name : Bytes) → is_name name ≡ true → IsPlain name
name_plain name named =
    let three = and_parts (is_partial_name name && begins refs_front name && is_utf8 name) (nat_le (length name) max_name) named in
    let two = and_parts (is_partial_name name && begins refs_front name) (is_utf8 name) three.0 in
    unbarred_plain name (unbarred_of name (and_parts (is_partial_name name) (begins refs_front name) two.0).0)

-- ---- records

peel_plain : (peeled : Option Id) → IsPlain (peel_text peeled)
peel_plain None = refl
peel_plain (Some id) = both (hex_text id.digits) (10 ∷ []) (hex_plain id.digits) refl

record_plain : (r : Record) → is_name r.name ≡ true → IsPlain (record_text r)
record_plain r named =
    both (hex_text r.target.digits) (32 ∷ (r.name ++ 10 ∷ peel_text r.peeled)) (hex_plain r.target.digits)
    (both r.name (10 ∷ peel_text r.peeled) (name_plain r.name named) (peel_plain r.peeled))

records_plain : (records : List Record) → AllByRecursion (λ (e : Record). is_name e.name ≡ true) records → IsPlain (records_text records)
records_plain [] named = refl
records_plain (r ∷ records) named = both (record_text r) (records_text records) (record_plain r named.0) (records_plain records named.1)

pub packed_plain : (records : List Record) → AllByRecursion (λ (e : Record). is_name e.name ≡ true) records → has_byte 13 (packed_text records) ≡ false
packed_plain records named = both header_text (records_text records) refl (records_plain records named)
