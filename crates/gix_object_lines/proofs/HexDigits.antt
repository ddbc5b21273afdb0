-- Hexadecimal digits are those that an id is read from.
use Rattle.std.proofs.Common.{◌≡◌, ◌∙◌, ap, refl, sym, ℕ, Bool, true, false, ◌||◌, ◌&&◌, List, [], ◌∷◌, length, map, Option, Some, None, Result, Ok, Err}
use Rattle.std.specs.Prelude.{if◌then◌else◌, nat_le, ◌-◌, ◌==◌, MatchResult}
use Rattle.std.specs.Char.{is_ascii_hexdigit}
use Rattle.std.specs.Result.{IsOk}
use Rattle.std.proofs.lemmas.Bool.Decides.{Decides-eqb}
use Rattle.std.proofs.lemmas.List.Sums.{AllPass-from_list_all}
use Rattle.hex.specs.Hex.{hex_digit_value}
use Rattle.gix_hash.specs.Id.{Id}
use Rattle.gix_hash.specs.Kind.{hex_len}
use Rattle.gix_hash.specs.Spelling.{IsHexOf}
use Rattle.gix_hash.specs.Views.{IsFaultOf, IsHexOfId}
use Rattle.gix_hash.specs.declared.kind.Kind.{Kind}
use Rattle.gix_hash.specs.declared.kind.Kind.TheVariants.{Sha1, Sha256}
use Rattle.gix_hash.specs.declared.object_id.ObjectId.{ObjectId}
use Rattle.gix_hash.specs.declared.object_id.decode.Error.{Error}
use Rattle.gix_hash.specs.declared.object_id.decode.Error.TheVariants.{InvalidHexEncodingLength, Invalid}
use Rattle.gix_object_lines.specs.Bytes.{Lacks}
use Rattle.gix_object_lines.specs.HexLine.{IsHex, is_hex, is_id}
use Rattle.gix_object_lines.proofs.CutLemmas.{lacks_cons}
use Rattle.std.proofs.lemmas.Bool.{and_parts}

-- ---- digits have values

one_of : (upper lower digit : Bool) (x y z : ℕ) → ((digit || upper) || lower) ≡ true → (value : ℕ) × ((if upper then Some x else if lower then Some y else if digit then Some z else None) ≡ Some value)
one_of true lower digit x y z t = (x, refl)
one_of false true digit x y z t = (y, refl)
one_of false false true x y z t = (z, refl)
one_of false false false x y z t = absurd cc

has_value : (c : ℕ) → is_ascii_hexdigit c ≡ true → (value : ℕ) × (hex_digit_value c ≡ Some value)
has_value c = one_of (nat_le 65 c && nat_le c 70) (nat_le 97 c && nat_le c 102) (nat_le 48 c && nat_le c 57) (c - 55) (c - 87) (c - 48)

values_of : (text : List ℕ) → is_hex text ≡ true → (values : List ℕ) × (map hex_digit_value text ≡ map (λ (d : ℕ). Some d) values)
values_of [] all = ([], refl)
values_of (c ∷ text) all =
    let parts = and_parts (is_ascii_hexdigit c) (is_hex text) all in
    let first = has_value c parts.0 in
    let rest = values_of text parts.1 in
    (first.0 ∷ rest.0, ap (λ (o : Option ℕ). o ∷ map hex_digit_value text) first.1 ∙ ap (λ t. Some first.0 ∷ t) rest.1)

-- so many of them spell an id
pub id_of_hex : (kind : Kind) (text : List ℕ) → IsHex (hex_len kind) text → (id : Id) × IsHexOfId text id
id_of_hex kind text hex = let values = values_of text hex.1 in (record { kind = kind; digits = values.0 }, record { whole = hex.0; spelled = values.1 })

-- ---- the test of an id's digits

-- the text has the length of an id, and each of its digits a value
pub not_refused : (text : List ℕ) (e : Error) → is_id text ≡ true → IsFaultOf hex_digit_value text e → ⊥
not_refused text (InvalidHexEncodingLength n) is fault =
    of_length (length text == 40) (length text == 64) (and_parts (length text == 40 || length text == 64) (is_hex text) is).0
    (λ t. fault.1 (fault.0 ∙ (Decides-eqb (length text) 40).0 t)) (λ t. fault.2 (fault.0 ∙ (Decides-eqb (length text) 64).0 t))
  where
    of_length : (a b : Bool) → (a || b) ≡ true → (a ≡ true → ⊥) → (b ≡ true → ⊥) → ⊥
    of_length true b e not_a not_b = not_a refl
    of_length false b e not_a not_b = not_b e
not_refused text Invalid is fault =
    let bad = fault.1 in
    let digit = AllPass-from_list_all is_ascii_hexdigit text (and_parts (length text == 40 || length text == 64) (is_hex text) is).1 bad.0 bad.1 bad.2 in
    let value = has_value bad.1 (ap is_ascii_hexdigit (sym bad.3) ∙ digit) in
    let clash : None ≡ Some value.0 = sym bad.4 ∙ value.1 in
    cc

pub id_is_read : (text : List ℕ) (r : Result ObjectId Error) (P : ObjectId → Type 0) → is_id text ≡ true → MatchResult r P (IsFaultOf hex_digit_value text) → IsOk r
id_is_read text (Ok id) P is h = refl
id_is_read text (Err e) P is h = absurd (not_refused text e is h)

-- an id's digits pass it
pub is_id_of_hex : (kind : Kind) (text : List ℕ) → IsHex (hex_len kind) text → is_id text ≡ true
is_id_of_hex Sha1 text hex = ap (λ n. (n == 40 || n == 64) && is_hex text) hex.0 ∙ hex.1
is_id_of_hex Sha256 text hex = ap (λ n. (n == 40 || n == 64) && is_hex text) hex.0 ∙ hex.1

-- ---- characters with values are digits

has_digit : (upper lower digit : Bool) (x y z d : ℕ) → (if upper then Some x else if lower then Some y else if digit then Some z else None) ≡ Some d → ((digit || upper) || lower) ≡ true
has_digit upper lower true x y z d e = refl
has_digit true lower false x y z d e = refl
has_digit false true false x y z d e = refl
has_digit false false false x y z d e = absurd cc

pub digits_are_hex : (text digits : List ℕ) → IsHexOf text digits → is_hex text ≡ true
digits_are_hex [] digits is = refl
digits_are_hex (c ∷ text) [] is = absurd cc
digits_are_hex (c ∷ text) (d ∷ digits) is =
    let first : hex_digit_value c ≡ Some d = cc in
    let rest : map hex_digit_value text ≡ map (λ (d : ℕ). Some d) digits = cc in
    let digit : is_ascii_hexdigit c ≡ true = has_digit (nat_le 65 c && nat_le c 70) (nat_le 97 c && nat_le c 102) (nat_le 48 c && nat_le c 57) (c - 55) (c - 87) (c - 48) d first in
    ap (λ b. b && is_hex text) digit ∙ digits_are_hex text digits rest

-- what spells an id has an id's digits
pub id_of_spelled : (text : List ℕ) (id : Id) → IsHexOfId text id → is_id text ≡ true
id_of_spelled text id is = is_id_of_hex id.kind text (is.whole, digits_are_hex text id.digits is.spelled)

-- what hasn't an id's digits spells none
pub spells_none : (text : List ℕ) → ¬ (is_id text ≡ true) → (id : Id) → ¬ IsHexOfId text id
spells_none text none id is = none (id_of_spelled text id is)

-- ---- what is no digit isn't in them

hex_lacks : (byte : ℕ) (text : List ℕ) → is_ascii_hexdigit byte ≡ false → is_hex text ≡ true → Lacks byte text
hex_lacks byte [] none hex = refl
hex_lacks byte (c ∷ text) none hex =
    let parts = and_parts (is_ascii_hexdigit c) (is_hex text) hex in
    lacks_cons byte c text (λ same. let clash : true ≡ false = sym parts.0 ∙ ap is_ascii_hexdigit same ∙ none in cc) (hex_lacks byte text none parts.1)

pub id_lacks : (byte : ℕ) (text : List ℕ) → is_ascii_hexdigit byte ≡ false → is_id text ≡ true → Lacks byte text
id_lacks byte text none is = hex_lacks byte text none (and_parts (length text == 40 || length text == 64) (is_hex text) is).1
