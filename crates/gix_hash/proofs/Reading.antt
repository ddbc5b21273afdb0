-- What reading hexadecimal text by the crate `hex` says of digits.
use Rattle.std.proofs.Common.{◌≡◌, ℕ, suc, ◌+◌, ◌*◌, ◌/◌, ◌%◌, ◌<◌, List, [], ◌∷◌, length, Option, Some, None, Result, Ok, Err, inl, inr, ◌⊎◌, refl, sym, ◌∙◌, arith, zero, map, ap}
use Rattle.std.specs.Prelude.{Any, Result, Ok, Err}
use Rattle.std.proofs.lemmas.Bool.Decides.{nat_tests}
use Rattle.hex.specs.Hex.{decode_pairs, decode_sized, hex_digit_value, digit_or_error, ◌>>=◌}
use Rattle.hex.specs.declared.error.FromHexError.{FromHexError}
use Rattle.gix_hash.specs.Id.{digits_of}
use Rattle.gix_hash.specs.Spelling.{IsHexOf}
use Rattle.gix_hash.specs.declared.kind.Kind.{Kind}
use Rattle.gix_hash.specs.declared.kind.Kind.TheVariants.{Sha1, Sha256}
use Rattle.gix_hash.specs.declared.object_id.decode.Error.{Error}
use Rattle.gix_hash.specs.declared.object_id.decode.Error.TheVariants.{InvalidHexEncodingLength, Invalid}
use Rattle.gix_hash.specs.Kind.{hex_len}
use Rattle.gix_hash.specs.Views.{IsFaultOf}

-- what two digits and the rest decode to
abbrev pair_then : ℕ → ℕ → ℕ → ℕ → Option ℕ → Option ℕ → Result (List ℕ) FromHexError → Result (List ℕ) FromHexError
pair_then h l i j high low rest =
    (digit_or_error h i high >>= (λ a. digit_or_error l j low >>= (λ b. Ok (a * 16 + b))))
    >>= (λ byte. rest >>= (λ bytes. Ok (byte ∷ bytes)))

-- the parts of a pair that decoded
pair_ok : (h l i j : ℕ) (high low : Option ℕ) (rest : Result (List ℕ) FromHexError) (bytes : List ℕ)
    → pair_then h l i j high low rest ≡ Ok bytes
    → (a : ℕ) × (b : ℕ) × (more : List ℕ) × (high ≡ Some a) × (low ≡ Some b) × (rest ≡ Ok more) × (bytes ≡ (a * 16 + b) ∷ more)
pair_ok h l i j (Some a) (Some b) (Ok more) bytes e = (a, b, more, refl, refl, refl, cc)
pair_ok h l i j (Some a) (Some b) (Err f) bytes e = cc
pair_ok h l i j (Some a) None rest bytes e = cc
pair_ok h l i j None low rest bytes e = cc

-- why a pair did not decode
pair_err : (h l i j : ℕ) (high low : Option ℕ) (rest : Result (List ℕ) FromHexError) (f : FromHexError)
    → pair_then h l i j high low rest ≡ Err f
    → (high ≡ None) ⊎ ((low ≡ None) ⊎ (rest ≡ Err f))
pair_err h l i j (Some a) (Some b) (Ok more) f e = cc
pair_err h l i j (Some a) (Some b) (Err g) f e = inr (inr cc)
pair_err h l i j (Some a) None rest f e = inr (inl refl)
pair_err h l i j None low rest f e = inl refl

-- a digit is below 16
pub hex_digit_value-small : (c v : ℕ) → hex_digit_value c ≡ Some v → v < 16
hex_digit_value-small c v e = grind (arith, nat_tests)

-- a byte more is spelled by two digits more
spells_pair : (h l a b : ℕ) (text rest : List ℕ) → hex_digit_value h ≡ Some a → hex_digit_value l ≡ Some b → b < 16
    → IsHexOf text (digits_of rest) → IsHexOf (h ∷ l ∷ text) (digits_of ((a * 16 + b) ∷ rest))
spells_pair h l a b text rest high low small more =
    let first : (a * 16 + b) / 16 ≡ a = omega arith in
    let second : (a * 16 + b) % 16 ≡ b = omega arith in
    cc

-- a text that decodes spells the digits of the bytes
pub decode_pairs-spells : (i : ℕ) (text bytes : List ℕ) → decode_pairs i text ≡ Ok bytes → IsHexOf text (digits_of bytes)
unfolding decode_pairs
decode_pairs-spells i [] bytes e = let none : bytes ≡ [] = cc in rw none refl
decode_pairs-spells i (c ∷ []) bytes e = cc
decode_pairs-spells i (h ∷ l ∷ text) bytes e =
    let p = pair_ok h l i (i + 1) (hex_digit_value h) (hex_digit_value l) (decode_pairs (i + 2) text) bytes e in
    let small : p.1 < 16 = hex_digit_value-small l p.1 p.4 in
    let more = decode_pairs-spells (i + 2) text p.2 p.5 in
    rw p.6 (spells_pair h l p.0 p.1 text p.2 p.3 p.4 small more)

-- a text of pairs that does not decode has a character that is no digit
pub decode_pairs-fault : (i : ℕ) (text : List ℕ) (f : FromHexError) → length text % 2 ≡ 0 → decode_pairs i text ≡ Err f
    → Any (λ c. hex_digit_value c ≡ None) text
unfolding decode_pairs
decode_pairs-fault i [] f even e = cc
decode_pairs-fault i (c ∷ []) f even e = absurd (omega arith)
decode_pairs-fault i (h ∷ l ∷ text) f even e =
    elim (pair_err h l i (i + 1) (hex_digit_value h) (hex_digit_value l) (decode_pairs (i + 2) text) f e) [
      | inl first ↦ (0, h, omega arith, refl, first)
      | inr others ↦ elim others [
        | inl second ↦ (1, l, omega arith, refl, second)
        | inr rest ↦
            let still : length text % 2 ≡ 0 = omega arith in
            let at = decode_pairs-fault (i + 2) text f still rest in
            (suc (suc at.0), at.1, omega arith, at.3, at.4)
      ]
    ]

-- a text of the right length decodes by pairs
decode_sized-pairs : (text : List ℕ) (n : ℕ) → length text ≡ 2 * n → decode_sized text n ≡ decode_pairs 0 text
decode_sized-pairs text n len = grind (arith, nat_tests)

-- reading into room for n bytes spells their digits
pub decode_sized-spells : (text bytes : List ℕ) (n : ℕ) → length text ≡ 2 * n → decode_sized text n ≡ Ok bytes → IsHexOf text (digits_of bytes)
decode_sized-spells text bytes n len e = decode_pairs-spells 0 text bytes (sym (decode_sized-pairs text n len) ∙ e)

-- a text of the right length that does not decode has a character that is no digit
pub decode_sized-fault : (text : List ℕ) (n : ℕ) (f : FromHexError) → length text ≡ 2 * n → decode_sized text n ≡ Err f
    → Any (λ c. hex_digit_value c ≡ None) text
decode_sized-fault text n f len e = decode_pairs-fault 0 text f (omega arith) (sym (decode_sized-pairs text n len) ∙ e)

-- a text of an id's length that is refused has a bad character
pub refused_whole : (value : ℕ → Option ℕ) (whole : List ℕ) (kind : Kind) (fault : Error) → length whole ≡ hex_len kind
    → IsFaultOf value whole fault → Any (λ c. value c ≡ None) whole
refused_whole value whole Sha1 (InvalidHexEncodingLength n) len h = absurd (h.1 (h.0 ∙ len))
refused_whole value whole Sha256 (InvalidHexEncodingLength n) len h = absurd (h.2 (h.0 ∙ len))
refused_whole value whole kind Invalid len h = h.1

-- a character of one text that reads as none is where the other's does
pub any_through : (v w : ℕ → Option ℕ) (xs ys : List ℕ) → map v xs ≡ map w ys
    → Any (λ c. v c ≡ None) xs → Any (λ c. w c ≡ None) ys
any_through v w [] ys e h = absurd (omega arith)
any_through v w (x ∷ xs) [] e h = cc
any_through v w (x ∷ xs) (y ∷ ys) e (zero, d, low, at, none) =
    let first : v x ≡ w y = cc in
    let is : x ≡ d = at in
    (0, y, omega arith, refl, sym first ∙ (ap v is ∙ none))
any_through v w (x ∷ xs) (y ∷ ys) e (suc i, d, low, at, none) =
    let more : map v xs ≡ map w ys = cc in
    let rest = any_through v w xs ys more (i, d, omega arith, at, none) in
    (suc rest.0, rest.1, omega arith, rest.3, rest.4)
