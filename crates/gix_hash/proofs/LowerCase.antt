-- Digits in lower case are the characters that are written for their values.
use Rattle.std.proofs.Common.{◌≡◌, ◌∙◌, ap, refl, sym, ℕ, ◌+◌, ◌-◌, ◌<◌, ◌≤◌, zero, suc, Bool, true, false, ◌||◌, ◌&&◌, List, [], ◌∷◌, map, Some, None, arith}
use Rattle.std.specs.Prelude.{if◌then◌else◌, nat_le}
use Rattle.std.specs.Char.{is_ascii_uppercase}
use Rattle.std.specs.List.{list_any}
use Rattle.std.proofs.lemmas.Bool.Decides.{nat_tests}
use Rattle.hex.specs.Hex.{hex_digit_value}
use Rattle.gix_hash.specs.LetterCase.{IsLowerCase}
use Rattle.gix_hash.specs.Spelling.{hex_character, hex_text, IsHexOf}

-- the characters of the digits from ten on
pub letter : (k : ℕ) → k < 6 → hex_character (k + 10) ≡ k + 97
letter zero below = refl
letter (suc zero) below = refl
letter (suc (suc zero)) below = refl
letter (suc (suc (suc zero))) below = refl
letter (suc (suc (suc (suc zero)))) below = refl
letter (suc (suc (suc (suc (suc zero))))) below = refl
letter (suc (suc (suc (suc (suc (suc k)))))) below = absurd (omega arith)

-- and of those below ten
pub numeral : (k : ℕ) → k < 10 → hex_character k ≡ k + 48
numeral zero below = refl
numeral (suc zero) below = refl
numeral (suc (suc zero)) below = refl
numeral (suc (suc (suc zero))) below = refl
numeral (suc (suc (suc (suc zero)))) below = refl
numeral (suc (suc (suc (suc (suc zero))))) below = refl
numeral (suc (suc (suc (suc (suc (suc zero)))))) below = refl
numeral (suc (suc (suc (suc (suc (suc (suc zero))))))) below = refl
numeral (suc (suc (suc (suc (suc (suc (suc (suc zero)))))))) below = refl
numeral (suc (suc (suc (suc (suc (suc (suc (suc (suc zero))))))))) below = refl
numeral (suc (suc (suc (suc (suc (suc (suc (suc (suc (suc k)))))))))) below = absurd (omega arith)

within : (low high c : ℕ) → (nat_le low c && nat_le c high) ≡ true → (low ≤ c) × (c ≤ high)
within low high c is = (grind (arith, nat_tests), grind (arith, nat_tests))

not_capital : (c : ℕ) → (nat_le 65 c && nat_le c 90) ≡ false → (nat_le 65 c && nat_le c 70) ≡ true → ⊥
not_capital c low is = let range = within 65 70 c is in grind (arith, nat_tests)

by_range : (upper lower digit : Bool) (c d : ℕ) → (upper ≡ true → ⊥) → (lower ≡ true → (97 ≤ c) × (c ≤ 102)) → (digit ≡ true → (48 ≤ c) × (c ≤ 57))
    → (if upper then Some (c - 55) else if lower then Some (c - 87) else if digit then Some (c - 48) else None) ≡ Some d → hex_character d ≡ c
by_range true lower digit c d capital letters numerals is = absurd (capital refl)
by_range false true digit c d capital letters numerals is =
    let value : c - 87 ≡ d = cc in
    let range = letters refl in
    let same : d ≡ (c - 97) + 10 = omega arith in
    ap hex_character same ∙ letter (c - 97) (omega arith) ∙ omega arith
by_range false false true c d capital letters numerals is =
    let value : c - 48 ≡ d = cc in
    let range = numerals refl in
    ap hex_character (sym value) ∙ numeral (c - 48) (omega arith) ∙ omega arith
by_range false false false c d capital letters numerals is = absurd cc

same_character : (c d : ℕ) → hex_digit_value c ≡ Some d → is_ascii_uppercase c ≡ false → hex_character d ≡ c
same_character c d is low =
    by_range (nat_le 65 c && nat_le c 70) (nat_le 97 c && nat_le c 102) (nat_le 48 c && nat_le c 57) c d (not_capital c low) (within 97 102 c) (within 48 57 c) is

or_false : (a b : Bool) → (a || b) ≡ false → (a ≡ false) × (b ≡ false)
or_false true b e = absurd cc
or_false false b e = (refl, e)

pub same_digits : (text digits : List ℕ) → IsHexOf text digits → IsLowerCase text → hex_text digits ≡ text
same_digits [] [] is low = refl
same_digits [] (d ∷ digits) is low = absurd cc
same_digits (c ∷ text) [] is low = absurd cc
same_digits (c ∷ text) (d ∷ digits) is low =
    let first : hex_digit_value c ≡ Some d = cc in
    let rest : map hex_digit_value text ≡ map (λ (d : ℕ). Some d) digits = cc in
    let both = or_false (is_ascii_uppercase c) (list_any is_ascii_uppercase text) low in
    let character = same_character c d first both.0 in
    let later = same_digits text digits rest both.1 in
    λ i. character i ∷ later i
