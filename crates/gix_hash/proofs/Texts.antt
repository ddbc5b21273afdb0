-- Digits as text.
use Rattle.std.proofs.Common.{◌≡◌, ℕ, ◌/◌, ◌%◌, ◌≤◌, List, [], ◌∷◌, length, take, refl, ap, arith, min, lit<, codes}
use Rattle.std.proofs.lemmas.List.{take-take, take_min}
use Rattle.std.proofs.lemmas.Str.Ascii.{IsAscii-nil, IsAscii-cons}
use Rattle.std.proofs.lemmas.Str.{IsAscii-take}
use Rattle.std.specs.Str.{IsAscii}
use Rattle.std.specs.Prelude.{Result, Ok, Err, IsOk, OnOk}
use Rattle.hex.specs.Hex.{encode_with, lower_digits}
use Rattle.gix_hash.specs.Id.{digits_of}
use Rattle.gix_hash.specs.Spelling.{hex_character, hex_text}

-- the text of the crate `hex` spells the digits
pub encode_with-digits : (xs : List ℕ) → encode_with lower_digits xs ≡ hex_text (digits_of xs)
unfolding encode_with
encode_with-digits [] = refl
encode_with-digits (x ∷ xs) = ap (λ (cs : List ℕ). hex_character (x / 16) ∷ hex_character (x % 16) ∷ cs) (encode_with-digits xs)

-- what holds of an `Ok`
pub from_ok : {T E P : Type 0} (r : Result T E) → IsOk r → OnOk r P → P
from_ok (Ok x) h p = p
from_ok (Err e) h p = cc

-- the digits of the table are ASCII
IsAscii-lower_digits : IsAscii lower_digits
IsAscii-lower_digits =
    IsAscii-cons 48 (codes "123456789abcdef") (lit< tt) (IsAscii-cons 49 (codes "23456789abcdef") (lit< tt) (IsAscii-cons 50 (codes "3456789abcdef") (lit< tt) (IsAscii-cons 51 (codes "456789abcdef") (lit< tt) (IsAscii-cons 52 (codes "56789abcdef") (lit< tt) (IsAscii-cons 53 (codes "6789abcdef") (lit< tt) (IsAscii-cons 54 (codes "789abcdef") (lit< tt) (IsAscii-cons 55 (codes "89abcdef") (lit< tt) (IsAscii-cons 56 (codes "9abcdef") (lit< tt) (IsAscii-cons 57 (codes "abcdef") (lit< tt) (IsAscii-cons 97 (codes "bcdef") (lit< tt) (IsAscii-cons 98 (codes "cdef") (lit< tt) (IsAscii-cons 99 (codes "def") (lit< tt) (IsAscii-cons 100 (codes "ef") (lit< tt) (IsAscii-cons 101 (codes "f") (lit< tt) (IsAscii-cons 102 ([]) (lit< tt) (IsAscii-nil))))))))))))))))

-- the characters of digits are ASCII
pub IsAscii-hex_text : (ds : List ℕ) → IsAscii (hex_text ds)
IsAscii-hex_text [] = IsAscii-nil
IsAscii-hex_text (d ∷ ds) = IsAscii-cons (hex_character d) (hex_text ds) (IsAscii-lower_digits d) (IsAscii-hex_text ds)

-- the first characters of a buffer that begins with ASCII text
pub IsAscii-front : (buffer text : List ℕ) (n k : ℕ) → take n buffer ≡ text → IsAscii text → k ≤ n → IsAscii (take k buffer)
IsAscii-front buffer text n k e h under = rw (← take-take k n buffer under, e) (IsAscii-take text k h)

-- the first k digits of a text that a buffer begins with
pub front-shown : (buffer text : List ℕ) (n k : ℕ) → take n buffer ≡ text → length text ≡ n → take (min k n) buffer ≡ take k text
front-shown buffer text n k e len =
    let under : min k n ≤ n = omega arith in
    rw (← take-take (min k n) n buffer under, e, ← len) (take_min k text)
