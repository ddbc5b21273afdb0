-- Digits as text in reverse hexadecimal.
use Rattle.std.proofs.Common.{◌≡◌, ℕ, ◌+◌, ◌*◌, ◌/◌, ◌%◌, ◌<◌, List, [], ◌∷◌, length, take, slice_index, slice_set, refl, arith}
use Rattle.std.proofs.lemmas.List.{map-append, take_more}
use Rattle.std.proofs.lemmas.Str.Ascii.{IsAscii-nil, IsAscii-cons}
use Rattle.std.specs.Str.{IsAscii}
use Rattle.hex.proofs.Pairs.{take-two_writes}
use Rattle.gix_hash.specs.Id.{digits_of}
use Rattle.gix_hash.specs.ReverseSpelling.{reverse_character, reverse_hex_text}
use Rattle.gix_hash.proofs.ByteLists.{digits_of-append}

-- one byte more in reverse hexadecimal
pub reverse_more : (bytes out : List ℕ) (i a b : ℕ) → i < length bytes → 2 * i + 1 < length out
    → a ≡ reverse_character (slice_index bytes i / 16) → b ≡ reverse_character (slice_index bytes i % 16)
    → take (2 * i) out ≡ reverse_hex_text (digits_of (take i bytes))
    → take (2 * (i + 1)) (slice_set (slice_set out (2 * i) a) (2 * i + 1) b) ≡ reverse_hex_text (digits_of (take (i + 1) bytes))
reverse_more bytes out i a b h fits ea eb inv =
    let two : 2 * (i + 1) ≡ 2 * i + 2 = omega arith in
    rw (two, take-two_writes out (2 * i) a b fits, take_more bytes i 0 h, digits_of-append, map-append, inv, ea, eb) refl

-- the characters of digits in reverse hexadecimal are ASCII
pub IsAscii-reverse_hex_text : (ds : List ℕ) → IsAscii (reverse_hex_text ds)
IsAscii-reverse_hex_text [] = IsAscii-nil
IsAscii-reverse_hex_text (d ∷ ds) = IsAscii-cons (reverse_character d) (reverse_hex_text ds) (omega arith) (IsAscii-reverse_hex_text ds)
