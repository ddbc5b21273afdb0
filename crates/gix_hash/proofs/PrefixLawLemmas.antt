-- The laws of reverse spellings and of beginnings.
use Rattle.std.proofs.Common.{◌≡◌, ℕ, ◌-◌, ◌<◌, List, [], ◌∷◌, ◌++◌, ◌≤◌, length, length-append, get_or, Some, refl, ap, ◌∙◌, arith, inl, inr, ◌⊎◌}
use Rattle.std.proofs.lemmas.Bool.{cases_eq, cases_lt}
use Rattle.std.proofs.lemmas.Bool.Decides.{nat_tests}
use Rattle.gix_hash.specs.Views.{IsBytesOf}
use Rattle.gix_hash.specs.Id.{Id, digits_of}
use Rattle.gix_hash.specs.Order.{digits_cmp}
use Rattle.gix_hash.specs.Beginnings.{IsBeginningOf, BeginsAllOf, BeginNoneTogether}
use Rattle.gix_hash.specs.ReverseSpelling.{reverse_hex_text, reverse_digit_value, reverse_character, IsReverseHexOf}
use Rattle.gix_hash.proofs.KindLemmas.{hex_len-byte_len}
use Rattle.gix_hash.proofs.ByteLists.{id-digits_len}
use Rattle.gix_hash.proofs.PrefixLemmas.{hex_len-small}
use Rattle.gix_hash.proofs.Compared.{cmp_less, cmp_equal, cmp_greater}
use Rattle.gix_hash.proofs.LawLemmas.{AreDigits, none, more, bytes-AreDigits}

reverse_digit : (d : ℕ) → d < 16 → reverse_digit_value (reverse_character d) ≡ Some d
reverse_digit d low =
    let back : 122 - (122 - d) ≡ d = omega arith in
    grind (arith, nat_tests)

pub reverse_hex_text-IsReverseHexOf : (ds : List ℕ) → AreDigits ds → IsReverseHexOf (reverse_hex_text ds) ds
reverse_hex_text-IsReverseHexOf [] none = refl
reverse_hex_text-IsReverseHexOf (d ∷ ds) (more low h) = rw (reverse_digit d low, reverse_hex_text-IsReverseHexOf ds h) refl

-- the order of reverse texts
pub reverse_cmp : (xs ys : List ℕ) → length xs ≡ length ys → AreDigits xs → AreDigits ys
    → digits_cmp (reverse_hex_text xs) (reverse_hex_text ys) ≡ digits_cmp ys xs
reverse_cmp [] [] e none none = refl
reverse_cmp [] (y ∷ ys) e hx hy = absurd (omega arith)
reverse_cmp (x ∷ xs) [] e hx hy = absurd (omega arith)
reverse_cmp (x ∷ xs) (y ∷ ys) e (more lx hx) (more ly hy) =
    let rest = reverse_cmp xs ys (omega arith) hx hy in
    elim (cases_lt x y) [
      | inl less ↦ rw (cmp_greater (122 - x) (122 - y) (omega arith), cmp_greater y x less) refl
      | inr others ↦ elim (cases_lt y x) [
        | inl greater ↦ rw (cmp_less (122 - x) (122 - y) (omega arith), cmp_less y x greater) refl
        | inr same ↦ rw (cmp_equal (122 - x) (122 - y) (omega arith), cmp_equal y x (omega arith)) rest
      ]
    ]

-- the first character of what two lists begin
first_same : (x y : ℕ) (xs ys ds : List ℕ) → IsBeginningOf (x ∷ xs) ds → IsBeginningOf (y ∷ ys) ds → x ≡ y
first_same x y xs ys ds h g = let he = h.1 in let ge = g.1 in cc

-- one digit before both
begins_all_more : (x : ℕ) (xs ys : List ℕ) → BeginsAllOf xs ys → BeginsAllOf (x ∷ xs) (x ∷ ys)
begins_all_more x xs ys h ds g =
    let rest = h (ys ++ g.0) (g.0, refl) in
    let all = g.1 in
    let here = rest.1 in
    (rest.0, all ∙ ap (λ (zs : List ℕ). x ∷ zs) here)

begin_none_more : (x : ℕ) (xs ys : List ℕ) → BeginNoneTogether xs ys → BeginNoneTogether (x ∷ xs) (x ∷ ys)
begin_none_more x xs ys h ds f g =
    let left = f.1 in
    let right = g.1 in
    let same : xs ++ f.0 ≡ ys ++ g.0 = cc in
    h (xs ++ f.0) (f.0, refl) (g.0, same)

-- of two lists one begins all that the other begins, or they begin nothing in common
pub nest_or_apart : (xs ys : List ℕ) → BeginsAllOf xs ys ⊎ (BeginsAllOf ys xs ⊎ BeginNoneTogether xs ys)
nest_or_apart [] ys = inl (λ ds h. (ds, refl))
nest_or_apart (x ∷ xs) [] = inr (inl (λ ds h. (ds, refl)))
nest_or_apart (x ∷ xs) (y ∷ ys) = elim (cases_eq x y) [
  | inl same ↦ rw (← same) (elim (nest_or_apart xs ys) [
    | inl a ↦ inl (begins_all_more x xs ys a)
    | inr rest ↦ elim rest [
      | inl b ↦ inr (inl (begins_all_more x ys xs b))
      | inr c ↦ inr (inr (begin_none_more x xs ys c))
    ]
  ])
  | inr differ ↦ inr (inr (λ ds f g. differ (first_same x y xs ys ds f g)))
]

-- the digits of a front
pub AreDigits-front : (xs ys : List ℕ) → AreDigits (xs ++ ys) → AreDigits xs
AreDigits-front [] ys h = none
AreDigits-front (x ∷ xs) ys (more low h) = more low (AreDigits-front xs ys h)

-- the digits of a prefix, whose bytes have zeros after them, are below 16
pub front-AreDigits : (front digits zeros bytes : List ℕ) → digits ≡ front ++ zeros → digits_of bytes ≡ digits → ((i : ℕ) → get_or bytes i 0 < 256) → AreDigits front
front-AreDigits front digits zeros bytes e is fits = AreDigits-front front zeros (bytes-AreDigits (front ++ zeros) bytes (is ∙ e) fits)

-- and how many these are at most
pub front_fits : (front zeros : List ℕ) (id : Id) (bytes : List ℕ) → id.digits ≡ front ++ zeros → IsBytesOf bytes id → length front ≤ 64
front_fits front zeros id bytes e h =
    let all = id-digits_len id bytes h in
    let parts = ap (λ (ds : List ℕ). length ds) e ∙ length-append front zeros in
    let most = hex_len-small id.kind in
    let same = hex_len-byte_len id.kind in
    omega arith
