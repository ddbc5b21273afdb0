-- Bytes compared as digits.
use Rattle.std.proofs.Common.{◌≡◌, ℕ, ◌/◌, ◌%◌, ◌<◌, List, [], ◌∷◌, refl, sym, arith, inl, inr, nat_cmp}
use Rattle.std.specs.declared.cmp.Ordering.{Ordering}
use Rattle.std.specs.declared.cmp.Ordering.TheVariants.{Less, Equal, Greater}
use Rattle.std.specs.Ordering.{ordering_then}
use Rattle.std.specs.Cmp.{nat_cmp_is}
use Rattle.std.specs.Cmp.Lexicographic.{slice_cmp}
use Rattle.std.proofs.lemmas.Bool.{cases_lt}
use Rattle.gix_hash.specs.Id.{digits_of}
use Rattle.gix_hash.specs.Order.{digits_cmp}

-- one test after two others
pub then_assoc : (a b c : Ordering) → ordering_then (ordering_then a b) c ≡ ordering_then a (ordering_then b c)
then_assoc Less b c = refl
then_assoc Equal b c = refl
then_assoc Greater b c = refl

pub cmp_less : (x y : ℕ) → x < y → nat_cmp x y ≡ Less
cmp_less x y h = sym (nat_cmp_is x y Less h)

pub cmp_equal : (x y : ℕ) → x ≡ y → nat_cmp x y ≡ Equal
cmp_equal x y h = sym (nat_cmp_is x y Equal h)

pub cmp_greater : (x y : ℕ) → y < x → nat_cmp x y ≡ Greater
cmp_greater x y h = sym (nat_cmp_is x y Greater h)

-- two bytes compare as their digits
pub byte_cmp : (x y : ℕ) → nat_cmp x y ≡ ordering_then (nat_cmp (x / 16) (y / 16)) (nat_cmp (x % 16) (y % 16))
byte_cmp x y =
    elim (cases_lt (x / 16) (y / 16)) [
      | inl less ↦ rw (cmp_less x y (omega arith), cmp_less (x / 16) (y / 16) less) refl
      | inr others ↦ elim (cases_lt (y / 16) (x / 16)) [
        | inl greater ↦ rw (cmp_greater x y (omega arith), cmp_greater (x / 16) (y / 16) greater) refl
        | inr rest ↦
            let same : x / 16 ≡ y / 16 = omega arith in
            rw (cmp_equal (x / 16) (y / 16) same) (low_cmp x y same)
      ]
    ]
  where
    low_cmp : (x y : ℕ) → x / 16 ≡ y / 16 → nat_cmp x y ≡ nat_cmp (x % 16) (y % 16)
    low_cmp x y same =
        elim (cases_lt x y) [
          | inl less ↦ rw (cmp_less x y less, cmp_less (x % 16) (y % 16) (omega arith)) refl
          | inr others ↦ elim (cases_lt y x) [
            | inl greater ↦ rw (cmp_greater x y greater, cmp_greater (x % 16) (y % 16) (omega arith)) refl
            | inr rest ↦ rw (cmp_equal x y (omega arith), cmp_equal (x % 16) (y % 16) (omega arith)) refl
          ]
        ]

-- bytes compare as their digits
pub bytes_cmp : (xs ys : List ℕ) → slice_cmp nat_cmp xs ys ≡ digits_cmp (digits_of xs) (digits_of ys)
bytes_cmp [] [] = refl
bytes_cmp [] (y ∷ ys) = refl
bytes_cmp (x ∷ xs) [] = refl
bytes_cmp (x ∷ xs) (y ∷ ys) =
    rw (byte_cmp x y, bytes_cmp xs ys) (then_assoc (nat_cmp (x / 16) (y / 16)) (nat_cmp (x % 16) (y % 16)) (digits_cmp (digits_of xs) (digits_of ys)))
