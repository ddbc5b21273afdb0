-- Beginnings compared by their padded digits, and then by their lengths.
use Rattle.std.proofs.Common.{◌≡◌, ℕ, zero, suc, ◌-◌, ◌≤◌, List, [], ◌∷◌, length, take, drop, replicate, refl, ap, sym, ◌∙◌, arith, inl, inr, nat_cmp}
use Rattle.std.specs.declared.cmp.Ordering.TheVariants.{Less, Equal, Greater}
use Rattle.std.specs.Ordering.{ordering_then}
use Rattle.std.proofs.lemmas.Bool.{cases_lt}
use Rattle.gix_hash.specs.Kind.{hex_len, kind_number}
use Rattle.gix_hash.specs.declared.object_id.ObjectId.{ObjectId}
use Rattle.gix_hash.specs.Id.{id_of}
use Rattle.gix_hash.specs.PackedBeginning.{beginning_of, IsZeroFrom}
use Rattle.gix_hash.specs.Order.{digits_cmp, id_cmp}
use Rattle.gix_hash.specs.OrderLaws.{kind_number-injective}
use Rattle.gix_hash.proofs.Compared.{cmp_less, cmp_equal, cmp_greater, then_assoc}

-- zeros come before no digits of their number
zeros_least : (k : ℕ) (ys : List ℕ) → length ys ≡ k → ordering_then (digits_cmp (replicate k 0) ys) Less ≡ Less
zeros_least zero [] e = refl
zeros_least zero (y ∷ ys) e = absurd (omega arith)
zeros_least (suc k) [] e = absurd (omega arith)
zeros_least (suc k) (y ∷ ys) e =
    elim (cases_lt 0 y) [
      | inl more ↦ rw (cmp_less 0 y more) refl
      | inr none ↦ rw (cmp_equal 0 y (omega arith)) (zeros_least k ys (omega arith))
    ]

zeros_least_after : (k : ℕ) (xs : List ℕ) → length xs ≡ k → ordering_then (digits_cmp xs (replicate k 0)) Greater ≡ Greater
zeros_least_after zero [] e = refl
zeros_least_after zero (x ∷ xs) e = absurd (omega arith)
zeros_least_after (suc k) [] e = absurd (omega arith)
zeros_least_after (suc k) (x ∷ xs) e =
    elim (cases_lt 0 x) [
      | inl more ↦ rw (cmp_greater x 0 more) refl
      | inr none ↦ rw (cmp_equal x 0 (omega arith)) (zeros_least_after k xs (omega arith))
    ]

same_digits : (xs : List ℕ) → digits_cmp xs xs ≡ Equal
same_digits [] = refl
same_digits (x ∷ xs) = rw (cmp_equal x x refl) (same_digits xs)

suc_cmp : (n m : ℕ) → nat_cmp (suc n) (suc m) ≡ nat_cmp n m
suc_cmp n m =
    elim (cases_lt n m) [
      | inl less ↦ rw (cmp_less n m less, cmp_less (suc n) (suc m) (omega arith)) refl
      | inr others ↦ elim (cases_lt m n) [
        | inl greater ↦ rw (cmp_greater n m greater, cmp_greater (suc n) (suc m) (omega arith)) refl
        | inr rest ↦ rw (cmp_equal n m (omega arith), cmp_equal (suc n) (suc m) (omega arith)) refl
      ]
    ]

-- digits with zeros after the first n and m compare by all, and then by n and m, as the first n and
-- m do
pad_cmp : (xs ys : List ℕ) (n m k : ℕ) → length xs ≡ k → length ys ≡ k → n ≤ k → m ≤ k
    → drop n xs ≡ replicate (k - n) 0 → drop m ys ≡ replicate (k - m) 0
    → ordering_then (digits_cmp xs ys) (nat_cmp n m) ≡ digits_cmp (take n xs) (take m ys)
pad_cmp xs ys zero zero k hx hy hn hm zx zy =
    let all : k - 0 ≡ k = omega arith in
    rw (zx, zy, same_digits (replicate (k - 0) 0)) refl
pad_cmp xs [] zero (suc m) k hx hy hn hm zx zy = absurd (omega arith)
pad_cmp xs (y ∷ ys) zero (suc m) k hx hy hn hm zx zy =
    let all : k - 0 ≡ k = omega arith in
    rw (zx, all, cmp_less 0 (suc m) (omega arith)) (zeros_least k (y ∷ ys) hy)
pad_cmp [] ys (suc n) zero k hx hy hn hm zx zy = absurd (omega arith)
pad_cmp (x ∷ xs) ys (suc n) zero k hx hy hn hm zx zy =
    let all : k - 0 ≡ k = omega arith in
    rw (zy, all, cmp_greater (suc n) 0 (omega arith)) (zeros_least_after k (x ∷ xs) hx)
pad_cmp [] ys (suc n) (suc m) k hx hy hn hm zx zy = absurd (omega arith)
pad_cmp (x ∷ xs) [] (suc n) (suc m) k hx hy hn hm zx zy = absurd (omega arith)
pad_cmp (x ∷ xs) (y ∷ ys) (suc n) (suc m) zero hx hy hn hm zx zy = absurd (omega arith)
pad_cmp (x ∷ xs) (y ∷ ys) (suc n) (suc m) (suc k) hx hy hn hm zx zy =
    let left : suc k - suc n ≡ k - n = omega arith in
    let right : suc k - suc m ≡ k - m = omega arith in
    let rest = pad_cmp xs ys n m k (omega arith) (omega arith) (omega arith) (omega arith)
    (zx ∙ ap (λ (j : ℕ). replicate {A = ℕ} j 0) left) (zy ∙ ap (λ (j : ℕ). replicate {A = ℕ} j 0) right) in
    rw (suc_cmp n m, then_assoc (nat_cmp x y) (digits_cmp xs ys) (nat_cmp n m), rest) refl

-- beginnings compare by kind, then by their padded digits, then by their lengths
pub padded_cmp : (a b : ObjectId) (n m : ℕ) → IsZeroFrom a n → IsZeroFrom b m
    → ordering_then (id_cmp (id_of a) (id_of b)) (nat_cmp n m) ≡ id_cmp (beginning_of a n) (beginning_of b m)
padded_cmp a b n m ha hb =
    let ka = kind_number (id_of a).kind in
    let kb = kind_number (id_of b).kind in
    let da = (id_of a).digits in
    let db = (id_of b).digits in
    then_assoc (nat_cmp ka kb) (digits_cmp da db) (nat_cmp n m) ∙
    elim (cases_lt ka kb) [
      | inl less ↦ rw (cmp_less ka kb less) refl
      | inr others ↦ elim (cases_lt kb ka) [
        | inl greater ↦ rw (cmp_greater ka kb greater) refl
        | inr rest ↦
            let kinds = kind_number-injective (id_of a).kind (id_of b).kind (omega arith) in
            let len : hex_len (id_of b).kind ≡ hex_len (id_of a).kind = ap hex_len (sym kinds) in
            ap (λ o. ordering_then (nat_cmp ka kb) o) (pad_cmp da db n m (hex_len (id_of a).kind) ha.whole (hb.whole ∙ len) ha.fits (fits_as len)
            ha.zeros (hb.zeros ∙ ap (λ (j : ℕ). replicate {A = ℕ} (j - m) 0) len))
      ]
    ]
  where
    fits_as : hex_len (id_of b).kind ≡ hex_len (id_of a).kind → m ≤ hex_len (id_of a).kind
    fits_as e = let f = hb.fits in omega arith
