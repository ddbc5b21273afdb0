-- The first digits of bytes compared by these bytes.
use Rattle.std.proofs.Common.{◌≡◌, ℕ, ◌+◌, ◌*◌, ◌/◌, ◌%◌, ◌≤◌, List, [], ◌∷◌, ◌++◌, length, take, get_or, refl, ap, sym, ◌∙◌, arith, nat_cmp}
use Rattle.std.specs.declared.cmp.Ordering.{Ordering}
use Rattle.std.specs.declared.cmp.Ordering.TheVariants.{Less, Equal, Greater}
use Rattle.std.specs.Ordering.{ordering_then}
use Rattle.std.specs.Cmp.Lexicographic.{slice_cmp}
use Rattle.gix_hash.specs.Id.{digits_of}
use Rattle.gix_hash.specs.Order.{digits_cmp}
use Rattle.gix_hash.proofs.Padding.{digits_of-take, take_odd-digits_of}
use Rattle.std.proofs.lemmas.List.{length-take-le}
use Rattle.gix_hash.proofs.ByteLists.{length-digits_of}
use Rattle.gix_hash.proofs.Compared.{then_assoc, bytes_cmp}

-- one digit more
pub push_cmp : (xs ys : List ℕ) (a b : ℕ) → length xs ≡ length ys
    → digits_cmp (xs ++ a ∷ []) (ys ++ b ∷ []) ≡ ordering_then (digits_cmp xs ys) (nat_cmp a b)
push_cmp [] [] a b len = then_equal (nat_cmp a b)
  where
    then_equal : (o : Ordering) → ordering_then o Equal ≡ o
    then_equal Less = refl
    then_equal Equal = refl
    then_equal Greater = refl
push_cmp [] (y ∷ ys) a b len = absurd (omega arith)
push_cmp (x ∷ xs) [] a b len = absurd (omega arith)
push_cmp (x ∷ xs) (y ∷ ys) a b len =
    let rest = push_cmp xs ys a b (omega arith) in
    rw rest (sym (then_assoc (nat_cmp x y) (digits_cmp xs ys) (nat_cmp a b)))

-- an even number of digits
pub even_cmp : (xs ys : List ℕ) (n : ℕ) → n % 2 ≡ 0
    → slice_cmp nat_cmp (take (n / 2) xs) (take (n / 2) ys) ≡ digits_cmp (take n (digits_of xs)) (take n (digits_of ys))
even_cmp xs ys n even =
    let e : 2 * (n / 2) ≡ n = omega arith in
    let bytes = bytes_cmp (take (n / 2) xs) (take (n / 2) ys) in
    rw (digits_of-take (n / 2) xs, digits_of-take (n / 2) ys, e) at bytes

-- an odd number of digits
pub odd_cmp : (xs ys : List ℕ) (n : ℕ) → n % 2 ≡ 1 → n ≤ 2 * length xs → n ≤ 2 * length ys
    → ordering_then (slice_cmp nat_cmp (take (n / 2) xs) (take (n / 2) ys)) (nat_cmp (get_or xs (n / 2) 0 / 16) (get_or ys (n / 2) 0 / 16))
    ≡ digits_cmp (take n (digits_of xs)) (take n (digits_of ys))
odd_cmp xs ys n odd fits_xs fits_ys =
    let k = n / 2 in
    let e : n ≡ 2 * (n / 2) + 1 = omega arith in
    let len : length (digits_of (take k xs)) ≡ length (digits_of (take k ys)) =
    length-digits_of (take k xs) ∙ (ap (λ (m : ℕ). 2 * m) (length-take-le k xs (omega arith) ∙ sym (length-take-le k ys (omega arith))) ∙ sym (length-digits_of (take k ys))) in
    let left : take n (digits_of xs) ≡ digits_of (take k xs) ++ (get_or xs k 0 / 16) ∷ [] =
    ap (λ (m : ℕ). take m (digits_of xs)) e ∙ take_odd-digits_of k xs (omega arith) in
    let right : take n (digits_of ys) ≡ digits_of (take k ys) ++ (get_or ys k 0 / 16) ∷ [] =
    ap (λ (m : ℕ). take m (digits_of ys)) e ∙ take_odd-digits_of k ys (omega arith) in
    rw (left, right, push_cmp (digits_of (take k xs)) (digits_of (take k ys)) _ _ len, ← bytes_cmp (take k xs) (take k ys)) refl
