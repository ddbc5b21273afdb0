-- The front of a field that is kept.
use Rattle.std.proofs.Common.{◌≡◌, ℕ, zero, suc, ◌-◌, min, Bool, true, false, Result, Ok, Err, is_ok, OnOk, List, [], ◌∷◌, ◌++◌, length, take, refl, ap, ◌∙◌, if◌then◌else◌, arith}

pub on_ok_from : {T E : Type 0} (r : Result T E) (P : Type 0) → (is_ok r ≡ true → P) → OnOk r P
on_ok_from (Ok x) P f = f refl
on_ok_from (Err x) P f = tt

pub items_ok : (b : Bool) (x y z : List ℕ) → z ≡ (if b then x else y) → b ≡ true → z ≡ x
items_ok true x y z e h = e
items_ok false x y z e h = absurd cc

cut : (n : ℕ) (xs : List ℕ) → take (min n (length xs)) xs ≡ take n xs
cut zero xs = let e : min zero (length xs) ≡ zero = omega arith in ap (λ k. take k xs) e
cut (suc n) [] = let e : min (suc n) (length {A = ℕ} []) ≡ zero = omega arith in ap (λ k. take {A = ℕ} k []) e
cut (suc n) (x ∷ xs) = let e : min (suc n) (length (x ∷ xs)) ≡ suc (min n (length xs)) = omega arith in ap (λ k. take k (x ∷ xs)) e ∙ ap (λ ys. x ∷ ys) (cut n xs)

-- the first n bytes, and as many more as are missing
pub keep_more : (n : ℕ) (front bytes : List ℕ) → take n front ++ take (min (n - length (take n front)) (length bytes)) bytes ≡ take n (front ++ bytes)
keep_more zero front bytes = let e : min (zero - length {A = ℕ} []) (length bytes) ≡ zero = omega arith in ap (λ k. take k bytes) e
keep_more (suc n) [] bytes = let e : min (suc n - length {A = ℕ} []) (length bytes) ≡ min (suc n) (length bytes) = omega arith in ap (λ k. take k bytes) e ∙ cut (suc n) bytes
keep_more (suc n) (x ∷ front) bytes =
    let e : min (suc n - length (x ∷ take n front)) (length bytes) ≡ min (n - length (take n front)) (length bytes) = omega arith in
    ap (λ k. x ∷ (take n front ++ take k bytes)) e ∙ ap (λ ys. x ∷ ys) (keep_more n front bytes)
