-- Two lists side by side.
use Rattle.std.proofs.Common.{◌≡◌, ℕ, zero, suc, ◌+◌, ◌<◌, List, [], ◌∷◌, ◌++◌, length, take, get_or, refl, sym, ◌∙◌, ap, subst, arith}
use Rattle.std.specs.List.{AllZip}

-- ---- lists side by side

pub next_of : {A B : Type 0} (R : A → B → Type 0) (xs : List A) (ys : List B) → AllZip R xs ys → (i : ℕ) (y : B) → i < length ys → y ≡ get_or ys i y
    → (x : A) × R x y × (rest : List A) × (xs ≡ take i xs ++ x ∷ rest) × ((n : ℕ) → n ≡ suc i → take n xs ≡ take i xs ++ x ∷ [])
next_of R [] [] all i y less at = absurd (omega arith)
next_of R [] (z ∷ ys) all i y less at = absurd all
next_of R (x ∷ xs) [] all i y less at = absurd all
next_of R (x ∷ xs) (z ∷ ys) all zero y less at = (x, subst (R x) (sym at) all.0, xs, refl, λ n e. ap (λ m. take m (x ∷ xs)) e)
next_of R (x ∷ xs) (z ∷ ys) all (suc i) y less at =
    let n = next_of R xs ys all.1 i y (omega (arith, less)) at in
    (n.0, n.1, n.2, ap (λ t. x ∷ t) n.3, λ m e. ap (λ k. take k (x ∷ xs)) e ∙ ap (λ t. x ∷ t) (n.4 (suc i) refl))

pub long_zip : {A B : Type 0} (R : A → B → Type 0) (xs : List A) (ys : List B) → AllZip R xs ys → length xs ≡ length ys
long_zip R [] [] all = refl
long_zip R [] (y ∷ ys) all = absurd all
long_zip R (x ∷ xs) [] all = absurd all
long_zip R (x ∷ xs) (y ∷ ys) all = ap suc (long_zip R xs ys all.1)
