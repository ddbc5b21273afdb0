-- Lists side by side, and the item at a place in each.
use Rattle.std.proofs.Common.{◌≡◌, ℕ, zero, suc, ◌<◌, List, [], ◌∷◌, length, get_or, refl, ap, arith}
use Rattle.std.specs.List.{AllZip}

pub zip_length : {A B : Type 0} (R : A → B → Type 0) (xs : List A) (ys : List B) → AllZip R xs ys → length xs ≡ length ys
zip_length R [] [] are = refl
zip_length R [] (y ∷ ys) are = absurd are
zip_length R (x ∷ xs) [] are = absurd are
zip_length R (x ∷ xs) (y ∷ ys) are = ap suc (zip_length R xs ys are.1)

pub zip_get : {A B : Type 0} (R : A → B → Type 0) (xs : List A) (ys : List B) → AllZip R xs ys → (i : ℕ) (x : A) (y : B) → i < length xs → R (get_or xs i x) (get_or ys i y)
zip_get R [] ys are i x y less = absurd (omega arith)
zip_get R (a ∷ xs) [] are i x y less = absurd are
zip_get R (a ∷ xs) (b ∷ ys) are zero x y less = are.0
zip_get R (a ∷ xs) (b ∷ ys) are (suc i) x y less = zip_get R xs ys are.1 i x y (omega arith)
