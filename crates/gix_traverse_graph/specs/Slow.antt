use Rattle.std.specs.Prelude.{ℕ, zero, suc, Bool, cond, List, [], ◌∷◌, ◌++◌, Option, Some, None, slice_get}
use Rattle.std.specs.List.{list_any}

-- the list with the commit at its end, if it is kept and new
abbrev pub with_name : {I : Type 0} → (I → I → Bool) → (I → Bool) → List I → I → List I
with_name eq keep xs y = cond (keep y) (cond (list_any (eq y) xs) xs (xs ++ y ∷ [])) xs

abbrev pub with_names : {I : Type 0} → (I → I → Bool) → (I → Bool) → List I → List I → List I
with_names eq keep xs [] = xs
with_names eq keep xs (y ∷ ys) = with_names eq keep (with_name eq keep xs y) ys

-- the list in breadth order, found one place after another; none if the number of steps runs out
abbrev pub breadth_at : {I : Type 0} → (I → I → Bool) → (I → Bool) → (I → List I) → ℕ → List I → ℕ
    → Option I → Option (List I)
breadth_at eq keep along fuel xs n None = Some xs
breadth_at eq keep along zero xs n (Some x) = None
breadth_at eq keep along (suc fuel) xs n (Some x) =
    breadth_at eq keep along fuel (with_names eq keep xs (along x)) (suc n)
    (slice_get (with_names eq keep xs (along x)) (suc n))

abbrev pub breadth_list : {I : Type 0} → (I → I → Bool) → (I → Bool) → (I → List I) → List I → ℕ
    → Option (List I)
breadth_list eq keep along tips fuel =
    breadth_at eq keep along fuel (with_names eq keep [] tips) 0
    (slice_get (with_names eq keep [] tips) 0)
