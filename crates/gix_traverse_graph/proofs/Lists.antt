-- Lemmas on places in a list.
use Rattle.std.proofs.Common.{sym, subst, ◌≡◌, ℕ, zero, suc, ◌<◌, ◌⊎◌, inl, inr, List, [], ◌∷◌, ◌++◌, length, take, refl, ◌∙◌, ap, arith, Some, slice_get}
use Rattle.std.specs.Prelude.{Contains}
use Rattle.std.proofs.lemmas.Option.{slice_get_within, get_or_from_slice_get, slice_get-get_or}
use Rattle.gix_traverse_graph.specs.Order.{At, Before}

-- one place holds one element
pub at_one : {I : Type 0} (xs : List I) (k : ℕ) (x y : I) → At xs k x → At xs k y → x ≡ y
at_one xs k x y a b = cc

pub at_from_contains : {I : Type 0} (xs : List I) (x : I) → Contains xs x → (k : ℕ) × At xs k x
at_from_contains xs x (k, l, e) = (k, slice_get-get_or xs k x l ∙ ap Some e)

pub contains_from_at : {I : Type 0} (xs : List I) (k : ℕ) (x : I) → At xs k x → Contains xs x
contains_from_at xs k x a = (k, slice_get_within xs k x a, get_or_from_slice_get xs k x x a)

pub none_at_nil : {I : Type 0} (k : ℕ) (x : I) → At [] k x → ⊥
none_at_nil k x a = cc

-- below k the lists agree
abbrev pub Agree : {I : Type 0} → List I → List I → ℕ → Type 0
Agree xs ys k = (j : ℕ) → j < k → slice_get xs j ≡ slice_get ys j

pub same_from_agree : {I : Type 0} (xs ys : List I) → ((j : ℕ) → slice_get xs j ≡ slice_get ys j) → xs ≡ ys
same_from_agree [] [] h = refl
same_from_agree [] (y ∷ ys) h = let e = h 0 in cc
same_from_agree (x ∷ xs) [] h = let e = h 0 in cc
same_from_agree (x ∷ xs) (y ∷ ys) h =
    let e = h 0 in
    let r = same_from_agree xs ys (λ j. h (suc j)) in
    cc

pub at_take : {I : Type 0} (xs : List I) (k j : ℕ) (x : I) → j < k → At xs j x → At (take k xs) j x
at_take [] zero j x l a = absurd (omega arith)
at_take [] (suc k) j x l a = cc
at_take (y ∷ xs) zero j x l a = absurd (omega arith)
at_take (y ∷ xs) (suc k) zero x l a = a
at_take (y ∷ xs) (suc k) (suc j) x l a = at_take xs k j x (omega arith) a

pub at_from_take : {I : Type 0} (xs : List I) (k j : ℕ) (x : I) → At (take k xs) j x → (j < k) × At xs j x
at_from_take [] zero j x a = let z : ⊥ = cc in absurd z
at_from_take [] (suc k) j x a = let z : ⊥ = cc in absurd z
at_from_take (y ∷ xs) zero j x a = let z : ⊥ = cc in absurd z
at_from_take (y ∷ xs) (suc k) zero x a = (omega arith, a)
at_from_take (y ∷ xs) (suc k) (suc j) x a = let r = at_from_take xs k j x a in (omega arith, r.1)

pub take_agree : {I : Type 0} (xs ys : List I) (k : ℕ) → Agree xs ys k → take k xs ≡ take k ys
take_agree [] [] k h = refl
take_agree [] (y ∷ ys) zero h = refl
take_agree [] (y ∷ ys) (suc k) h = let e = h 0 (omega arith) in cc
take_agree (x ∷ xs) [] zero h = refl
take_agree (x ∷ xs) [] (suc k) h = let e = h 0 (omega arith) in cc
take_agree (x ∷ xs) (y ∷ ys) zero h = refl
take_agree (x ∷ xs) (y ∷ ys) (suc k) h =
    let e = h 0 (omega arith) in
    let r = take_agree xs ys k (λ j l. h (suc j) (omega arith)) in
    cc

pub three : (j k : ℕ) → (j < k) ⊎ ((j ≡ k) ⊎ (k < j))
three j k = grind arith

-- a pair that is not before another is after it or the same
pub not_before : (p i q j : ℕ) → (Before p i q j → ⊥) → Before q j p i ⊎ ((p ≡ q) × (i ≡ j))
not_before p i q j h = grind arith

pub at_push : {I : Type 0} (xs : List I) (y : I) (k : ℕ) (x : I) → At xs k x → At (xs ++ y ∷ []) k x
at_push [] y k x a = let z : ⊥ = cc in absurd z
at_push (w ∷ xs) y zero x a = a
at_push (w ∷ xs) y (suc k) x a = at_push xs y k x a

pub at_from_push : {I : Type 0} (xs : List I) (y : I) (k : ℕ) (x : I) → At (xs ++ y ∷ []) k x → At xs k x ⊎ ((k ≡ length xs) × (x ≡ y))
at_from_push [] y zero x a = inr (refl, cc)
at_from_push [] y (suc k) x a = let z : ⊥ = cc in absurd z
at_from_push (w ∷ xs) y zero x a = inl a
at_from_push (w ∷ xs) y (suc k) x a = elim (at_from_push xs y k x a) [ inl h ↦ inl h | inr e ↦ inr (ap suc e.0, e.1) ]

pub at_append : {I : Type 0} (xs : List I) (y : I) (ys : List I) → At (xs ++ y ∷ ys) (length xs) y
at_append [] y ys = refl
at_append (x ∷ xs) y ys = at_append xs y ys

-- one more, that wasn't there
pub once_push : {I : Type 0} (xs : List I) (y : I) → ((j k : ℕ) (x : I) → At xs j x → At xs k x → j ≡ k) → (Contains xs y → ⊥) → (j k : ℕ) (x : I) → At (xs ++ y ∷ []) j x → At (xs ++ y ∷ []) k x → j ≡ k
once_push {I} xs y once out j k x a b = elim (at_from_push xs y j x a) [
  | inl h ↦ elim (at_from_push xs y k x b) [ inl i ↦ once j k x h i | inr s ↦ absurd (out (subst (λ (z : I). Contains xs z) s.1 (contains_from_at xs j x h))) ]
  | inr d ↦ elim (at_from_push xs y k x b) [ inl i ↦ absurd (out (subst (λ (z : I). Contains xs z) d.1 (contains_from_at xs k x i))) | inr s ↦ d.0 ∙ sym s.0 ]
]

pub none_from_length : {I : Type 0} (xs : List I) → length xs ≡ 0 → xs ≡ []
none_from_length [] e = refl
none_from_length (x ∷ xs) e = let z : ⊥ = cc in absurd z
