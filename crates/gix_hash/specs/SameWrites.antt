-- Equal bytes are fed alike to a hasher of `Hash`.
use Rattle.std.specs.Prelude.{◌≡◌, ℕ, List, [], ◌∷◌, IsTrue, nat_eq, false}
use Rattle.std.specs.Cmp.Lexicographic.{pointwise}
use Rattle.std.proofs.Common.{ap}
use Rattle.std.proofs.lemmas.Bool.{false≢true}
use Rattle.std.proofs.lemmas.Slice.Eq.{bytes_eq-Decides}

-- the one write of equal bytes
pub same_write : (xs ys : List ℕ) → IsTrue (pointwise nat_eq xs ys)
    → ◌≡◌ {A = List (List ℕ)} (xs ∷ []) (ys ∷ [])
same_write xs ys h = ap (λ (zs : List ℕ). zs ∷ []) ((bytes_eq-Decides xs ys).0 h)

-- no fact is needed of values that differ
pub no_write : IsTrue false → ⊥
no_write h = false≢true h
