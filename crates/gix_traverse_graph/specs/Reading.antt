-- How far a walk in breadth order has come.
use Rattle.std.specs.Prelude.{◌≡◌, ℕ, ◌<◌, ◌≤◌, List, length, Contains}
use Rattle.gix_traverse_graph.specs.Order.{At, Before, IsKey, Named}
use Rattle.gix_traverse_graph.specs.Commits.{Reached}

-- the list so far, after each name before (p, m) was read: it has what these name, each commit by
-- its first name
pub record Read {I : Type 0} (along : I → List I) (tips : List I) (keep : I → Type 0)
    (xs : List I) (p m : ℕ) : Type 0 where
  pub within : p ≤ length xs
  pub reached : (k : ℕ) (x : I) → At xs k x → Reached along keep tips x
  pub once : (j k : ℕ) (x : I) → At xs j x → At xs k x → j ≡ k
  pub keyed : (k : ℕ) (x : I) → At xs k x
      → (q : ℕ) × (j : ℕ) × IsKey along tips xs x q j × Before q j p m
  pub ascending : (k l : ℕ) (x y : I) (a i b j : ℕ) → k < l → At xs k x → At xs l y
      → IsKey along tips xs x a i → IsKey along tips xs y b j → Before a i b j
  pub closed : (q j : ℕ) (x : I) → Named along tips xs q j x → Before q j p m → keep x
      → Contains xs x
