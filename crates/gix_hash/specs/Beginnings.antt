-- Digits that begin others.
use Rattle.std.specs.Prelude.{ℕ, ◌≡◌, List, ◌++◌}

-- the first list begins the second
abbrev pub IsBeginningOf : List ℕ → List ℕ → Type 0
IsBeginningOf front digits = (rest : List ℕ) × (digits ≡ front ++ rest)

-- whatever the second list begins, the first begins too
abbrev pub BeginsAllOf : List ℕ → List ℕ → Type 0
BeginsAllOf front other =
    (digits : List ℕ) → IsBeginningOf other digits → IsBeginningOf front digits

-- no list has both as beginnings
abbrev pub BeginNoneTogether : List ℕ → List ℕ → Type 0
BeginNoneTogether one other =
    (digits : List ℕ) → IsBeginningOf one digits → IsBeginningOf other digits → ⊥
