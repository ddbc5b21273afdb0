-- The state of a walk in which each commit comes after all its children.
use Rattle.std.specs.Prelude.{◌≡◌, ℕ, ◌+◌, ◌<◌, ◌≤◌, Bool, cond, List, [], ◌∷◌, ◌++◌, take, Contains, ℤ}
use Rattle.gix_traverse_graph.specs.Order.{At, IsReady, Outranks}

-- how many pass
abbrev pub times : {I : Type 0} → (I → Bool) → List I → ℕ
times p [] = 0
times p (x ∷ xs) = cond (p x) 1 0 + times p xs

-- what all weigh
abbrev pub total : {I : Type 0} → (I → ℕ) → List I → ℕ
total w [] = 0
total w (x ∷ xs) = w x + total w xs

-- how often these commits name y as a parent
abbrev pub names_of : {I : Type 0} → (I → I → Bool) → (I → List I) → I → List I → ℕ
names_of eq along y xs = total (λ c. times (eq y) (along c)) xs

-- the two lists have the same elements, each as often
abbrev pub SameBag : {I : Type 0} → (I → I → Bool) → List I → List I → Type 0
SameBag {I} eq xs ys = (y : I) → times (eq y) xs ≡ times (eq y) ys

-- before is given, each by its turn, and those that may be given next are waiting
pub record Waits {I : Type 0} (eq : I → I → Bool) (along : I → List I) (S : I → Type 0)
    (Comes : List I → I → I → Type 0) (before waiting : List I) : Type 0 where
  pub inside : (x : I) → Contains before x → S x
  pub ready : (x : I) → Contains waiting x
      → S x × (Contains before x → ⊥) × IsReady along S before x
  pub all : (x : I) → S x → (Contains before x → ⊥) → IsReady along S before x → Contains waiting x
  pub once : (x : I) → times (eq x) waiting ≤ 1
  pub before_once : (j k : ℕ) (x : I) → At before j x → At before k x → j ≡ k
  pub fit : (k : ℕ) (x : I) → At before k x → IsReady along S (take k before) x
  pub chosen : (k : ℕ) (x y : I) → At before k x → S y → (Contains (take k before) y → ⊥)
      → IsReady along S (take k before) y → (y ≡ x → ⊥) → Comes (take k before) x y

-- of two that wait the later in the list comes first
pub record Ranked {I : Type 0} (along : I → List I) (tips : List I) (time : I → ℤ)
    (before stack : List I) : Type 0 where
  pub over : (k l : ℕ) (x y : I) → k < l → At stack k x → At stack l y
      → Outranks along tips time before y x

-- the parents of x that are ready once it is given
pub record Fresh {I : Type 0} (eq : I → I → Bool) (along : I → List I) (S : I → Type 0)
    (before : List I) (x : I) (fresh : List I) : Type 0 where
  pub some : (y : I) → Contains fresh y
      → S y × Contains (along x) y × IsReady along S (before ++ x ∷ []) y
  pub every : (y : I) → S y → Contains (along x) y → IsReady along S (before ++ x ∷ []) y
      → Contains fresh y
  pub once : (y : I) → times (eq y) fresh ≤ 1

-- its last place in a list
pub record IsLastAt {I : Type 0} (xs : List I) (x : I) (i : ℕ) : Type 0 where
  pub at : At xs i x
  pub last : (j : ℕ) → At xs j x → j ≤ i

-- they are in the order of their last places in the row
pub record Rising {I : Type 0} (row fresh : List I) : Type 0 where
  pub rising : (k l : ℕ) (y z : I) → k < l → At fresh k y → At fresh l z
      → (i : ℕ) × (j : ℕ) × IsLastAt row y i × IsLastAt row z j × (i < j)
  pub placed : (y : I) → Contains fresh y → (i : ℕ) × IsLastAt row y i

-- how often y is named by those given, and by the first m names of the row
abbrev pub named_so_far : {I : Type 0} → (I → I → Bool) → (I → List I) → List I → List I → ℕ → I → ℕ
named_so_far eq along before row m y = names_of eq along y before + times (eq y) (take m row)

-- of the first m names of the row those whose names are all counted off then
pub record Freed {I : Type 0} (eq : I → I → Bool) (along : I → List I) (zs before row : List I)
    (m : ℕ) (fresh : List I) : Type 0 where
  pub some : (y : I) → Contains fresh y
      → Contains zs y × Contains (take m row) y
      × (names_of eq along y zs ≤ named_so_far eq along before row m y)
  pub every : (y : I) → Contains zs y → Contains (take m row) y
      → names_of eq along y zs ≤ named_so_far eq along before row m y → Contains fresh y
  pub once : (y : I) → times (eq y) fresh ≤ 1
  pub rising : Rising (take m row) fresh
