-- Counts of names: when all names of a commit are counted off, its children are given.
use Rattle.std.proofs.Common.{◌≡◌, ℕ, zero, suc, ◌+◌, ◌≤◌, ◌⊎◌, inl, inr, List, [], ◌∷◌, ◌++◌, refl, sym, ap, subst, arith, Some, Bool}
use Rattle.std.specs.Prelude.{Contains}
use Rattle.gix_traverse_graph.specs.Order.{At, IsReady}
use Rattle.gix_traverse_topo.specs.Turns.{times, total, names_of}
use Rattle.gix_traverse_graph.proofs.Lists.{at_one, at_from_contains, contains_from_at}
use Rattle.gix_traverse_graph.proofs.Slow.{TellsApart}
use Rattle.gix_traverse_topo.proofs.Turns.{times_contains, contains_times, is_in}

-- the list without its place k
abbrev pub cut : {I : Type 0} → List I → ℕ → List I
cut [] k = []
cut (x ∷ xs) zero = xs
cut (x ∷ xs) (suc k) = x ∷ cut xs k

total-cut : {I : Type 0} (w : I → ℕ) (zs : List I) (k : ℕ) (x : I) → At zs k x → total w zs ≡ w x + total w (cut zs k)
total-cut w [] k x a = let z : ⊥ = cc in absurd z
total-cut w (z ∷ zs) zero x a = let e : z ≡ x = cc in ap (λ (v : _). w v + total w zs) e
total-cut w (z ∷ zs) (suc k) x a = let r = total-cut w zs k x a in omega arith

cut_keeps : {I : Type 0} (zs : List I) (k m : ℕ) (b : I) → At zs m b → (m ≡ k → ⊥) → Contains (cut zs k) b
cut_keeps [] k m b a n = let z : ⊥ = cc in absurd z
cut_keeps (z ∷ zs) zero zero b a n = absurd (n refl)
cut_keeps (z ∷ zs) zero (suc m) b a n = contains_from_at zs m b a
cut_keeps (z ∷ zs) (suc k) zero b a n = contains_from_at (z ∷ cut zs k) 0 b a
cut_keeps (z ∷ zs) (suc k) (suc m) b a n =
    let (j, c) = at_from_contains (cut zs k) b (cut_keeps zs k m b a (λ e. n (ap suc e))) in
    contains_from_at (z ∷ cut zs k) (suc j) b c

kept_by_cut : {I : Type 0} (zs : List I) (k : ℕ) (x : I) → At zs k x → (b : I) → Contains zs b → (b ≡ x → ⊥) → Contains (cut zs k) b
kept_by_cut zs k x a b m n = let (i, p) = at_from_contains zs b m in cut_keeps zs k i b p (λ e. n (at_one zs k b x (subst (λ (j : ℕ). At zs j b) e p) a))

tail_once : {I : Type 0} (x : I) (bs : List I) → ((j k : ℕ) (y : I) → At (x ∷ bs) j y → At (x ∷ bs) k y → j ≡ k) → (i j : ℕ) (y : I) → At bs i y → At bs j y → i ≡ j
tail_once x bs once i j y p q = let f = once (suc i) (suc j) y p q in omega arith

tail_apart : {I : Type 0} (x : I) (bs : List I) → ((j k : ℕ) (y : I) → At (x ∷ bs) j y → At (x ∷ bs) k y → j ≡ k) → (b : I) → Contains bs b → b ≡ x → ⊥
tail_apart x bs once b m same = let (j, p) = at_from_contains bs b m in let f = once 0 (suc j) b (ap Some (sym same)) p in omega arith

in_tail : {I : Type 0} (x : I) (bs : List I) (b : I) → Contains bs b → Contains (x ∷ bs) b
in_tail x bs b m = let (j, p) = at_from_contains bs b m in contains_from_at (x ∷ bs) (suc j) b p

-- members of zs, each once, weigh no more than zs without one that is not among them
pub weight_gap : {I : Type 0} (w : I → ℕ) (before zs : List I) (c : I) → ((j k : ℕ) (x : I) → At before j x → At before k x → j ≡ k) → ((b : I) → Contains before b → Contains zs b) → Contains zs c → (Contains before c → ⊥) → total w before + w c ≤ total w zs
weight_gap w [] zs c once within there none =
    let (k, a) = at_from_contains zs c there in
    let e = total-cut w zs k c a in
    omega arith
weight_gap {I} w (x ∷ bs) zs c once within there none =
    let (k, a) = at_from_contains zs x (within x (contains_from_at (x ∷ bs) 0 x refl)) in
    let e = total-cut w zs k x a in
    let r = weight_gap w bs (cut zs k) c
    (tail_once x bs once)
    (λ b m. kept_by_cut zs k x a b (within b (in_tail x bs b m)) (tail_apart x bs once b m))
    (kept_by_cut zs k x a c there (λ same. none (contains_from_at (x ∷ bs) 0 c (ap Some (sym same)))))
    (λ m. none (in_tail x bs c m)) in
    omega arith

-- a list whose members, each once, weigh nothing or are among before weighs no more than before
pub weight_within : {I : Type 0} (w : I → ℕ) (zs before : List I) → ((j k : ℕ) (x : I) → At zs j x → At zs k x → j ≡ k) → ((z : I) → Contains zs z → (w z ≡ 0) ⊎ Contains before z) → total w zs ≤ total w before
weight_within w [] before once within = omega arith
weight_within {I} w (z ∷ zs) before once within = go (within z (contains_from_at (z ∷ zs) 0 z refl)) (λ bs f. weight_within w zs bs (tail_once z zs once) f)
  where
    go : (w z ≡ 0) ⊎ Contains before z → ((bs : List I) → ((y : I) → Contains zs y → (w y ≡ 0) ⊎ Contains bs y) → total w zs ≤ total w bs) → total w (z ∷ zs) ≤ total w before
    go (inl e) r = let l = r before (λ y c. within y (in_tail z zs y c)) in omega arith
    go (inr c) r =
        let (k, a) = at_from_contains before z c in
        let e = total-cut w before k z a in
        let l = r (cut before k) (λ y m. elim (within y (in_tail z zs y m)) [ inl f ↦ inl f | inr d ↦ inr (kept_by_cut before k z a y d (tail_apart z zs once y m)) ]) in
        omega arith

pub total_push : {I : Type 0} (w : I → ℕ) (xs : List I) (x : I) → total w (xs ++ x ∷ []) ≡ total w xs + w x
total_push w [] x = omega arith
total_push w (y ∷ xs) x = let r = total_push w xs x in omega arith

module _ {I : Type 0} (eq : I → I → Bool) (apart : TellsApart eq) (along : I → List I) (zs : List I) (once : (j k : ℕ) (x : I) → At zs j x → At zs k x → j ≡ k) where
  -- before these are given, and once c is too, its names come to no more than all names
  pub room_for : (before : List I) (c y : I) → ((j k : ℕ) (x : I) → At before j x → At before k x → j ≡ k) → ((b : I) → Contains before b → Contains zs b) → Contains zs c → (Contains before c → ⊥) → names_of eq along y before + times (eq y) (along c) ≤ names_of eq along y zs
  room_for before c y b_once within there none = weight_gap (λ c. times (eq y) (along c)) before zs c b_once within there none

  -- where those given name y as often as all do, y is ready
  pub ready_from_names : (before : List I) (y : I) → ((j k : ℕ) (x : I) → At before j x → At before k x → j ≡ k) → ((b : I) → Contains before b → Contains zs b) → names_of eq along y zs ≤ names_of eq along y before → IsReady along (Contains zs) before y
  ready_from_names before y b_once within l c s n = elim (is_in eq apart before c) [
    | inl g ↦ g
    | inr none ↦ (let gap = room_for before c y b_once within s none in let one = times_contains eq apart (along c) y n in absurd (omega arith))
  ]

  -- where y is ready, those given name it as often as all do
  pub names_from_ready : (before : List I) (y : I) → IsReady along (Contains zs) before y → names_of eq along y zs ≤ names_of eq along y before
  names_from_ready before y ready = weight_within (λ c. times (eq y) (along c)) zs before once (λ c s. go c s (times (eq y) (along c)) refl)
    where
      go : (c : I) → Contains zs c → (n : ℕ) → times (eq y) (along c) ≡ n → (times (eq y) (along c) ≡ 0) ⊎ Contains before c
      go c s zero e = inl e
      go c s (suc n) e = inr (ready c s (contains_times eq apart (along c) y (omega arith)))
