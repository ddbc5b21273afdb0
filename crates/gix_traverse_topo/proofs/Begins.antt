-- Where a walk begins: those that wait at first.
use Rattle.std.proofs.Common.{◌≡◌, ℕ, zero, suc, ◌<◌, ◌≤◌, ◌⊎◌, inl, inr, List, [], refl, arith, Bool}
use Rattle.std.specs.Prelude.{Contains, ℤ, ◌<ℤ◌}
use Rattle.gix_traverse_graph.specs.Order.{At, IsBreadthFirst, IsKey, IsReady, IsFirstAt, HasNoChild, Outranks, newer, given_later}
use Rattle.gix_traverse_topo.specs.Turns.{times, names_of, Waits}
use Rattle.gix_traverse_graph.proofs.Lists.{at_from_contains, contains_from_at, none_at_nil}
use Rattle.gix_traverse_graph.proofs.Slow.{TellsApart}
use Rattle.gix_traverse_topo.proofs.Degree.{ready_from_names, names_from_ready}

module _ {I : Type 0} (eq : I → I → Bool) (apart : TellsApart eq) (along : I → List I) (zs : List I) (once : (j k : ℕ) (x : I) → At zs j x → At zs k x → j ≡ k) where
  none_in : (x : I) → Contains [] x → ⊥
  none_in x c = let (k, a) = at_from_contains [] x c in none_at_nil k x a

  no_two : (j k : ℕ) (x : I) → At [] j x → At [] k x → j ≡ k
  no_two j k x a b = absurd (none_at_nil j x a)

  -- those that none names wait
  pub waits_first : (Comes : List I → I → I → Type 0) (waiting : List I) → ((x : I) → Contains waiting x → Contains zs x × (names_of eq along x zs ≡ 0)) → ((x : I) → Contains zs x → names_of eq along x zs ≡ 0 → Contains waiting x) → ((x : I) → times (eq x) waiting ≤ 1) → Waits eq along (Contains zs) Comes [] waiting
  waits_first Comes waiting some every single = record {
    inside = λ x c. absurd (none_in x c);
    ready = λ x c. let (s, e) = some x c in (s, none_in x, ready_from_names eq apart along zs once [] x no_two (λ b m. absurd (none_in b m)) (omega arith));
    all = λ x s n r. let l = names_from_ready eq apart along zs once [] x r in every x s (omega arith);
    once = single;
    before_once = no_two;
    fit = λ k x a. absurd (none_at_nil k x a);
    chosen = λ k x y a s n r d. absurd (none_at_nil k x a);
  }

  module _ (tips : List I) (S : I → Type 0) (breadth : IsBreadthFirst along tips S zs) where
    -- one that none names is a tip, by its key
    first_at : (k : ℕ) (x : I) → At zs k x → IsReady along (Contains zs) [] x → (p i : ℕ) → IsKey along tips zs x p i → (p ≡ 0) × IsFirstAt tips x i
    first_at k x a ready zero i key = (
      refl,
      record {
        at = key.named;
        first = λ j b. let f = key.first 0 j b in before_not i j (λ lt. f (inr (refl, lt)));
      },
    )
      where
        before_not : (i j : ℕ) → (j < i → ⊥) → i ≤ j
        before_not i j f = omega (arith, f)
    first_at k x a ready (suc p) i key =
        let (c, b, n) = key.named in
        absurd (none_in c (ready c (contains_from_at zs p c b) (contains_from_at (along c) i x n)))

    -- of two tips that none names the one met later was given later
    pub met_later : (k l : ℕ) (x y : I) → k < l → At zs k x → At zs l y → IsReady along (Contains zs) [] x → IsReady along (Contains zs) [] y → (i : ℕ) × (j : ℕ) × IsFirstAt tips x i × IsFirstAt tips y j × (i < j)
    met_later k l x y lt a b rx ry =
        let (p, i, kx) = breadth.keyed k x a in
        let (q, j, ky) = breadth.keyed l y b in
        let (ep, fx) = first_at k x a rx p i kx in
        let (eq', fy) = first_at l y b ry q j ky in
        let up = breadth.ascending k l x y p i q j lt a b kx ky in
        (i, j, fx, fy, elim up [ inl m ↦ absurd (omega arith) | inr m ↦ m.1 ])

    childless : (x : I) → HasNoChild along [] x
    childless x c m n = none_in c m

    -- of two that wait at first the newer comes first, and of one time the one met later
    pub first_outranks : (time : I → ℤ) (x y : I) (k l : ℕ) → At zs k x → At zs l y → IsReady along (Contains zs) [] x → IsReady along (Contains zs) [] y → (time x <ℤ time y) ⊎ ((time x ≡ time y) × (k < l)) → Outranks along tips time [] y x
    first_outranks time x y k l a b rx ry (inl lt) = newer (childless y) (childless x) lt
    first_outranks time x y k l a b rx ry (inr (e, lt)) =
        let (i, j, fx, fy, m) = met_later k l x y lt a b rx ry in
        given_later (childless y) (childless x) e fy fx m
