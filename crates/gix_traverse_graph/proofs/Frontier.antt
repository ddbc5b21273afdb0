-- A walk that has read the names below a frontier, as a fact about the list so far.
use Rattle.std.proofs.Common.{◌≡◌, ℕ, zero, suc, ◌<◌, ◌≤◌, ◌⊎◌, inl, inr, List, [], ◌∷◌, ◌++◌, length, refl, sym, ◌∙◌, subst, arith}
use Rattle.std.specs.Prelude.{Contains}
use Rattle.std.proofs.lemmas.Option.{slice_get_within}
use Rattle.std.proofs.lemmas.List.Elements.{Contains-append_left, Contains-push}
use Rattle.std.proofs.Common.{length-append}
use Rattle.gix_traverse_graph.specs.Order.{At, Before, IsBreadthFirst, IsKey, Named}
use Rattle.gix_traverse_graph.specs.Commits.{Reached, tip, parent}
use Rattle.gix_traverse_graph.specs.Reading.{Read}
use Rattle.gix_traverse_graph.proofs.Lists.{at_one, at_from_contains, contains_from_at, at_push, at_from_push, three, not_before}

module _ {I : Type 0} (along : I → List I) (tips : List I) (keep : I → Type 0) where
  named_one : (xs : List I) (p i : ℕ) (x y : I) → Named along tips xs p i x → Named along tips xs p i y → x ≡ y
  named_one xs zero i x y a b = at_one tips i x y a b
  named_one xs (suc p) i x y (c, a, b) (d, e, f) =
      let same = at_one xs p c d a e in
      at_one (along c) i x y b (subst (λ (z : I). At (along z) i y) (sym same) f)

  key_one : (xs : List I) (x : I) (p i q j : ℕ) → IsKey along tips xs x p i → IsKey along tips xs x q j → (p ≡ q) × (i ≡ j)
  key_one xs x p i q j a b = elim (not_before p i q j (b.first p i a.named)) [ inl lt ↦ absurd (a.first q j b.named lt) | inr e ↦ e ]

  named_push : (xs : List I) (y : I) (p i : ℕ) (x : I) → Named along tips xs p i x → Named along tips (xs ++ y ∷ []) p i x
  named_push xs y zero i x n = n
  named_push xs y (suc p) i x (c, a, b) = (c, at_push xs y p c a, b)

  named_from_push : (xs : List I) (y : I) (p i : ℕ) (x : I) → p ≤ length xs → Named along tips (xs ++ y ∷ []) p i x → Named along tips xs p i x
  named_from_push xs y zero i x l n = n
  named_from_push xs y (suc p) i x l (c, a, b) = (c, elim (at_from_push xs y p c a) [ inl h ↦ h | inr e ↦ absurd (omega (arith, e.0)) ], b)

  key_push : (xs : List I) (y x : I) (p i : ℕ) → p ≤ length xs → IsKey along tips xs x p i → IsKey along tips (xs ++ y ∷ []) x p i
  key_push xs y x p i l key = record {
    named = named_push xs y p i x key.named;
    first = λ q j n before. key.first q j (named_from_push xs y q j x (smaller p i q j (length xs) l before) n) before;
  }
    where
      smaller : (p i q j n : ℕ) → p ≤ n → Before q j p i → q ≤ n
      smaller p i q j n l b = grind arith

  -- nothing is read yet
  pub read_none : Read along tips keep [] 0 0
  read_none = record {
    within = omega arith;
    reached = λ k x a. let z : ⊥ = cc in absurd z;
    once = λ j k x a b. let z : ⊥ = cc in absurd z;
    keyed = λ k x a. let z : ⊥ = cc in absurd z;
    ascending = λ k l x y a i b j lt ax ay kx ky. let z : ⊥ = cc in absurd z;
    closed = λ q j x n before. elim before [ inl lt ↦ absurd (omega arith) | inr e ↦ absurd (omega (arith, e.1)) ];
  }

  -- the name at the frontier gives nothing new
  pub read_skip : (xs : List I) (p m : ℕ) (y : I) → Read along tips keep xs p m → Named along tips xs p m y → (keep y → Contains xs y) → Read along tips keep xs p (suc m)
  read_skip xs p m y r named known = record {
    within = r.within;
    reached = r.reached;
    once = r.once;
    keyed = λ k x a. let (q, j, key, before) = r.keyed k x a in (q, j, key, step q j before);
    ascending = r.ascending;
    closed = λ q j x n before k. elim (last q j before) [
      | inl earlier ↦ r.closed q j x n earlier k
      | inr e ↦ (let same = named_one xs p m x y (subst (λ (a : ℕ). Named along tips xs p a x) e.1 (subst (λ (a : ℕ). Named along tips xs a j x) e.0 n)) named in
          subst (λ (z : I). Contains xs z) (sym same) (known (subst keep same k)))
    ];
  }
    where
      step : (q j : ℕ) → Before q j p m → Before q j p (suc m)
      step q j b = grind arith

      last : (q j : ℕ) → Before q j p (suc m) → Before q j p m ⊎ ((q ≡ p) × (j ≡ m))
      last q j b = grind arith

  -- the name at the frontier gives a new commit
  pub read_push : (xs : List I) (p m : ℕ) (y : I) → Read along tips keep xs p m → Named along tips xs p m y → keep y → (Contains xs y → ⊥) → Read along tips keep (xs ++ y ∷ []) p (suc m)
  read_push xs p m y r named kept fresh = record {
    within = omega (arith, length-append xs (y ∷ []));
    reached = reached;
    once = once;
    keyed = keyed;
    ascending = ascending;
    closed = closed;
  }
    where
      ys : List I
      ys = xs ++ y ∷ []

      step : (q j : ℕ) → Before q j p m → Before q j p (suc m)
      step q j b = grind arith

      last : (q j : ℕ) → Before q j p (suc m) → Before q j p m ⊎ ((q ≡ p) × (j ≡ m))
      last q j b = grind arith

      lower : (q j : ℕ) → Before q j p m → q ≤ length xs
      lower q j b = let w = r.within in grind arith

      lowers : (q j : ℕ) → Before q j p (suc m) → q ≤ length xs
      lowers q j b = let w = r.within in grind arith

      from : (p : ℕ) → Named along tips xs p m y → Reached along keep tips y
      from zero n = tip (contains_from_at tips m y n) kept
      from (suc q) (c, a, b) = parent (r.reached q c a) (contains_from_at (along c) m y b) kept

      reached : (k : ℕ) (x : I) → At (xs ++ y ∷ []) k x → Reached along keep tips x
      reached k x a = elim (at_from_push xs y k x a) [
        | inl h ↦ r.reached k x h
        | inr e ↦ subst (λ (z : I). Reached along keep tips z) (sym e.1) (from p named)
      ]

      no : (k : ℕ) (x : I) → At xs k x → x ≡ y → ⊥
      no k x a e = fresh (contains_from_at xs k y (subst (λ (z : I). At xs k z) e a))

      once : (j k : ℕ) (x : I) → At (xs ++ y ∷ []) j x → At (xs ++ y ∷ []) k x → j ≡ k
      once j k x a b = elim (at_from_push xs y j x a) [
        | inl h ↦ elim (at_from_push xs y k x b) [ inl g ↦ r.once j k x h g | inr e ↦ absurd (no j x h e.1) ]
        | inr d ↦ elim (at_from_push xs y k x b) [ inl g ↦ absurd (no k x g d.1) | inr e ↦ d.0 ∙ sym e.0 ]
      ]

      key_new : IsKey along tips (xs ++ y ∷ []) y p m
      key_new = record {
        named = named_push xs y p m y named;
        first = λ q j n before. fresh (r.closed q j y (named_from_push xs y q j y (lower q j before) n) before kept);
      }

      key_at : (k : ℕ) (x : I) → At xs k x → (q : ℕ) × (j : ℕ) × IsKey along tips (xs ++ y ∷ []) x q j × Before q j p m
      key_at k x a = let (q, j, key, before) = r.keyed k x a in (q, j, key_push xs y x q j (lower q j before) key, before)

      keyed : (k : ℕ) (x : I) → At (xs ++ y ∷ []) k x → (q : ℕ) × (j : ℕ) × IsKey along tips (xs ++ y ∷ []) x q j × Before q j p (suc m)
      keyed k x a = elim (at_from_push xs y k x a) [
        | inl h ↦ (let (q, j, key, before) = key_at k x h in (q, j, key, step q j before))
        | inr e ↦ (p, m, subst (λ (z : I). IsKey along tips (xs ++ y ∷ []) z p m) (sym e.1) key_new, inr (refl, omega arith))
      ]

      old : (k l : ℕ) (x z : I) (a i b j : ℕ) → k < l → At xs k x → At xs l z → IsKey along tips (xs ++ y ∷ []) x a i → IsKey along tips (xs ++ y ∷ []) z b j → Before a i b j
      old k l x z a i b j lt ax az kx kz =
          let (a', i', kx', bx) = r.keyed k x ax in
          let (b', j', kz', bz) = r.keyed l z az in
          let up = r.ascending k l x z a' i' b' j' lt ax az kx' kz' in
          let ex = key_one (xs ++ y ∷ []) x a i a' i' kx (key_push xs y x a' i' (lower a' i' bx) kx') in
          let ez = key_one (xs ++ y ∷ []) z b j b' j' kz (key_push xs y z b' j' (lower b' j' bz) kz') in
          along_path a i b j a' i' b' j' ex ez up
        where
          along_path : (a i b j a' i' b' j' : ℕ) → ((a ≡ a') × (i ≡ i')) → ((b ≡ b') × (j ≡ j')) → Before a' i' b' j' → Before a i b j
          along_path a i b j a' i' b' j' e f u = grind arith

      new : (k : ℕ) (x : I) (a i b j : ℕ) → At xs k x → IsKey along tips (xs ++ y ∷ []) x a i → IsKey along tips (xs ++ y ∷ []) y b j → Before a i b j
      new k x a i b j ax kx ky =
          let (a', i', kx', bx) = key_at k x ax in
          let ex = key_one (xs ++ y ∷ []) x a i a' i' kx kx' in
          let ey = key_one (xs ++ y ∷ []) y b j p m ky key_new in
          along_path a i b j a' i' ex ey bx
        where
          along_path : (a i b j a' i' : ℕ) → ((a ≡ a') × (i ≡ i')) → ((b ≡ p) × (j ≡ m)) → Before a' i' p m → Before a i b j
          along_path a i b j a' i' e f u = grind arith

      ascending : (k l : ℕ) (x z : I) (a i b j : ℕ) → k < l → At (xs ++ y ∷ []) k x → At (xs ++ y ∷ []) l z → IsKey along tips (xs ++ y ∷ []) x a i → IsKey along tips (xs ++ y ∷ []) z b j → Before a i b j
      ascending k l x z a i b j lt ax az kx kz = elim (at_from_push xs y k x ax) [
        | inl h ↦ elim (at_from_push xs y l z az) [
          | inl g ↦ old k l x z a i b j lt h g kx kz
          | inr e ↦ new k x a i b j h kx (subst (λ (w : I). IsKey along tips (xs ++ y ∷ []) w b j) e.1 kz)
        ]
        | inr d ↦ elim (at_from_push xs y l z az) [
          | inl g ↦ absurd (let w = slice_get_within xs l z g in omega (arith, d.0))
          | inr e ↦ absurd (omega (arith, d.0, e.0))
        ]
      ]

      closed : (q j : ℕ) (x : I) → Named along tips (xs ++ y ∷ []) q j x → Before q j p (suc m) → keep x → Contains (xs ++ y ∷ []) x
      closed q j x n before k = elim (last q j before) [
        | inl earlier ↦ Contains-append_left xs (y ∷ []) x (r.closed q j x (named_from_push xs y q j x (lower q j earlier) n) earlier k)
        | inr e ↦ (let same = named_one (xs ++ y ∷ []) p m x y (subst (λ (a : ℕ). Named along tips (xs ++ y ∷ []) p a x) e.1 (subst (λ (a : ℕ). Named along tips (xs ++ y ∷ []) a j x) e.0 n)) (named_push xs y p m y named) in
            subst (λ (z : I). Contains (xs ++ y ∷ []) z) (sym same) (Contains-push xs y))
      ]

  -- the names at place p are read, and there is a next place
  pub read_next : (xs : List I) (p m : ℕ) → Read along tips keep xs p m → ((j : ℕ) (x : I) → Named along tips xs p j x → j < m) → suc p ≤ length xs → Read along tips keep xs (suc p) 0
  read_next xs p m r all room = record {
    within = room;
    reached = r.reached;
    once = r.once;
    keyed = λ k x a. let (q, j, key, before) = r.keyed k x a in (q, j, key, step q j before);
    ascending = r.ascending;
    closed = λ q j x n before k. r.closed q j x n (back q j before (λ e. all j x (subst (λ (a : ℕ). Named along tips xs a j x) e n))) k;
  }
    where
      step : (q j : ℕ) → Before q j p m → Before q j (suc p) 0
      step q j b = grind arith

      back : (q j : ℕ) → Before q j (suc p) 0 → (q ≡ p → j < m) → Before q j p m
      back q j b h = elim b [
        | inl lt ↦ elim (three q p) [ inl l ↦ inl l | inr (inl e) ↦ inr (e, h e) | inr (inr g) ↦ absurd (omega arith) ]
        | inr e ↦ absurd (omega (arith, e.1))
      ]

  -- all names are read
  pub read_all : (xs : List I) (m : ℕ) → Read along tips keep xs (length xs) m → ((j : ℕ) (x : I) → Named along tips xs (length xs) j x → j < m) → (S : I → Type 0) → ((x : I) → S x → Reached along keep tips x) → ((x : I) → Reached along keep tips x → S x) → IsBreadthFirst along tips S xs
  read_all xs m r all S to from = record {
    list = record {
      each = λ x. (
        (λ c. let (k, a) = at_from_contains xs x c in from x (r.reached k x a)),
        (λ s. holds (to x s)),
      );
      once = r.once;
    };
    keyed = λ k x a. let (q, j, key, before) = r.keyed k x a in (q, j, key);
    ascending = r.ascending;
  }
    where
      row : (q j : ℕ) (x : I) → Named along tips xs q j x → q ≤ length xs → Before q j (length xs) m
      row q j x n l = elim (three q (length xs)) [
        | inl lt ↦ inl lt
        | inr (inl e) ↦ inr (e, all j x (subst (λ (a : ℕ). Named along tips xs a j x) e n))
        | inr (inr g) ↦ absurd (omega arith)
      ]

      holds : {x : I} → Reached along keep tips x → Contains xs x
      holds (tip {x = x} t k) = let (j, a) = at_from_contains tips x t in r.closed 0 j x a (row 0 j x a (omega arith)) k
      holds (parent {x = c} {y = y} s n k) =
          let (place, a) = at_from_contains xs c (holds s) in
          let (j, b) = at_from_contains (along c) y n in
          let within = slice_get_within xs place c a in
          r.closed (suc place) j y (c, a, b) (row (suc place) j y (c, a, b) within) k
