-- A walk in which each commit comes after all its children.
use Rattle.std.proofs.Common.{◌≡◌, ℕ, zero, suc, ◌+◌, ◌<◌, ◌≤◌, ◌⊎◌, inl, inr, List, [], ◌∷◌, ◌++◌, length, take, refl, sym, ◌∙◌, ap, subst, arith, Some, None, Option, Bool, true, false, cond}
use Rattle.std.specs.Prelude.{Contains, ℤ}
use Rattle.std.specs.List.{list_any}
use Rattle.std.proofs.lemmas.Option.{slice_get_within}
use Rattle.std.proofs.lemmas.List.Elements.{Contains-append_left, Contains-append_right, Contains-append_cases, Contains-push, Contains-push_cases}
use Rattle.gix_traverse_graph.specs.Order.{At, Before, IsChosen, IsReady, IsLastName, HasNoChild, Outranks, later_child, has_child, newer, given_later}
use Rattle.gix_traverse_graph.specs.Check.{last_name}
use Rattle.gix_traverse_topo.specs.Turns.{times, SameBag, Waits, Ranked, Fresh, IsLastAt, Rising}
use Rattle.gix_traverse_graph.proofs.Lists.{at_from_contains, contains_from_at, at_push, at_from_push, at_from_take}
use Rattle.gix_traverse_graph.proofs.Slow.{TellsApart, contains_from_any, any_from_contains}
use Rattle.gix_traverse_graph.proofs.Check.{last_name_is, no_child}
use Rattle.std.proofs.lemmas.List.{take-append-le}

pub at_append_cases : {I : Type 0} (xs ys : List I) (k : ℕ) (x : I) → At (xs ++ ys) k x → At xs k x ⊎ ((j : ℕ) × (k ≡ length xs + j) × At ys j x)
at_append_cases [] ys k x a = inr (k, omega arith, a)
at_append_cases (y ∷ xs) ys zero x a = inl a
at_append_cases (y ∷ xs) ys (suc k) x a = elim (at_append_cases xs ys k x a) [ inl h ↦ inl h | inr e ↦ inr (e.0, omega (arith, e.1), e.2) ]

pub take_whole : {I : Type 0} (xs : List I) → take (length xs) xs ≡ xs
take_whole [] = refl
take_whole (x ∷ xs) = ap (λ (zs : List _). x ∷ zs) (take_whole xs)

pub contains_take : {I : Type 0} (xs : List I) (k : ℕ) (x : I) → Contains (take k xs) x → Contains xs x
contains_take xs k x c = let (j, a) = at_from_contains (take k xs) x c in contains_from_at xs j x (at_from_take xs k j x a).1

pub times_append : {I : Type 0} (p : I → Bool) (xs ys : List I) → times p (xs ++ ys) ≡ times p xs + times p ys
times_append p [] ys = omega arith
times_append p (x ∷ xs) ys = let r = times_append p xs ys in omega arith

-- one that passes is counted
pub times_at : {I : Type 0} (p : I → Bool) (xs : List I) (k : ℕ) (x : I) → At xs k x → p x ≡ true → 1 ≤ times p xs
times_at p [] k x a e = let z : ⊥ = cc in absurd z
times_at p (z ∷ zs) zero x a e = let f : z ≡ x = cc in let g : p z ≡ true = ap p f ∙ e in rw g (omega arith)
times_at p (z ∷ zs) (suc k) x a e = let r = times_at p zs k x a e in omega arith

-- if one is counted, it is somewhere
pub at_times : {I : Type 0} (p : I → Bool) (xs : List I) → 1 ≤ times p xs → (k : ℕ) × (x : I) × At xs k x × (p x ≡ true)
at_times p [] l = absurd (omega arith)
at_times {I} p (z ∷ zs) l = go (p z) refl (λ m. at_times p zs m)
  where
    go : (b : Bool) → p z ≡ b → (1 ≤ times p zs → (k : ℕ) × (x : I) × At zs k x × (p x ≡ true)) → (k : ℕ) × (x : I) × At (z ∷ zs) k x × (p x ≡ true)
    go true e r = (0, z, refl, e)
    go false e r = let m : 1 ≤ cond false 1 0 + times p zs = rw e at l in let (k, x, a, f) = r (omega arith) in (suc k, x, a, f)

module _ {I : Type 0} (eq : I → I → Bool) (apart : TellsApart eq) where
  pub times_contains : (xs : List I) (x : I) → Contains xs x → 1 ≤ times (eq x) xs
  times_contains xs x c = let (k, a) = at_from_contains xs x c in times_at (eq x) xs k x a (apart.itself x)

  pub contains_times : (xs : List I) (x : I) → 1 ≤ times (eq x) xs → Contains xs x
  contains_times xs x l =
      let (k, y, a, e) = at_times (eq x) xs l in
      let same : x ≡ y = apart.same x y e in
      contains_from_at xs k x (subst (λ (z : I). At xs k z) (sym same) a)

  pub bag_contains : (xs ys : List I) (x : I) → SameBag eq xs ys → Contains xs x → Contains ys x
  bag_contains xs ys x bag c = let m = times_contains xs x c in let e = bag x in contains_times ys x (omega arith)

  -- whether it is in the list
  pub is_in : (xs : List I) (x : I) → Contains xs x ⊎ (Contains xs x → ⊥)
  is_in xs x = go (list_any (eq x) xs) refl
    where
      go : (b : Bool) → list_any (eq x) xs ≡ b → Contains xs x ⊎ (Contains xs x → ⊥)
      go true e = inl (contains_from_any eq apart xs x e)
      go false e = inr (λ c. let t = any_from_contains eq apart xs x c in let w : ⊥ = cc in w)

module _ {I : Type 0} (eq : I → I → Bool) (apart : TellsApart eq) (along : I → List I) (S : I → Type 0) where
  ready_more : (before : List I) (x y : I) → IsReady along S before y → IsReady along S (before ++ x ∷ []) y
  ready_more before x y r c s n = Contains-append_left before (x ∷ []) c (r c s n)

  -- one that was ready has no later child
  last_more : (before : List I) (x y : I) (p i : ℕ) → (Contains (along x) y → ⊥) → IsLastName along before y p i → IsLastName along (before ++ x ∷ []) y p i
  last_more before x y p i none l = record {
    named = let (c, a, n) = l.named in (c, at_push before x p c a, n);
    last = λ q h (c, a, n) b. elim (at_from_push before x q c a) [
      | inl g ↦ l.last q h (c, g, n) b
      | inr e ↦ none (contains_from_at (along x) h y (subst (λ (z : I). At (along z) h y) e.1 n))
    ];
  }

  childless_more : (before : List I) (x y : I) → (Contains (along x) y → ⊥) → HasNoChild along before y → HasNoChild along (before ++ x ∷ []) y
  childless_more before x y none h c b n = elim (Contains-push_cases before x c b) [ inl g ↦ h c g n | inr e ↦ none (subst (λ (z : I). Contains (along z) y) (sym e) n) ]

  -- the name that the commit just given gives is the last
  last_new : (before : List I) (x y : I) (i : ℕ) → IsLastAt (along x) y i → IsLastName along (before ++ x ∷ []) y (length before) i
  last_new before x y i l = record {
    named = (x, at_end before x, l.at);
    last = λ q h (c, a, n) b. past q h c a n b;
  }
    where
      at_end : (zs : List I) (w : I) → At (zs ++ w ∷ []) (length zs) w
      at_end [] w = refl
      at_end (z ∷ zs) w = at_end zs w

      past : (q h : ℕ) (c : I) → At (before ++ x ∷ []) q c → At (along c) h y → Before (length before) i q h → ⊥
      past q h c a n b = elim (at_from_push before x q c a) [
        | inl g ↦ (let w = slice_get_within before q c g in elim b [ inl lt ↦ omega arith | inr e ↦ omega (arith, e.0) ])
        | inr e ↦ (let k = l.last h (subst (λ (z : I). At (along z) h y) e.1 n) in elim b [ inl lt ↦ omega (arith, e.0) | inr f ↦ omega (arith, f.1) ])
      ]

  module _ (Comes : List I → I → I → Type 0) (before waiting rest : List I) (x : I) (w : Waits eq along S Comes before waiting) (popped : SameBag eq waiting (x ∷ rest)) where
    pub top : S x × (Contains before x → ⊥) × IsReady along S before x
    top = w.ready x (let e = popped x in let f = apart.itself x in contains_times eq apart waiting x (let g : times (eq x) waiting ≡ cond true 1 0 + times (eq x) rest = rw f at e in omega arith))

    -- x is no child of one that was ready before it was given
    pub apart_from : (y : I) → IsReady along S before y → Contains (along x) y → ⊥
    apart_from y r n = top.1 (r x top.0 n)

    pub in_rest : (y : I) → Contains rest y → Contains waiting y
    in_rest y c = let e = popped y in let m = times_contains eq apart rest y c in contains_times eq apart waiting y (omega arith)

    pub not_top : Contains rest x → ⊥
    not_top c =
        let e = popped x in let f = apart.itself x in
        let g : times (eq x) waiting ≡ cond true 1 0 + times (eq x) rest = rw f at e in
        let m = times_contains eq apart rest x c in
        let o = w.once x in omega arith

    pub ready_rest : (y : I) → Contains rest y → S y × (Contains before y → ⊥) × IsReady along S before y
    ready_rest y c = w.ready y (in_rest y c)

    -- one that waited, and isn't x, still waits
    pub left : (y : I) → Contains waiting y → (y ≡ x → ⊥) → Contains rest y
    left y c d = go (eq y x) refl
      where
        go : (b : Bool) → eq y x ≡ b → Contains rest y
        go true e = absurd (d (apart.same y x e))
        go false e =
            let f = popped y in
            let g : times (eq y) waiting ≡ cond false 1 0 + times (eq y) rest = rw e at f in
            let m = times_contains eq apart waiting y c in
            contains_times eq apart rest y (omega arith)

    pub child_inside : (y : I) → Contains before y → Contains (along x) y → ⊥
    child_inside y b n = let (k, a) = at_from_contains before y b in top.1 (contains_take before k x (w.fit k y a x top.0 n))

    now : take (length before) (before ++ x ∷ []) ≡ before
    now = take-append-le (length before) before (x ∷ []) (omega arith) ∙ take_whole before

    module _ (fresh waiting' : List I) (fr : Fresh eq along S before x fresh) (pushed : SameBag eq waiting' (rest ++ fresh)) (first : (y : I) → Contains rest y → Comes before x y) where
      fresh_new : (y : I) → Contains fresh y → Contains (before ++ x ∷ []) y → ⊥
      fresh_new y c b =
          let (s, n, r) = fr.some y c in
          elim (Contains-push_cases before x y b) [ inl g ↦ child_inside y g n | inr e ↦ apart_from y (subst (λ (z : I). IsReady along S before z) e top.2) n ]

      ready_step : (y : I) → Contains waiting' y → S y × (Contains (before ++ x ∷ []) y → ⊥) × IsReady along S (before ++ x ∷ []) y
      ready_step y c = elim (Contains-append_cases rest fresh y (bag_contains eq apart waiting' (rest ++ fresh) y pushed c)) [
        | inl g ↦ (let (s, n, r) = ready_rest y g in (s, (λ b. elim (Contains-push_cases before x y b) [ inl h ↦ n h | inr e ↦ not_top (subst (λ (z : I). Contains rest z) (sym e) g) ]), ready_more before x y r))
        | inr f ↦ (let (s, n, r) = fr.some y f in (s, fresh_new y f, r))
      ]

      all_step : (y : I) → S y → (Contains (before ++ x ∷ []) y → ⊥) → IsReady along S (before ++ x ∷ []) y → Contains waiting' y
      all_step y s n r = back (elim (is_in eq apart (along x) y) [
        | inl c ↦ Contains-append_right rest fresh y (fr.every y s c r)
        | inr out ↦ Contains-append_left rest fresh y (left y (w.all y s (λ b. n (Contains-append_left before (x ∷ []) y b)) (was out)) (λ e. n (subst (λ (z : I). Contains (before ++ x ∷ []) z) (sym e) (Contains-push before x))))
      ])
        where
          back : Contains (rest ++ fresh) y → Contains waiting' y
          back c = bag_contains eq apart (rest ++ fresh) waiting' y (λ z. sym (pushed z)) c

          was : (Contains (along x) y → ⊥) → IsReady along S before y
          was out c sc m = elim (Contains-push_cases before x c (r c sc m)) [ inl g ↦ g | inr f ↦ absurd (out (subst (λ (z : I). Contains (along z) y) (sym f) m)) ]

      once_step : (y : I) → times (eq y) waiting' ≤ 1
      once_step y =
          let e = pushed y in
          let f = times_append (eq y) rest fresh in
          let g = popped y in
          let o = w.once y in
          let h = fr.once y in
          elim (is_in eq apart fresh y) [
            | inl c ↦ elim (is_in eq apart rest y) [
              | inl d ↦ absurd (apart_from y (ready_rest y d).2 (fr.some y c).1)
              | inr out ↦ (let none : times (eq y) rest ≡ 0 = zero_times rest y out in omega arith)
            ]
            | inr out ↦ (let none : times (eq y) fresh ≡ 0 = zero_times fresh y out in omega arith)
          ]
        where
          zero_times : (zs : List I) (z : I) → (Contains zs z → ⊥) → times (eq z) zs ≡ 0
          zero_times zs z out = go (times (eq z) zs) refl
            where
              go : (n : ℕ) → times (eq z) zs ≡ n → times (eq z) zs ≡ 0
              go zero e = e
              go (suc n) e = absurd (out (contains_times eq apart zs z (omega arith)))

      fit_step : (k : ℕ) (y : I) → At (before ++ x ∷ []) k y → IsReady along S (take k (before ++ x ∷ [])) y
      fit_step k y a = elim (at_from_push before x k y a) [
        | inl g ↦ (let l = slice_get_within before k y g in subst (λ (zs : List I). IsReady along S zs y) (sym (take-append-le k before (x ∷ []) (omega arith))) (w.fit k y g))
        | inr e ↦ (let e' = sym (ap (λ (m : ℕ). take m (before ++ x ∷ [])) e.0 ∙ now) in subst (λ (zs : List I). IsReady along S zs y) e' (subst (λ (z : I). IsReady along S before z) (sym e.1) top.2))
      ]

      chosen_step : (k : ℕ) (y z : I) → At (before ++ x ∷ []) k y → S z → (Contains (take k (before ++ x ∷ [])) z → ⊥) → IsReady along S (take k (before ++ x ∷ [])) z → (z ≡ y → ⊥) → Comes (take k (before ++ x ∷ [])) y z
      chosen_step k y z a s n r d = elim (at_from_push before x k y a) [
        | inl g ↦ (
            let l = slice_get_within before k y g in
            let e = take-append-le k before (x ∷ []) (omega arith) in
            subst (λ (zs : List I). Comes zs y z) (sym e) (w.chosen k y z g s (λ c. n (subst (λ (zs : List I). Contains zs z) (sym e) c)) (subst (λ (zs : List I). IsReady along S zs z) e r) d))
        | inr f ↦ (
            let e = ap (λ (m : ℕ). take m (before ++ x ∷ [])) f.0 ∙ now in
            let there = w.all z s (λ c. n (subst (λ (zs : List I). Contains zs z) (sym e) c)) (subst (λ (zs : List I). IsReady along S zs z) e r) in
            subst (λ (zs : List I). Comes zs y z) (sym e) (subst (λ (v : I). Comes before v z) (sym f.1) (first z (left z there (λ g. d (g ∙ sym f.1))))))
      ]

      -- the one whose turn it is is given, and its parents that are ready now wait too
      pub waits_step : Waits eq along S Comes (before ++ x ∷ []) waiting'
      waits_step = record {
        inside = λ y c. elim (Contains-push_cases before x y c) [ inl g ↦ w.inside y g | inr e ↦ subst S e top.0 ];
        ready = ready_step;
        all = all_step;
        once = once_step;
        before_once = λ j k y a b. elim (at_from_push before x j y a) [
          | inl g ↦ elim (at_from_push before x k y b) [ inl h ↦ w.before_once j k y g h | inr e ↦ absurd (top.1 (subst (λ (z : I). Contains before z) e.1 (contains_from_at before j y g))) ]
          | inr d ↦ elim (at_from_push before x k y b) [ inl h ↦ absurd (top.1 (subst (λ (z : I). Contains before z) d.1 (contains_from_at before k y h))) | inr e ↦ d.0 ∙ sym e.0 ]
        ];
        fit = fit_step;
        chosen = chosen_step;
      }

    -- ---- in topological order: the ranks of those that wait
    module _ (tips : List I) (time : I → ℤ) where
      outranks_more : (y z : I) → (Contains (along x) y → ⊥) → (Contains (along x) z → ⊥) → Outranks along tips time before y z → Outranks along tips time (before ++ x ∷ []) y z
      outranks_more y z ny nz (later_child {p = p} {i = i} {q = q} {j = j} a b l) = later_child (last_more before x y p i ny a) (last_more before x z q j nz b) l
      outranks_more y z ny nz (has_child {p = p} {i = i} a b) = has_child (last_more before x y p i ny a) (childless_more before x z nz b)
      outranks_more y z ny nz (newer a b t) = newer (childless_more before x y ny a) (childless_more before x z nz b) t
      outranks_more y z ny nz (given_later a b t c d l) = given_later (childless_more before x y ny a) (childless_more before x z nz b) t c d l

      -- a commit that became ready comes before those that waited
      over_rest : (y z : I) (i : ℕ) → IsLastAt (along x) y i → IsReady along S before z → Outranks along tips time (before ++ x ∷ []) y z
      over_rest y z i l r = go (last_name eq along z before) refl
        where
          go : (o : Option (ℕ × ℕ)) → last_name eq along z before ≡ o → Outranks along tips time (before ++ x ∷ []) y z
          go (Some m) e =
              let old = last_name_is eq apart along z before m e in
              let (d, a, n) = old.named in
              let k = slice_get_within before m.0 d a in
              later_child (last_new before x y i l) (last_more before x z m.0 m.1 (apart_from z r) old) (inl k)
          go None e = has_child (last_new before x y i l) (childless_more before x z (apart_from z r) (no_child eq apart along z before e))

      pub ranked_step : (fresh : List I) → ((y : I) → Contains fresh y → Contains (along x) y) → Rising (along x) fresh → Ranked along tips time before (rest ++ x ∷ []) → Ranked along tips time (before ++ x ∷ []) (rest ++ fresh)
      ranked_step fresh some up old = record { over = over }
        where
          over : (k l : ℕ) (y z : I) → k < l → At (rest ++ fresh) k y → At (rest ++ fresh) l z → Outranks along tips time (before ++ x ∷ []) z y
          over k l y z lt a b = elim (at_append_cases rest fresh l z b) [
            | inl g ↦ elim (at_append_cases rest fresh k y a) [
              | inl f ↦ (let ry = (ready_rest y (contains_from_at rest k y f)).2 in let rz = (ready_rest z (contains_from_at rest l z g)).2 in
                  outranks_more z y (apart_from z rz) (apart_from y ry) (old.over k l y z lt (at_push rest x k y f) (at_push rest x l z g)))
              | inr f ↦ absurd (let m = slice_get_within rest l z g in omega (arith, f.1))
            ]
            | inr g ↦ elim (at_append_cases rest fresh k y a) [
              | inl f ↦ (let (i, last) = up.placed z (contains_from_at fresh g.0 z g.2) in over_rest z y i last (ready_rest y (contains_from_at rest k y f)).2)
              | inr f ↦ (let (i, j, m, n, o) = up.rising f.0 g.0 y z (omega (arith, f.1, g.1)) f.2 g.2 in later_child (last_new before x z j n) (last_new before x y i m) (inr (refl, o)))
            ]
          ]

  -- ---- the end
  -- what is given then is the whole list, where all that is in the set is given
  pub waits_end : (Comes : List I → I → I → Type 0) (before waiting : List I) → Waits eq along S Comes before waiting → ((x : I) → S x → Contains before x) → IsChosen S (IsReady along S) Comes before
  waits_end Comes before waiting w all = record {
    list = record { each = λ x. (w.inside x, all x); once = w.before_once };
    fit = w.fit;
    chosen = λ k l x y lt a b r. w.chosen k x y a (w.inside y (contains_from_at before l y b))
        (λ c. let (j, d) = at_from_contains (take k before) y c in let e = at_from_take before k j y d in let f = w.before_once j l y e.1 b in absurd (omega (arith, e.0)))
        r (λ e. let f = w.before_once k l x a (subst (λ (z : I). At before l z) e b) in omega arith);
  }
