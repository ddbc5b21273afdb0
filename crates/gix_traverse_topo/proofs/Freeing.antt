-- The names of a row are counted off one after another.
use Rattle.std.proofs.Common.{◌≡◌, ℕ, zero, suc, ◌+◌, ◌<◌, ◌≤◌, ◌⊎◌, inl, inr, List, [], ◌∷◌, ◌++◌, length, take, refl, sym, ◌∙◌, ap, subst, arith, Bool, true, false, cond}
use Rattle.std.specs.Prelude.{Contains}
use Rattle.std.proofs.lemmas.Option.{slice_get_within}
use Rattle.std.proofs.lemmas.List.Elements.{Contains-append_left, Contains-append_right, Contains-push_cases}
use Rattle.gix_traverse_graph.specs.Order.{At, IsReady}
use Rattle.gix_traverse_topo.specs.Turns.{times, names_of, named_so_far, Freed, Fresh, IsLastAt, Rising}
use Rattle.gix_traverse_graph.proofs.Lists.{at_from_contains, contains_from_at, at_take, at_from_take, at_from_push, at_push, none_at_nil}
use Rattle.gix_traverse_graph.proofs.Slow.{TellsApart}
use Rattle.gix_traverse_topo.proofs.Turns.{times_append, contains_times, is_in, contains_take}
use Rattle.gix_traverse_topo.proofs.Degree.{room_for, ready_from_names, names_from_ready, total_push}
use Rattle.gix_traverse_commit_known.proofs.Simply.{take_push}

times_take : {I : Type 0} (p : I → Bool) (xs : List I) (m : ℕ) → times p (take m xs) ≤ times p xs
times_take p [] zero = omega arith
times_take p [] (suc m) = omega arith
times_take p (x ∷ xs) zero = omega arith
times_take p (x ∷ xs) (suc m) = let r = times_take p xs m in omega arith

module _ {I : Type 0} (eq : I → I → Bool) (apart : TellsApart eq) (along : I → List I) (zs : List I) (once : (j k : ℕ) (x : I) → At zs j x → At zs k x → j ≡ k) (before row : List I) where
  module _ (m : ℕ) (y : I) (here : At row m y) where
    one_more : (z : I) → named_so_far eq along before row (m + 1) z ≡ named_so_far eq along before row m z + cond (eq z y) 1 0
    one_more z =
        let e : times (eq z) (take (m + 1) row) ≡ times (eq z) (take m row) + times (eq z) (y ∷ []) = ap (times (eq z)) (take_push row m y here) ∙ times_append (eq z) (take m row) (y ∷ []) in
        omega arith

    grows : (z : I) → named_so_far eq along before row m z ≤ named_so_far eq along before row (m + 1) z
    grows z = let e = one_more z in omega arith

    pub counted : named_so_far eq along before row (m + 1) y ≡ named_so_far eq along before row m y + 1
    counted = let e = one_more y in let f = apart.itself y in let g : named_so_far eq along before row (m + 1) y ≡ named_so_far eq along before row m y + cond true 1 0 = rw f at e in g

    pub not_counted : (z : I) → (z ≡ y → ⊥) → named_so_far eq along before row (m + 1) z ≡ named_so_far eq along before row m z
    not_counted z d = go (eq z y) refl
      where
        go : (b : Bool) → eq z y ≡ b → named_so_far eq along before row (m + 1) z ≡ named_so_far eq along before row m z
        go true e = absurd (d (apart.same z y e))
        go false e = let f = one_more z in let g : named_so_far eq along before row (m + 1) z ≡ named_so_far eq along before row m z + cond false 1 0 = rw e at f in omega arith

    front : (z : I) → Contains (take m row) z → Contains (take (m + 1) row) z
    front z c = subst (λ (ys : List I). Contains ys z) (sym (take_push row m y here)) (Contains-append_left (take m row) (y ∷ []) z c)

    front_cases : (z : I) → Contains (take (m + 1) row) z → Contains (take m row) z ⊎ (y ≡ z)
    front_cases z c = Contains-push_cases (take m row) y z (subst (λ (ys : List I). Contains ys z) (take_push row m y here) c)

    last_step : (z : I) (i : ℕ) → (z ≡ y → ⊥) → IsLastAt (take m row) z i → IsLastAt (take (m + 1) row) z i
    last_step z i d l = subst (λ (ys : List I). IsLastAt ys z i) (sym (take_push row m y here)) (record {
      at = at_push (take m row) y i z l.at;
      last = λ j a. elim (at_from_push (take m row) y j z a) [ inl b ↦ l.last j b | inr e ↦ absurd (d e.1) ];
    })

    last_here : IsLastAt (take (m + 1) row) y m
    last_here = record {
      at = at_take row (m + 1) m y (omega arith) here;
      last = λ j a. let (lt, b) = at_from_take row (m + 1) j y a in omega arith;
    }

    rising_kept : (fresh : List I) → ((z : I) → Contains fresh z → z ≡ y → ⊥) → Rising (take m row) fresh → Rising (take (m + 1) row) fresh
    rising_kept fresh other r = record {
      rising = λ k l z v lt a b. let (i, j, f, g, up) = r.rising k l z v lt a b in
          (i, j, last_step z i (other z (contains_from_at fresh k z a)) f, last_step v j (other v (contains_from_at fresh l v b)) g, up);
      placed = λ z c. let (i, l) = r.placed z c in (i, last_step z i (other z c) l);
    }

    module _ (fresh : List I) (f : Freed eq along zs before row m fresh) where
      -- one that is free already isn't named again
      pub not_fresh : (Contains zs y → named_so_far eq along before row m y + 1 ≤ names_of eq along y zs) → (z : I) → Contains fresh z → z ≡ y → ⊥
      not_fresh room z c e =
          let (s, t, l) = f.some z c in
          let k = room (subst (λ (v : I). Contains zs v) e s) in
          let l' : names_of eq along y zs ≤ named_so_far eq along before row m y = subst (λ (v : I). names_of eq along v zs ≤ named_so_far eq along before row m v) e l in
          omega arith

      kept_some : (z : I) → Contains fresh z → Contains zs z × Contains (take (m + 1) row) z × (names_of eq along z zs ≤ named_so_far eq along before row (m + 1) z)
      kept_some z c = let (s, t, l) = f.some z c in let g = grows z in (s, front z t, omega arith)

      -- one that isn't of the set, or has further names, changes nothing
      pub freed_keep : (Contains zs y → named_so_far eq along before row m y + 1 ≤ names_of eq along y zs) → (Contains zs y → names_of eq along y zs ≤ named_so_far eq along before row (m + 1) y → ⊥) → Freed eq along zs before row (m + 1) fresh
      freed_keep room more = record {
        some = kept_some;
        every = λ z s t l. go z s l (is_in eq apart fresh z) t;
        once = f.once;
        rising = rising_kept fresh (not_fresh room) f.rising;
      }
        where
          go : (z : I) → Contains zs z → names_of eq along z zs ≤ named_so_far eq along before row (m + 1) z → Contains fresh z ⊎ (Contains fresh z → ⊥) → Contains (take (m + 1) row) z → Contains fresh z
          go z s l (inl c) t = c
          go z s l (inr none) t = absurd (none (f.every z s (elim (front_cases z t) [ inl c ↦ c | inr e ↦ absurd (differs e) ]) (let e = not_counted z (λ g. differs (sym g)) in omega arith)))
            where
              differs : y ≡ z → ⊥
              differs e = more (subst (λ (v : I). Contains zs v) (sym e) s) (subst (λ (v : I). names_of eq along v zs ≤ named_so_far eq along before row (m + 1) v) (sym e) l)

      -- one whose last name this was is free
      pub freed_push : Contains zs y → named_so_far eq along before row m y + 1 ≡ names_of eq along y zs → Freed eq along zs before row (m + 1) (fresh ++ y ∷ [])
      freed_push s e = record {
        some = λ z c. elim (Contains-push_cases fresh y z c) [
          | inl d ↦ kept_some z d
          | inr g ↦ subst (λ (v : I). Contains zs v × Contains (take (m + 1) row) v × (names_of eq along v zs ≤ named_so_far eq along before row (m + 1) v)) g (s, contains_from_at (take (m + 1) row) m y last_here.at, (let k = counted in omega arith))
        ];
        every = λ z t c l. every z t c l (is_in eq apart (y ∷ []) z);
        once = λ z. single z;
        rising = record {
          rising = up;
          placed = λ z c. elim (Contains-push_cases fresh y z c) [
            | inl d ↦ (let (i, l) = f.rising.placed z d in (i, last_step z i (other z d) l))
            | inr g ↦ (m, subst (λ (v : I). IsLastAt (take (m + 1) row) v m) g last_here)
          ];
        };
      }
        where
          other : (z : I) → Contains fresh z → z ≡ y → ⊥
          other = not_fresh (λ _. omega arith)

          only : (z : I) → Contains (y ∷ []) z → z ≡ y
          only z c = let (k, a) = at_from_contains (y ∷ []) z c in go k a
            where
              go : (k : ℕ) → At (y ∷ []) k z → z ≡ y
              go zero a = cc
              go (suc k) a = absurd (none_at_nil k z a)

          every : (z : I) → Contains zs z → Contains (take (m + 1) row) z → names_of eq along z zs ≤ named_so_far eq along before row (m + 1) z → Contains (y ∷ []) z ⊎ (Contains (y ∷ []) z → ⊥) → Contains (fresh ++ y ∷ []) z
          every z t c l (inl d) = Contains-append_right fresh (y ∷ []) z d
          every z t c l (inr none) =
              let differs : z ≡ y → ⊥ = λ g. none (subst (λ (v : I). Contains (y ∷ []) v) (sym g) (contains_from_at (y ∷ []) 0 y refl)) in
              let before : Contains (take m row) z = elim (front_cases z c) [ inl d ↦ d | inr g ↦ absurd (differs (sym g)) ] in
              let k = not_counted z differs in
              Contains-append_left fresh (y ∷ []) z (f.every z t before (omega arith))

          single : (z : I) → times (eq z) (fresh ++ y ∷ []) ≤ 1
          single z = let a = times_append (eq z) fresh (y ∷ []) in go (eq z y) refl a
            where
              go : (b : Bool) → eq z y ≡ b → times (eq z) (fresh ++ y ∷ []) ≡ times (eq z) fresh + (cond (eq z y) 1 0 + 0) → times (eq z) (fresh ++ y ∷ []) ≤ 1
              go true g a =
                  let b : times (eq z) (fresh ++ y ∷ []) ≡ times (eq z) fresh + (cond true 1 0 + 0) = rw g at a in
                  let same = apart.same z y g in
                  count (times (eq z) fresh) refl b
                where
                  count : (n : ℕ) → times (eq z) fresh ≡ n → times (eq z) (fresh ++ y ∷ []) ≡ times (eq z) fresh + (cond true 1 0 + 0) → times (eq z) (fresh ++ y ∷ []) ≤ 1
                  count zero h b = omega arith
                  count (suc n) h b = absurd (other z (contains_times eq apart fresh z (omega arith)) (apart.same z y g))
              go false g a =
                  let b : times (eq z) (fresh ++ y ∷ []) ≡ times (eq z) fresh + (cond false 1 0 + 0) = rw g at a in
                  let o = f.once z in omega arith

          up : (k l : ℕ) (z v : I) → k < l → At (fresh ++ y ∷ []) k z → At (fresh ++ y ∷ []) l v → (i : ℕ) × (j : ℕ) × IsLastAt (take (m + 1) row) z i × IsLastAt (take (m + 1) row) v j × (i < j)
          up k l z v lt a b = elim (at_from_push fresh y k z a) [
            | inr e ↦ absurd (elim (at_from_push fresh y l v b) [ inl c ↦ (let n = slice_get_within fresh l v c in omega (arith, e.0)) | inr c ↦ omega (arith, e.0, c.0) ])
            | inl d ↦ elim (at_from_push fresh y l v b) [
              | inl c ↦ (let (i, j, p, q, r) = f.rising.rising k l z v lt d c in (i, j, last_step z i (other z (contains_from_at fresh k z d)) p, last_step v j (other v (contains_from_at fresh l v c)) q, r))
              | inr e ↦ (let (i, p) = f.rising.placed z (contains_from_at fresh k z d) in (i, m, last_step z i (other z (contains_from_at fresh k z d)) p, subst (λ (w : I). IsLastAt (take (m + 1) row) w m) (sym e.1) last_here, (at_from_take row m i z p.at).0))
            ]
          ]

  pub freed_none : Freed eq along zs before row 0 []
  freed_none = record {
    some = λ y c. let (k, a) = at_from_contains [] y c in absurd (none_at_nil k y a);
    every = λ y s c l. absurd (empty y c);
    once = λ y. omega arith;
    rising = record {
      rising = λ k l y z lt a b. absurd (none_at_nil k y a);
      placed = λ y c. let (k, a) = at_from_contains [] y c in absurd (none_at_nil k y a);
    };
  }
    where
      empty : (y : I) → Contains (take 0 row) y → ⊥
      empty y c = let (k, a) = at_from_contains (take 0 row) y c in let (lt, b) = at_from_take row 0 k y a in omega arith

  -- where the row is that of a commit which isn't given yet, no name is counted off too often
  pub room_in_row : (x : I) → row ≡ along x → ((j k : ℕ) (y : I) → At before j y → At before k y → j ≡ k) → ((b : I) → Contains before b → Contains zs b) → Contains zs x → (Contains before x → ⊥) → (m : ℕ) (y : I) → At row m y → named_so_far eq along before row m y + 1 ≤ names_of eq along y zs
  room_in_row x e b_once within there none m y here =
      let r = room_for eq apart along zs once before x y b_once within there none in
      let r' : names_of eq along y before + times (eq y) row ≤ names_of eq along y zs = subst (λ (ys : List I). names_of eq along y before + times (eq y) ys ≤ names_of eq along y zs) (sym e) r in
      let c = counted m y here in
      let t = times_take (eq y) row (m + 1) in
      omega arith

  -- at the end of the row
  pub freed_all : (x : I) (m : ℕ) (fresh : List I) → row ≡ along x → ((j k : ℕ) (y : I) → At before j y → At before k y → j ≡ k) → ((b : I) → Contains before b → Contains zs b) → Contains zs x → (Contains before x → ⊥) → length row ≤ m → Freed eq along zs before row m fresh → Fresh eq along (Contains zs) before x fresh × Rising (along x) fresh
  freed_all x m fresh e b_once within there none long f = (record { some = some; every = every; once = f.once }, subst (λ (ys : List I). Rising ys fresh) (whole row m long ∙ e) f.rising)
    where
      whole : (xs : List I) (n : ℕ) → length xs ≤ n → take n xs ≡ xs
      whole [] zero l = refl
      whole [] (suc n) l = refl
      whole (y ∷ xs) zero l = absurd (omega arith)
      whole (y ∷ xs) (suc n) l = ap (λ (ys : List I). y ∷ ys) (whole xs n (omega arith))

      all_row : (y : I) → named_so_far eq along before row m y ≡ names_of eq along y (before ++ x ∷ [])
      all_row y =
          let p = total_push (λ c. times (eq y) (along c)) before x in
          let q : times (eq y) (take m row) ≡ times (eq y) (along x) = ap (times (eq y)) (whole row m long ∙ e) in
          omega arith

      once_more : (j k : ℕ) (y : I) → At (before ++ x ∷ []) j y → At (before ++ x ∷ []) k y → j ≡ k
      once_more j k y a b = elim (at_from_push before x j y a) [
        | inl g ↦ elim (at_from_push before x k y b) [ inl h ↦ b_once j k y g h | inr d ↦ absurd (none (subst (λ (v : I). Contains before v) d.1 (contains_from_at before j y g))) ]
        | inr c ↦ elim (at_from_push before x k y b) [ inl h ↦ absurd (none (subst (λ (v : I). Contains before v) c.1 (contains_from_at before k y h))) | inr d ↦ c.0 ∙ sym d.0 ]
      ]

      within_more : (b : I) → Contains (before ++ x ∷ []) b → Contains zs b
      within_more b c = elim (Contains-push_cases before x b c) [ inl g ↦ within b g | inr d ↦ subst (λ (v : I). Contains zs v) d there ]

      some : (y : I) → Contains fresh y → Contains zs y × Contains (along x) y × IsReady along (Contains zs) (before ++ x ∷ []) y
      some y c =
          let (s, t, l) = f.some y c in
          let k = all_row y in
          (s, subst (λ (ys : List I). Contains ys y) e (contains_take row m y t), ready_from_names eq apart along zs once (before ++ x ∷ []) y once_more within_more (omega arith))

      every : (y : I) → Contains zs y → Contains (along x) y → IsReady along (Contains zs) (before ++ x ∷ []) y → Contains fresh y
      every y s n r =
          let k = all_row y in
          let l = names_from_ready eq apart along zs once (before ++ x ∷ []) y r in
          f.every y s (subst (λ (ys : List I). Contains ys y) (sym (whole row m long ∙ e)) n) (omega arith)
