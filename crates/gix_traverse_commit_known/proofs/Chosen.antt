-- A walk by time: the commit whose turn it is comes to the list.
use Rattle.std.proofs.Common.{◌≡◌, ℕ, zero, suc, ◌≤◌, ◌⊎◌, inl, inr, List, [], ◌∷◌, ◌++◌, length, take, refl, sym, ◌∙◌, ap, subst, arith, Bool, true}
use Rattle.std.specs.Prelude.{Contains, IsTrue}
use Rattle.std.proofs.lemmas.List.Elements.{Contains-append_left, Contains-push}
use Rattle.std.proofs.lemmas.Option.{slice_get_within}
use Rattle.gix_hash.specs.declared.object_id.ObjectId.{ObjectId}
use Rattle.gix_traverse_graph.specs.Commits.{Commits, Reached, tip, parent}
use Rattle.gix_traverse_graph.specs.Order.{At, IsChosen, IsOpen}
use Rattle.gix_traverse_graph.specs.Sorting.{ComesFirst}
use Rattle.gix_traverse_commit_known.specs.Timely.{IsChosenSoFar, IsMetSoFar, IsTaken, Waits}
use Rattle.gix_traverse_graph.specs.Turns.{IsNextByTime}
use Rattle.gix_traverse_graph.specs.declared.sorting.CommitTimeOrder.{CommitTimeOrder}
use Rattle.gix_traverse_commit_known.specs.declared.waiting.Turn.{Turn}
use Rattle.gix_traverse_graph.proofs.Lists.{at_from_contains, at_from_push, at_from_take, contains_from_at, none_at_nil}
use Rattle.gix_traverse_commit_known.proofs.Simply.{in_push}
use Rattle.gix_traverse_commit_known.proofs.Timely.{comes_itself, in_nil, met_renamed, same_turn, taken_first, taken_other, taken_some}

pub take_before : {I : Type 0} (xs : List I) (y : I) (k : ℕ) → k ≤ length xs → take k (xs ++ y ∷ []) ≡ take k xs
take_before [] y zero l = refl
take_before [] y (suc k) l = absurd (omega arith)
take_before (x ∷ xs) y zero l = refl
take_before {I} (x ∷ xs) y (suc k) l = ap (λ (zs : List I). x ∷ zs) (take_before xs y k (omega arith))

pub take_all : {I : Type 0} (xs : List I) (k : ℕ) → length xs ≤ k → take k xs ≡ xs
take_all [] zero l = refl
take_all [] (suc k) l = refl
take_all (x ∷ xs) zero l = absurd (omega arith)
take_all {I} (x ∷ xs) (suc k) l = ap (λ (zs : List I). x ∷ zs) (take_all xs k (omega arith))

module _ (g : Commits ObjectId) (along : ObjectId → List ObjectId) (tips : List ObjectId) (keep : ObjectId → Bool) (order : CommitTimeOrder) where
  abbrev Comes : List ObjectId → ObjectId → ObjectId → Type 0
  Comes = ComesFirst order (λ x. (g x).time)

  module _ (has : ObjectId → Bool) (listed : List ObjectId) (old : List Turn) (turn : Turn) (new : List Turn) (w : IsMetSoFar g keep has (IsOpen along tips listed) listed old) (t : IsTaken order old turn new) where
    waits_turn : Waits old turn.id
    waits_turn = (turn, (taken_some order old turn new t turn).1 (inl refl), refl)

    waits_old : (x : ObjectId) → Waits new x → Waits old x
    waits_old x (u, c, e) = (u, (taken_some order old turn new t u).1 (inr c), e)

    -- no other that waits is of the same commit
    waits_other : (x : ObjectId) → Waits new x → x ≡ turn.id → ⊥
    waits_other x (u, c, e) s =
        let f = w.timed u ((taken_some order old turn new t u).1 (inr c)) in
        let h = w.timed turn ((taken_some order old turn new t turn).1 (inl refl)) in
        let i : u.id ≡ turn.id = e ∙ s in
        let j : u.time ≡ turn.time = f ∙ ap (λ (z : ObjectId). (g z).time) i ∙ sym h in
        taken_other order old turn new t u c (same_turn u turn j i)

    is_turn : (x : ObjectId) → Waits old x → (x ≡ turn.id) ⊎ Waits new x
    is_turn x (u, c, e) = elim ((taken_some order old turn new t u).0 c) [ inl s ↦ inl (sym e ∙ ap (λ (v : Turn). v.id) s) | inr d ↦ inr (u, d, e) ]

    to_end : (x : ObjectId) → Contains listed x ⊎ Waits old x → Contains (listed ++ turn.id ∷ []) x ⊎ Waits new x
    to_end x c = elim c [
      | inl d ↦ inl (Contains-append_left listed (turn.id ∷ []) x d)
      | inr p ↦ elim (is_turn x p) [ inl e ↦ inl (subst (λ (z : ObjectId). Contains (listed ++ turn.id ∷ []) z) (sym e) (Contains-push listed turn.id)) | inr q ↦ inr q ]
    ]

    pub taken_met : IsMetSoFar g keep has (IsOpen along tips listed) (listed ++ turn.id ∷ []) new
    taken_met = record {
      timed = λ u c. w.timed u ((taken_some order old turn new t u).1 (inr c));
      some = λ x p. let r = w.some x (waits_old x p) in (r.0, (λ c. elim (in_push listed turn.id x c) [ inl d ↦ r.1 d | inr e ↦ waits_other x p e ]), r.2);
      every = λ x n k. to_end x (w.every x n k);
      met = λ x h k. to_end x (w.met x h k);
      known = λ x c. elim c [
        | inl d ↦ elim (in_push listed turn.id x d) [ inl f ↦ w.known x (inl f) | inr e ↦ subst (λ (z : ObjectId). has z ≡ true) (sym e) (w.known turn.id (inr waits_turn)) ]
        | inr p ↦ w.known x (inr (waits_old x p))
      ];
    }

    top : (keep turn.id ≡ true) × (Contains listed turn.id → ⊥) × IsOpen along tips listed turn.id
    top = w.some turn.id waits_turn

    -- it may come before all that are open
    comes : (before : List ObjectId) (y : ObjectId) → keep y ≡ true → (Contains listed y → ⊥) → IsOpen along tips listed y → Comes before turn.id y
    comes before y k n o = elim (w.every y o k) [
      | inl c ↦ absurd (n c)
      | inr p ↦ elim (is_turn y p) [
        | inl e ↦ subst (λ (z : ObjectId). Comes before turn.id z) (sym e) (comes_itself order (λ x. (g x).time) before turn.id)
        | inr (u, c, e) ↦ subst (λ (z : ObjectId). Comes before turn.id z) e (taken_first order old turn new before (λ x. (g x).time) t u c (w.timed u ((taken_some order old turn new t u).1 (inr c))) (w.timed turn ((taken_some order old turn new t turn).1 (inl refl))))
      ]
    ]

    pub taken_next : (S : ObjectId → Type 0) → S turn.id → ((y : ObjectId) → S y → keep y ≡ true) → IsNextByTime along tips S Comes listed turn.id
    taken_next S s keeps = record { member = s; new = top.1; open_now = top.2; first = λ y m n o. comes listed y (keeps y m) n o }

    module _ (v : IsChosenSoFar along tips keep Comes listed) where
      now : take (length listed) (listed ++ turn.id ∷ []) ≡ listed
      now = take_before listed turn.id (length listed) (omega arith) ∙ take_all listed (length listed) (omega arith)

      pub reached_turn : Reached along (λ y. IsTrue (keep y)) tips turn.id
      reached_turn = elim top.2 [ inl c ↦ tip c top.0 | inr (child, c, n) ↦ parent (v.reached child c) n top.0 ]

      fit_now : (k : ℕ) (x : ObjectId) → At (listed ++ turn.id ∷ []) k x → IsOpen along tips (take k (listed ++ turn.id ∷ [])) x
      fit_now k x a = elim (at_from_push listed turn.id k x a) [
        | inl b ↦ (let l = slice_get_within listed k x b in subst (λ (zs : List ObjectId). IsOpen along tips zs x) (sym (take_before listed turn.id k (omega arith))) (v.fit k x b))
        | inr e ↦ (let f = sym (ap (λ (m : ℕ). take m (listed ++ turn.id ∷ [])) e.0 ∙ now) in subst (λ (zs : List ObjectId). IsOpen along tips zs x) f (subst (λ (z : ObjectId). IsOpen along tips listed z) (sym e.1) top.2))
      ]

      chosen_now : (k : ℕ) (x y : ObjectId) → At (listed ++ turn.id ∷ []) k x → keep y ≡ true → (Contains (take k (listed ++ turn.id ∷ [])) y → ⊥) → IsOpen along tips (take k (listed ++ turn.id ∷ [])) y → Comes (take k (listed ++ turn.id ∷ [])) x y
      chosen_now k x y a h n o = elim (at_from_push listed turn.id k x a) [
        | inl b ↦ (
            let l = slice_get_within listed k x b in
            let e = take_before listed turn.id k (omega arith) in
            subst (λ (zs : List ObjectId). Comes zs x y) (sym e) (v.chosen k x y b h (λ c. n (subst (λ (zs : List ObjectId). Contains zs y) (sym e) c)) (subst (λ (zs : List ObjectId). IsOpen along tips zs y) e o)))
        | inr f ↦ (
            let e = ap (λ (m : ℕ). take m (listed ++ turn.id ∷ [])) f.0 ∙ now in
            subst (λ (z : ObjectId). Comes (take k (listed ++ turn.id ∷ [])) z y) (sym f.1) (comes (take k (listed ++ turn.id ∷ [])) y h (λ c. n (subst (λ (zs : List ObjectId). Contains zs y) (sym e) c)) (subst (λ (zs : List ObjectId). IsOpen along tips zs y) e o)))
      ]

      pub taken_chosen : IsChosenSoFar along tips keep Comes (listed ++ turn.id ∷ [])
      taken_chosen = record {
        reached = λ x c. elim (in_push listed turn.id x c) [ inl d ↦ v.reached x d | inr e ↦ subst (λ (z : ObjectId). Reached along (λ y. IsTrue (keep y)) tips z) (sym e) reached_turn ];
        once = λ j k x a b. elim (at_from_push listed turn.id j x a) [
          | inl c ↦ elim (at_from_push listed turn.id k x b) [ inl d ↦ v.once j k x c d | inr e ↦ absurd (top.1 (subst (λ (z : ObjectId). Contains listed z) e.1 (contains_from_at listed j x c))) ]
          | inr f ↦ elim (at_from_push listed turn.id k x b) [ inl d ↦ absurd (top.1 (subst (λ (z : ObjectId). Contains listed z) f.1 (contains_from_at listed k x d))) | inr e ↦ f.0 ∙ sym e.0 ]
        ];
        fit = fit_now;
        chosen = chosen_now;
      }

  -- nothing is chosen yet
  pub chosen_none : (listed : List ObjectId) → listed ≡ [] → IsChosenSoFar along tips keep Comes listed
  chosen_none listed e = subst (λ (zs : List ObjectId). IsChosenSoFar along tips keep Comes zs) (sym e) (record {
    reached = λ x c. absurd (in_nil x c);
    once = λ j k x a b. absurd (none_at_nil j x a);
    fit = λ k x a. absurd (none_at_nil k x a);
    chosen = λ k x y a h n o. absurd (none_at_nil k x a);
  })

  open_tip : (x : ObjectId) → IsOpen along tips [] x → Contains tips x
  open_tip x o = elim o [ inl c ↦ c | inr (child, c, n) ↦ absurd (in_nil child c) ]

  -- the tips are all that is open at first
  pub met_tips : (has : ObjectId → Bool) (turns : List Turn) → IsMetSoFar g keep has (Contains tips) [] turns → IsMetSoFar g keep has (IsOpen along tips []) [] turns
  met_tips has turns w = met_renamed g keep [] has (Contains tips) (IsOpen along tips []) turns w (λ x. ((λ c. inl c), open_tip x))

  -- its parents are open then too
  pub met_parents : (has : ObjectId → Bool) (listed : List ObjectId) (id : ObjectId) (turns : List Turn) → IsMetSoFar g keep has (λ x. IsOpen along tips listed x ⊎ Contains (along id) x) (listed ++ id ∷ []) turns → IsMetSoFar g keep has (IsOpen along tips (listed ++ id ∷ [])) (listed ++ id ∷ []) turns
  met_parents has listed id turns w = met_renamed g keep (listed ++ id ∷ []) has (λ x. IsOpen along tips listed x ⊎ Contains (along id) x) (IsOpen along tips (listed ++ id ∷ [])) turns w (λ x. (more x, less x))
    where
      more : (x : ObjectId) → IsOpen along tips listed x ⊎ Contains (along id) x → IsOpen along tips (listed ++ id ∷ []) x
      more x (inl (inl c)) = inl c
      more x (inl (inr (child, c, n))) = inr (child, Contains-append_left listed (id ∷ []) child c, n)
      more x (inr n) = inr (id, Contains-push listed id, n)

      less : (x : ObjectId) → IsOpen along tips (listed ++ id ∷ []) x → IsOpen along tips listed x ⊎ Contains (along id) x
      less x (inl c) = inl (inl c)
      less x (inr (child, c, n)) = elim (in_push listed id child c) [ inl d ↦ inl (inr (child, d, n)) | inr e ↦ inr (subst (λ (z : ObjectId). Contains (along z) x) e n) ]

  -- nothing waits any more
  pub timed_end : (has : ObjectId → Bool) (listed : List ObjectId) (turns : List Turn) → IsMetSoFar g keep has (IsOpen along tips listed) listed turns → IsChosenSoFar along tips keep Comes listed → turns ≡ [] → (S : ObjectId → Type 0) → ((x : ObjectId) → S x → Reached along (λ y. IsTrue (keep y)) tips x) → ((x : ObjectId) → Reached along (λ y. IsTrue (keep y)) tips x → S x) → IsChosen S (IsOpen along tips) Comes listed
  timed_end has listed turns w v e S to from = record {
    list = record { each = λ x. ((λ c. from x (v.reached x c)), (λ s. holds (to x s))); once = v.once };
    fit = v.fit;
    chosen = λ k l x y lt a b o. v.chosen k x y a (kept (v.reached y (contains_from_at listed l y b))) (λ c. let (j, d) = at_from_contains (take k listed) y c in let f = at_from_take listed k j y d in let h = v.once j l y f.1 b in absurd (omega (arith, f.0))) o;
  }
    where
      kept : {y : ObjectId} → Reached along (λ z. IsTrue (keep z)) tips y → keep y ≡ true
      kept (tip t k) = k
      kept (parent r n k) = k

      there : (x : ObjectId) → Contains listed x ⊎ Waits turns x → Contains listed x
      there x c = elim c [ inl d ↦ d | inr (t, d, f) ↦ absurd (in_nil t (subst (λ (ts : List Turn). Contains ts t) e d)) ]

      holds : {x : ObjectId} → Reached along (λ y. IsTrue (keep y)) tips x → Contains listed x
      holds (tip {x = x} c k) = there x (w.every x (inl c) k)
      holds (parent {x = c} {y = y} r n k) = there y (w.every y (inr (c, holds r, n)) k)
