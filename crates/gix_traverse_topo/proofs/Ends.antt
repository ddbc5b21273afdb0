-- Where no commit reaches itself, a walk that comes to its end has given all.
use Rattle.std.proofs.Common.{◌≡◌, ℕ, zero, suc, ◌+◌, ◌≤◌, ◌⊎◌, inl, inr, List, [], ◌∷◌, refl, sym, ◌∙◌, ap, subst, arith, Bool}
use Rattle.std.specs.Prelude.{Contains}
use Rattle.gix_traverse_graph.specs.Order.{At, IsReady}
use Rattle.gix_traverse_graph.specs.Commits.{Reached, tip, parent}
use Rattle.gix_traverse_topo.specs.Turns.{total}
use Rattle.gix_traverse_graph.proofs.Lists.{at_from_contains, contains_from_at, none_at_nil}
use Rattle.gix_traverse_graph.proofs.Slow.{TellsApart}
use Rattle.gix_traverse_topo.proofs.Turns.{is_in}
use Rattle.gix_traverse_topo.proofs.Degree.{weight_gap}

module _ {I : Type 0} (eq : I → I → Bool) (apart : TellsApart eq) (along : I → List I) (xs before : List I) where
  -- each of these that has x as a parent is given, or there is one that isn't
  search_child : (zs : List I) (x : I) → ((c : I) → Contains zs c → Contains (along c) x → Contains before c) ⊎ ((c : I) × Contains zs c × Contains (along c) x × (Contains before c → ⊥))
  search_child [] x = inl (λ c m n. let (k, a) = at_from_contains [] c m in absurd (none_at_nil k c a))
  search_child (z ∷ zs) x = elim (search_child zs x) [
    | inr (c, m, n, out) ↦ inr (c, later c m, n, out)
    | inl all ↦ elim (is_in eq apart (along z) x) [
      | inr none ↦ inl (λ c m n. elim (split c m) [ inl e ↦ absurd (none (subst (λ (y : I). Contains (along y) x) e n)) | inr d ↦ all c d n ])
      | inl named ↦ elim (is_in eq apart before z) [
        | inl g ↦ inl (λ c m n. elim (split c m) [ inl e ↦ subst (λ (y : I). Contains before y) (sym e) g | inr d ↦ all c d n ])
        | inr out ↦ inr (z, contains_from_at (z ∷ zs) 0 z refl, named, out)
      ]
    ]
  ]
    where
      later : (c : I) → Contains zs c → Contains (z ∷ zs) c
      later c m = let (k, a) = at_from_contains zs c m in contains_from_at (z ∷ zs) (suc k) c a

      split : (c : I) → Contains (z ∷ zs) c → (c ≡ z) ⊎ Contains zs c
      split c m = let (k, a) = at_from_contains (z ∷ zs) c m in go k a
        where
          go : (k : ℕ) → At (z ∷ zs) k c → (c ≡ z) ⊎ Contains zs c
          go zero a = inl cc
          go (suc k) a = inr (contains_from_at zs k c a)

  -- what h reaches, c reaches that has it as a parent
  reached_child : (c h : I) {m : I} → Contains xs h → Contains (along c) h → Reached along (Contains xs) (along h) m → Reached along (Contains xs) (along c) m
  reached_child c h s n (tip t k) = parent (tip n s) t k
  reached_child c h s n (parent r t k) = parent (reached_child c h s n r) t k

  module _ (acyclic : (x : I) → Contains xs x → Reached along (Contains xs) (along x) x → ⊥) (stuck : (x : I) → Contains xs x → (Contains before x → ⊥) → IsReady along (Contains xs) before x → ⊥) where
    -- none of the path is given, and its head reaches all of it
    record Path (path : List I) (h : I) : Type 0 where
      once : (j k : ℕ) (y : I) → At path j y → At path k y → j ≡ k
      inside : (y : I) → Contains path y → Contains xs y
      here : Contains path h
      out : Contains before h → ⊥
      reach : (y : I) → Contains path y → (y ≡ h) ⊎ Reached along (Contains xs) (along h) y

    -- it goes on to a child of its head
    higher : (path : List I) (h : I) → Path path h → (c : I) × Path (c ∷ path) c × (total (λ (_ : I). 1) path + 1 ≤ total (λ _. 1) xs)
    higher path h p = elim (search_child xs h) [
      | inl all ↦ absurd (stuck h (p.inside h p.here) p.out all)
      | inr (c, m, n, fresh) ↦ (
        c,
        record { once = once_more c (new c m n); inside = within_more c m; here = contains_from_at (c ∷ path) 0 c refl; out = fresh; reach = reach_more c n },
        weight_gap (λ _. 1) path xs c p.once p.inside m (new c m n),
      )
    ]
      where
        new : (c : I) → Contains xs c → Contains (along c) h → Contains path c → ⊥
        new c m n q = elim (p.reach c q) [
          | inl e ↦ acyclic c m (tip (subst (λ (y : I). Contains (along c) y) (sym e) n) m)
          | inr r ↦ acyclic c m (reached_child c h (p.inside h p.here) n r)
        ]

        split : (c y : I) (k : ℕ) → At (c ∷ path) k y → ((k ≡ 0) × (y ≡ c)) ⊎ ((j : ℕ) × (k ≡ suc j) × At path j y)
        split c y zero a = inl (refl, cc)
        split c y (suc k) a = inr (k, refl, a)

        once_more : (c : I) → (Contains path c → ⊥) → (j k : ℕ) (y : I) → At (c ∷ path) j y → At (c ∷ path) k y → j ≡ k
        once_more c none j k y a b = elim (split c y j a) [
          | inl (e, f) ↦ elim (split c y k b) [
            | inl (g, i) ↦ e ∙ sym g
            | inr (i, g, b') ↦ absurd (none (subst (λ (z : I). Contains path z) f (contains_from_at path i y b')))
          ]
          | inr (i, e, a') ↦ elim (split c y k b) [
            | inl (g, f) ↦ absurd (none (subst (λ (z : I). Contains path z) f (contains_from_at path i y a')))
            | inr (l, g, b') ↦ e ∙ ap suc (p.once i l y a' b') ∙ sym g
          ]
        ]

        within_more : (c : I) → Contains xs c → (y : I) → Contains (c ∷ path) y → Contains xs y
        within_more c m y q = let (k, a) = at_from_contains (c ∷ path) y q in elim (split c y k a) [
          | inl (e, f) ↦ subst (λ (z : I). Contains xs z) (sym f) m
          | inr (i, e, a') ↦ p.inside y (contains_from_at path i y a')
        ]

        reach_more : (c : I) → Contains (along c) h → (y : I) → Contains (c ∷ path) y → (y ≡ c) ⊎ Reached along (Contains xs) (along c) y
        reach_more c n y q = let (k, a) = at_from_contains (c ∷ path) y q in elim (split c y k a) [
          | inl (e, f) ↦ inl f
          | inr (i, e, a') ↦ elim (p.reach y (contains_from_at path i y a')) [
            | inl f ↦ inr (tip (subst (λ (z : I). Contains (along c) z) (sym f) n) (subst (λ (z : I). Contains xs z) (sym f) (p.inside h p.here)))
            | inr r ↦ inr (reached_child c h (p.inside h p.here) n r)
          ]
        ]

    climb : (fuel : ℕ) (path : List I) (h : I) → Path path h → total (λ _. 1) xs ≤ total (λ (_ : I). 1) path + fuel → ⊥
    climb zero path h p room = let (c, more, l) = higher path h p in omega arith
    climb (suc f) path h p room = let (c, more, l) = higher path h p in climb f (c ∷ path) c more (omega arith)

    -- all is given
    pub all_given : (x : I) → Contains xs x → Contains before x
    all_given x m = elim (is_in eq apart before x) [
      | inl g ↦ g
      | inr out ↦ absurd (climb (total (λ _. 1) xs) (x ∷ []) x (record { once = one; inside = single; here = contains_from_at (x ∷ []) 0 x refl; out = out; reach = λ y q. inl (only y q) }) (omega arith))
    ]
      where
        only : (y : I) → Contains (x ∷ []) y → y ≡ x
        only y p = let (k, a) = at_from_contains (x ∷ []) y p in go k a
          where
            go : (k : ℕ) → At (x ∷ []) k y → y ≡ x
            go zero a = cc
            go (suc k) a = absurd (none_at_nil k y a)

        single : (y : I) → Contains (x ∷ []) y → Contains xs y
        single y p = subst (λ (z : I). Contains xs z) (sym (only y p)) m

        one : (j k : ℕ) (y : I) → At (x ∷ []) j y → At (x ∷ []) k y → j ≡ k
        one zero zero y a b = refl
        one zero (suc k) y a b = absurd (none_at_nil k y b)
        one (suc j) k y a b = absurd (none_at_nil j y a)
