-- What a change of one slot does to the files.
use Rattle.std.proofs.Common.{ℕ, ◌≡◌, ◌<◌, ◌≤◌, ◌⊎◌, Bool, true, false, [], ◌∷◌, ◌++◌, Option, Some, None, refl, sym, ap, subst, ◌∙◌, inl, inr, arith, if◌then◌else◌}
use Rattle.std.specs.Prelude.{bytes_eq, is_some}
use Rattle.gix_object_nodes.specs.declared.node.NodeId.{NodeId}
use Rattle.gix_object_nodes.specs.declared.node.Slot.{Slot}
use Rattle.gix_object_nodes.specs.Files.{Bytes, Path, Leaf, Trees, behind, through, files_of_entry, put, put_at, removed}
use Rattle.gix_object_nodes.specs.Nodes.{Slots, child_or, child_of, leaf_in, files_of_slot, files_of_node, IsForest, Way, onto}
use Rattle.gix_object_nodes.proofs.Paths.{same_name, name_itself, by_test, onto-onto, behind_is, behind_append, onto-append, behind-onto, behind-longer, behind_one, behind_both}
use Rattle.gix_object_nodes.proofs.Ways.{unique, child_files, child_no_file, down}

-- the first names of a beginning
pub same_first : (m n : Bytes) (x tail t : Path) → behind (m ∷ x) (n ∷ tail) ≡ Some t → m ≡ n
same_first m n x tail t e = elim (by_test (bytes_eq m n)) [
  | inl is ↦ same_name m n is
  | inr isnt ↦ let none : None ≡ Some t = ap (λ b. if b then behind x tail else None) (sym isnt) ∙ e in absurd (cc none)
]

pub after_first : (m n : Bytes) (x tail t : Path) → behind (m ∷ x) (n ∷ tail) ≡ Some t → behind x tail ≡ Some t
after_first m n x tail t e = elim (by_test (bytes_eq m n)) [
  | inl is ↦ ap (λ b. if b then behind x tail else None) (sym is) ∙ e
  | inr isnt ↦ let none : None ≡ Some t = ap (λ b. if b then behind x tail else None) (sym isnt) ∙ e in absurd (cc none)
]

-- no file is above a way's end
pub above : (trees : Trees) (slots : Slots) (way : Path) (i : ℕ) (tail q t : Path) → Way slots way i → behind q (onto way tail) ≡ Some t
    → (files_of_node trees slots 0 q ≡ None) ⊎ ((n : Bytes) × (x : Path) × (q ≡ onto way (n ∷ x)) × (behind (n ∷ x) tail ≡ Some t))
above trees slots [] i tail [] t w e = inl refl
above trees slots [] i tail (m ∷ q) t w e = inr (m, q, refl, e)
above trees slots (n ∷ way) i tail q t w e = elim (above trees slots way w.0 (n ∷ tail) q t w.1 e) [
  | inl none ↦ inl none
  | inr one ↦ below one.0 one.1 one.2 one.3
]
  where
    below : (m : Bytes) (x : Path) → q ≡ onto way (m ∷ x) → behind (m ∷ x) (n ∷ tail) ≡ Some t → (files_of_node trees slots 0 q ≡ None) ⊎ ((k : Bytes) × (y : Path) × (q ≡ onto (n ∷ way) (k ∷ y)) × (behind (k ∷ y) tail ≡ Some t))
    below m [] at e =
        let same : m ≡ n = same_first m n [] tail t e in
        inl (ap (files_of_node trees slots 0) (at ∙ ap (λ k. onto way (k ∷ [])) same) ∙ down trees slots way w.0 n [] w.1 ∙ child_no_file trees slots (slots w.0 n) i w.2)
    below m (k ∷ x) at e =
        let same : m ≡ n = same_first m n (k ∷ x) tail t e in
        inr (k, x, at ∙ ap (λ l. onto way (l ∷ k ∷ x)) same, after_first m n (k ∷ x) tail t e)

-- ---- a change of one slot

module _ (trees : Trees) (slots new : Slots) (bound : ℕ) (ok : IsForest slots bound) (j : ℕ) (name : Bytes) (way : Path) (reached : Way slots way j)
    (agree : (i : ℕ) (m : Bytes) → ((i ≡ j) → (m ≡ name) → ⊥) → new i m ≡ slots i m) where
  -- the way to the changed node stays
  pub way_stays_to : (r : Path) (i : ℕ) → i ≤ j → Way slots r i → Way new r i
  way_stays_to [] i le w = w
  way_stays_to (n ∷ r) i le w =
      let up : w.0 < i = ok.forward w.0 n i w.2 in
      let less : w.0 ≤ j = omega arith in
      let apart : (w.0 ≡ j) → (n ≡ name) → ⊥ = λ e _. omega (arith, e) in
      (w.0, way_stays_to r w.0 less w.1, ap child_of (agree w.0 n apart) ∙ w.2)

  pub way_stays : Way new way j
  way_stays = let le : j ≤ j = omega arith in way_stays_to way j le reached

  same_slot : (rest : Path) (s : Slot) → ((c : ℕ) (m : Bytes) (more : Path) → rest ≡ m ∷ more → child_of (Some s) ≡ Some c → files_of_node trees new c rest ≡ files_of_node trees slots c rest)
      → files_of_slot trees new rest s ≡ files_of_slot trees slots rest s
  same_slot [] s h = refl
  same_slot (m ∷ more) s h = by_child s.child (λ c e. h c m more refl e)
    where
      by_child : (child : Option NodeId) → ((c : ℕ) → child_or child (λ c. Some c) None ≡ Some c → files_of_node trees new c (m ∷ more) ≡ files_of_node trees slots c (m ∷ more))
          → child_or child (λ c. files_of_node trees new c (m ∷ more)) (files_of_entry trees (m ∷ more) (leaf_in s)) ≡ child_or child (λ c. files_of_node trees slots c (m ∷ more)) (files_of_entry trees (m ∷ more) (leaf_in s))
      by_child None h = refl
      by_child (Some c) h = h c.0 refl

  same_through : (rest : Path) (o p : Option Slot) → p ≡ o → ((c : ℕ) → child_of o ≡ Some c → files_of_node trees new c rest ≡ files_of_node trees slots c rest)
      → through p (files_of_slot trees new rest) ≡ through o (files_of_slot trees slots rest)
  same_through rest None p e h = ap (λ x. through x (files_of_slot trees new rest)) e
  same_through rest (Some s) p e h = ap (λ x. through x (files_of_slot trees new rest)) e ∙ same_slot rest s (λ c m more _ is. h c is)

  -- paths that don't pass the slot keep their files
  pub elsewhere : (q : Path) (i : ℕ) (r : Path) → Way slots r i → ((a b : Path) → q ≡ a ++ name ∷ b → onto a r ≡ way → ⊥) → files_of_node trees new i q ≡ files_of_node trees slots i q
  elsewhere [] i r w apart = refl
  elsewhere (n ∷ rest) i r w apart =
      let off : (i ≡ j) → (n ≡ name) → ⊥ = λ at same.
      let here : Way slots r j = subst (λ k. Way slots r k) at w in
      apart [] rest (ap (λ k. k ∷ rest) same) (unique slots bound ok r way j here reached) in
      same_through rest (slots i n) (new i n) (agree i n off)
      (λ c is. elsewhere rest c (n ∷ r) (i, w, is) (λ a b e at. apart (n ∷ a) b (ap (λ l. n ∷ l) e) at))

  -- paths that don't begin with the slot's keep their files
  pub others : (q : Path) → behind (onto way (name ∷ [])) q ≡ None → files_of_node trees new 0 q ≡ files_of_node trees slots 0 q
  others q none = elsewhere q 0 [] refl (λ a b e at.
      let path : onto way (name ∷ []) ≡ a ++ name ∷ [] = ap (λ w. onto w (name ∷ [])) (sym at) ∙ onto-onto a [] (name ∷ []) in
      let found : behind (a ++ name ∷ []) (a ++ name ∷ b) ≡ Some b = behind_append a (name ∷ []) (name ∷ b) ∙ ap (λ t. if t then Some b else None) (name_itself name) in
      let one : behind (onto way (name ∷ [])) q ≡ Some b = ap (λ p. behind p q) path ∙ ap (behind (a ++ name ∷ [])) e ∙ found in
      cc)

  -- the others have the files of the new slot
  pub here : (q rest : Path) → behind (onto way (name ∷ [])) q ≡ Some rest → files_of_node trees new 0 q ≡ through (new j name) (files_of_slot trees new rest)
  here q rest is =
      let at : q ≡ onto way (name ∷ rest) = behind_is (onto way (name ∷ [])) q rest is ∙ sym (onto-append way (name ∷ []) rest) in
      ap (files_of_node trees new 0) at ∙ down trees new way j name rest way_stays

  -- a slot that is taken out takes the files at and below its path along
  pub removes : new j name ≡ None → (q : Path) → files_of_node trees new 0 q ≡ removed (onto way (name ∷ [])) (files_of_node trees slots 0) q
  removes gone q = by_case (behind (onto way (name ∷ [])) q) refl
    where
      by_case : (o : Option Path) → behind (onto way (name ∷ [])) q ≡ o → files_of_node trees new 0 q ≡ (if is_some o then None else files_of_node trees slots 0 q)
      by_case None e = others q e
      by_case (Some rest) e = here q rest e ∙ ap (λ o. through o (files_of_slot trees new rest)) gone

  -- a file that is put below the slot: what the paths above it and beside it have
  kept_above : (more q : Path) → behind (onto way (name ∷ [])) q ≡ None → (if is_some (behind q (onto way (name ∷ more))) then None else files_of_node trees slots 0 q) ≡ files_of_node trees slots 0 q
  kept_above more q none = by_case (behind q (onto way (name ∷ more))) refl
    where
      by_case : (o : Option Path) → behind q (onto way (name ∷ more)) ≡ o → (if is_some o then None else files_of_node trees slots 0 q) ≡ files_of_node trees slots 0 q
      by_case None e = refl
      by_case (Some t) e = elim (above trees slots way j (name ∷ more) q t reached e) [
        | inl gone ↦ sym gone
        | inr one ↦
            let same : one.0 ≡ name = same_first one.0 name one.1 more t one.3 in
            let found : behind (onto way (name ∷ [])) q ≡ Some one.1 =
            ap (behind (onto way (name ∷ []))) (one.2 ∙ ap (λ n. onto way (n ∷ one.1)) same) ∙ behind-onto way (name ∷ []) (name ∷ one.1) ∙ behind_one name one.1 in
            absurd (cc (sym none ∙ found))
      ]

  pub elsewhere_put : (leaf : Leaf) (more q : Path) → behind (onto way (name ∷ [])) q ≡ None → files_of_node trees new 0 q ≡ put trees (onto way (name ∷ more)) leaf (files_of_node trees slots 0) q
  elsewhere_put leaf more q none =
      let longer : behind (onto way (name ∷ more)) q ≡ None = ap (λ p. behind p q) (onto-append way (name ∷ []) more) ∙ behind-longer (onto way (name ∷ [])) more q none in
      others q none ∙ sym (kept_above more q none)
      ∙ ap (λ o. put_at trees leaf o (if is_some (behind q (onto way (name ∷ more))) then None else files_of_node trees slots 0 q)) (sym longer)

  pub below_put : (leaf : Leaf) (more q rest : Path) → behind (onto way (name ∷ [])) q ≡ Some rest
      → put trees (onto way (name ∷ more)) leaf (files_of_node trees slots 0) q
      ≡ put_at trees leaf (behind more rest) (if is_some (behind rest more) then None else through (slots j name) (files_of_slot trees slots rest))
  below_put leaf more q rest is =
      let at : q ≡ onto way (name ∷ rest) = behind_is (onto way (name ∷ [])) q rest is ∙ sym (onto-append way (name ∷ []) rest) in
      let one : behind (onto way (name ∷ more)) q ≡ behind more rest = ap (behind (onto way (name ∷ more))) at ∙ behind-onto way (name ∷ more) (name ∷ rest) ∙ behind_both name more rest in
      let two : behind q (onto way (name ∷ more)) ≡ behind rest more = ap (λ p. behind p (onto way (name ∷ more))) at ∙ behind-onto way (name ∷ rest) (name ∷ more) ∙ behind_both name rest more in
      let old : files_of_node trees slots 0 q ≡ through (slots j name) (files_of_slot trees slots rest) = ap (files_of_node trees slots 0) at ∙ down trees slots way j name rest reached in
      ap (λ o. put_at trees leaf o (if is_some (behind q (onto way (name ∷ more))) then None else files_of_node trees slots 0 q)) one
      ∙ ap (λ o. put_at trees leaf (behind more rest) (if is_some o then None else files_of_node trees slots 0 q)) two
      ∙ ap (λ x. put_at trees leaf (behind more rest) (if is_some (behind rest more) then None else x)) old

  -- an entry that is put into the slot
  pub puts : (s : Slot) → new j name ≡ Some s → s.child ≡ None → (q : Path) → files_of_node trees new 0 q ≡ put trees (onto way (name ∷ [])) (leaf_in s) (files_of_node trees slots 0) q
  puts s stands closed q = by_case (behind (onto way (name ∷ [])) q) refl
    where
      entry : (rest : Path) → files_of_slot trees new rest s ≡ files_of_entry trees rest (leaf_in s)
      entry [] = ap (λ o. child_or o (λ c. None) (files_of_entry trees [] (leaf_in s))) closed
      entry (m ∷ rest) = ap (λ o. child_or o (λ c. files_of_node trees new c (m ∷ rest)) (files_of_entry trees (m ∷ rest) (leaf_in s))) closed

      by_case : (o : Option Path) → behind (onto way (name ∷ [])) q ≡ o → files_of_node trees new 0 q ≡ put trees (onto way (name ∷ [])) (leaf_in s) (files_of_node trees slots 0) q
      by_case None e = elsewhere_put (leaf_in s) [] q e
      by_case (Some rest) e =
          here q rest e ∙ ap (λ o. through o (files_of_slot trees new rest)) stands ∙ entry rest ∙ sym (below_put (leaf_in s) [] q rest e)

  -- a tree that is put into the slot, with one entry alone at the end of its names, where there was
  -- no folder
  pub lays : (c : ℕ) (leaf : Leaf) (next : Bytes) (more : Path) → child_of (new j name) ≡ Some c
      → ((m : Bytes) (rest : Path) → files_of_node trees new c (m ∷ rest) ≡ put_at trees leaf (behind (next ∷ more) (m ∷ rest)) None)
      → ((m : Bytes) (rest : Path) → through (slots j name) (files_of_slot trees slots (m ∷ rest)) ≡ None)
      → (q : Path) → files_of_node trees new 0 q ≡ put trees (onto way (name ∷ next ∷ more)) leaf (files_of_node trees slots 0) q
  lays c leaf next more opened inside plain q = by_case (behind (onto way (name ∷ [])) q) refl
    where
      none_or_none : (b : Bool) → ◌≡◌ {A = Option Leaf} (if b then None else None) None
      none_or_none true = refl
      none_or_none false = refl

      at_end : (rest : Path) → behind (onto way (name ∷ [])) q ≡ Some rest → files_of_node trees new 0 q ≡ put trees (onto way (name ∷ next ∷ more)) leaf (files_of_node trees slots 0) q
      at_end [] e = here q [] e ∙ child_no_file trees new (new j name) c opened ∙ sym (below_put leaf (next ∷ more) q [] e)
      at_end (m ∷ rest) e =
          here q (m ∷ rest) e ∙ child_files trees new m rest (new j name) c opened ∙ inside m rest
          ∙ ap (put_at trees leaf (behind (next ∷ more) (m ∷ rest))) (sym (ap (λ x. if is_some (behind (m ∷ rest) (next ∷ more)) then None else x) (plain m rest) ∙ none_or_none (is_some (behind (m ∷ rest) (next ∷ more)))))
          ∙ sym (below_put leaf (next ∷ more) q (m ∷ rest) e)

      by_case : (o : Option Path) → behind (onto way (name ∷ [])) q ≡ o → files_of_node trees new 0 q ≡ put trees (onto way (name ∷ next ∷ more)) leaf (files_of_node trees slots 0) q
      by_case None e = elsewhere_put leaf (next ∷ more) q e
      by_case (Some rest) e = at_end rest e

-- a path below a name that is no folder has nothing to take out
pub removes_nothing : (trees : Trees) (slots : Slots) (j : ℕ) (name : Bytes) (way : Path) (m : Bytes) (more : Path) → Way slots way j
    → ((k : Bytes) (rest : Path) → through (slots j name) (files_of_slot trees slots (k ∷ rest)) ≡ None)
    → (q : Path) → files_of_node trees slots 0 q ≡ removed (onto way (name ∷ m ∷ more)) (files_of_node trees slots 0) q
removes_nothing trees slots j name way m more reached plain q = by_case (behind (onto way (name ∷ m ∷ more)) q) refl
  where
    by_case : (o : Option Path) → behind (onto way (name ∷ m ∷ more)) q ≡ o → files_of_node trees slots 0 q ≡ (if is_some o then None else files_of_node trees slots 0 q)
    by_case None e = refl
    by_case (Some rest) e =
        let at : q ≡ onto way (name ∷ m ∷ (more ++ rest)) = behind_is (onto way (name ∷ m ∷ more)) q rest e ∙ sym (onto-append way (name ∷ m ∷ more) rest) in
        ap (files_of_node trees slots 0) at ∙ down trees slots way j name (m ∷ (more ++ rest)) reached ∙ plain m (more ++ rest)

-- more links keep the ways
pub way_kept : (old new : Slots) → ((i : ℕ) (m : Bytes) (c : ℕ) → child_of (old i m) ≡ Some c → child_of (new i m) ≡ Some c) → (way : Path) (j : ℕ) → Way old way j → Way new way j
way_kept old new links [] j w = w
way_kept old new links (n ∷ way) j w = (w.0, way_kept old new links way w.0 w.1, links w.0 n j w.2)

-- a change at a number leaves the ways to it and to those before
pub way_above : (old new : Slots) (bound top : ℕ) → IsForest old bound → ((i : ℕ) (m : Bytes) → i < top → new i m ≡ old i m) → (way : Path) (j : ℕ) → j ≤ top → Way old way j → Way new way j
way_above old new bound top ok same [] j le w = w
way_above old new bound top ok same (n ∷ way) j le w =
    let up : w.0 < j = ok.forward w.0 n j w.2 in
    let less : w.0 < top = omega (arith, up, le) in
    let before : w.0 ≤ top = omega arith in
    (w.0, way_above old new bound top ok same way w.0 before w.1, ap child_of (same w.0 n less) ∙ w.2)
