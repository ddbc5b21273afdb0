-- The entry that is put, and the folders that are made for it.
use Rattle.std.proofs.Common.{ℕ, ◌≡◌, ◌≢◌, ◌<◌, ◌⊎◌, ◌++◌, inl, inr, false, List, [], ◌∷◌, Option, Some, None, refl, sym, ap, subst, ◌∙◌, ◌+◌, arith, length, drop, if◌then◌else◌}
use Rattle.std.specs.Prelude.{bytes_eq, is_some}
use Rattle.std.specs.Borrow.{Bor}
use Rattle.gix_hash.specs.declared.kind.Kind.{Kind}
use Rattle.gix_object_lookup.specs.Table.{Table}
use Rattle.gix_object_nodes.specs.declared.node.Slot.{Slot}
use Rattle.gix_object_nodes.specs.Files.{Bytes, Path, Leaf, Trees, behind, removed, through, entry_into}
use Rattle.gix_object_editor.specs.Stored.{HasStored, IsOpened}
use Rattle.gix_object_nodes.specs.Nodes.{Slots, child_of, leaf_in, slot_entry, entry_from, IsForest, IsEntry, Way, onto, LeadsTo}
use Rattle.gix_object_nodes.specs.Marks.{Marks, AreMarksKept}
use Rattle.gix_object_editor.specs.Laid.{laid, laid_at, made_at}
use Rattle.gix_object_editor.specs.Entries.{made_leaf}
use Rattle.gix_object_editor.specs.Editor.{IsTreeEntry}
use Rattle.gix_object_editor.proofs.Entered.{none_met, closed_entry, flipped, not_flipped}
use Rattle.gix_object_editor.proofs.Cuts.{more_names}
use Rattle.gix_object_editor.proofs.Walked.{names}
use Rattle.gix_object_editor.proofs.Marked.{way_before}
use Rattle.gix_object_nodes.proofs.Paths.{name_itself, by_test, onto-append, behind-onto, behind_one}
use Rattle.gix_object_editor.proofs.Standing.{entry_below, last_left}
use Rattle.gix_object_editor.proofs.SlotChange.{same_first, after_first}

-- ---- paths

pub begins_behind : (q r : Path) → behind q (q ++ r) ≡ Some r
begins_behind [] r = refl
begins_behind (n ∷ q) r = ap (λ b. if b then behind q (q ++ r) else None) (name_itself n) ∙ begins_behind q r

-- a beginning of a way and a rest is that of an opened tree, or goes on after the way
above_way : (slots : Slots) (way : Path) (i : ℕ) (tail q t : Path) → Way slots way i → behind q (onto way tail) ≡ Some t
    → ((w : Path) × (j : ℕ) × Way slots w j × (onto w [] ≡ q)) ⊎ ((n : Bytes) × (x : Path) × (q ≡ onto way (n ∷ x)) × (behind (n ∷ x) tail ≡ Some t))
above_way slots [] i tail [] t w e = inl ([], 0, refl, refl)
above_way slots [] i tail (m ∷ q) t w e = inr (m, q, refl, e)
above_way slots (n ∷ way) i tail q t w e = elim (above_way slots way w.0 (n ∷ tail) q t w.1 e) [
  | inl up ↦ inl up
  | inr one ↦ below one.0 one.1 one.2 one.3
]
  where
    below : (m : Bytes) (x : Path) → q ≡ onto way (m ∷ x) → behind (m ∷ x) (n ∷ tail) ≡ Some t
        → ((v : Path) × (j : ℕ) × Way slots v j × (onto v [] ≡ q)) ⊎ ((k : Bytes) × (y : Path) × (q ≡ onto (n ∷ way) (k ∷ y)) × (behind (k ∷ y) tail ≡ Some t))
    below m [] at e =
        let same : m ≡ n = same_first m n [] tail t e in
        inl (n ∷ way, i, w, sym (at ∙ ap (λ k. onto way (k ∷ [])) same))
    below m (k ∷ x) at e =
        let same : m ≡ n = same_first m n (k ∷ x) tail t e in
        inr (k, x, at ∙ ap (λ l. onto way (l ∷ k ∷ x)) same, after_first m n (k ∷ x) tail t e)

-- ---- folders that were there before trees were opened

no_rest : (x : Path) (n : Bytes) (t : Path) → behind x [] ≡ Some (n ∷ t) → ⊥
no_rest [] n t e = cc e
no_rest (k ∷ x) n t e = cc e

never_behind : (n : Bytes) (x t : Path) → behind (n ∷ x) [] ≡ Some t → ⊥
never_behind n x t e = cc e

module _ (honest : Type 0) (table : Table) (old mid : Slots) (bound more : ℕ) (ok : IsForest old bound) (opened : IsOpened honest table old mid bound more) (h : honest) (trees : Trees) (has : HasStored table trees)
    (was now : Marks) (kept : AreMarksKept false old mid was now bound more) where
  -- where a tree is opened, a folder was before
  still_folder : (q w : Path) (j : ℕ) → Way mid w j → onto w [] ≡ q → ((k : ℕ) × LeadsTo old q k []) ⊎ IsTreeEntry (entry_from none_met trees old 0 q)
  still_folder q [] j w e = inl (0, ([], refl, e))
  still_folder q (n ∷ way) j w e = by_slot (mid w.0 n) refl
    where
      by_slot : (o : Option Slot) → mid w.0 n ≡ o → ((k : ℕ) × LeadsTo old q k []) ⊎ IsTreeEntry (entry_from none_met trees old 0 q)
      by_slot None there = absurd (cc (sym (ap child_of there) ∙ w.2))
      by_slot (Some s) there = elim (opened.fresh w.0 n s j there (sym (ap child_of there) ∙ w.2)) [
        | inl link ↦ inl (j, (n ∷ way, way_before old mid bound more opened.forest kept.links (n ∷ way) j (ok.within w.0 n j link) w, e))
        | inr tree ↦
            let entry : entry_from none_met trees old 0 q ≡ Some (leaf_in s) =
            sym (opened.entries h trees has none_met q 0 ok.rooted) ∙ ap (entry_from none_met trees mid 0) (sym e) ∙ entry_below none_met trees mid way w.0 n [] w.1
            ∙ ap (λ o. through o (slot_entry none_met trees mid [])) there in
            inr (subst IsTreeEntry (sym entry) tree)
      ]

  -- and so did one at each beginning of its path
  pub stood_folders : (path w : Path) (j : ℕ) → Way mid w j → onto w [] ≡ path → (q t : Path) → q ++ t ≡ path → ((k : ℕ) × LeadsTo old q k []) ⊎ IsTreeEntry (entry_from none_met trees old 0 q)
  stood_folders path w j way e q t on = elim (above_way mid w j [] q t way (ap (behind q) (e ∙ sym on) ∙ begins_behind q t)) [
    | inl up ↦ still_folder q up.0 up.1 up.2 up.3
    | inr one ↦ absurd (never_behind one.0 one.1 t one.3)
  ]

-- ---- what is laid

laid_above : (trees : Trees) (leaf : Leaf) (left r : Path) (n : Bytes) (t : Path) → behind r left ≡ Some (n ∷ t) → laid trees leaf left r ≡ Some (made_leaf leaf.id.kind)
laid_above trees leaf [] [] n t e = absurd (cc e)
laid_above trees leaf [] (k ∷ r) n t e = absurd (cc e)
laid_above trees leaf (m ∷ left) [] n t e = refl
laid_above trees leaf (m ∷ left) (k ∷ r) n t e = elim (by_test (bytes_eq m k)) [
  | inl is ↦
      ap (λ b. if b then laid trees leaf left r else None) is
      ∙ laid_above trees leaf left r n t (sym (ap (λ b. if b then behind r left else None) (flipped m k is)) ∙ e)
  | inr isnt ↦ let none : None ≡ Some (n ∷ t) = sym (ap (λ b. if b then behind r left else None) (not_flipped m k isnt)) ∙ e in absurd (cc none)
]

laid_end : (trees : Trees) (leaf : Leaf) (left r : Path) → laid trees leaf left (left ++ r) ≡ entry_into none_met trees r leaf
laid_end trees leaf [] r = refl
laid_end trees leaf (n ∷ left) r = ap (λ b. if b then laid trees leaf left (left ++ r) else None) (name_itself n) ∙ laid_end trees leaf left r

module _ (honest : Type 0) (table : Table) (old mid : Slots) (bound more : ℕ) (ok : IsForest old bound) (opened : IsOpened honest table old mid bound more) (path : Path) (at : ℕ) (name : Bytes) (left rest : Path)
    (leads : LeadsTo mid path at rest) (is : rest ≡ name ∷ left) (h : honest) (trees : Trees) (has : HasStored table trees) where
  path_is : onto leads.0 (name ∷ left) ≡ path
  path_is = ap (onto leads.0) (sym is) ∙ leads.2

  -- at the path's end, and below it
  end_is : (r : Path) → behind (onto leads.0 (name ∷ [])) (path ++ r) ≡ Some (left ++ r)
  end_is r =
      ap (behind (onto leads.0 (name ∷ []))) (ap (λ p. p ++ r) (sym path_is) ∙ sym (onto-append leads.0 (name ∷ left) r))
      ∙ behind-onto leads.0 (name ∷ []) (name ∷ (left ++ r)) ∙ behind_one name (left ++ r)

  pub laid_stands : (new : Slots) (leaf : Leaf) (r : Path)
      → entry_from none_met trees new 0 (path ++ r) ≡ laid_at trees leaf left (behind (onto leads.0 (name ∷ [])) (path ++ r)) (entry_from none_met trees mid 0 (path ++ r))
      → entry_from none_met trees new 0 (path ++ r) ≡ entry_into none_met trees r leaf
  laid_stands new leaf r puts =
      puts ∙ ap (λ o. laid_at trees leaf left o (entry_from none_met trees mid 0 (path ++ r))) (end_is r) ∙ laid_end trees leaf left r

  pub already_stands : (leaf : Leaf) (r : Path) → left ≡ [] → IsEntry (mid at name) leaf → entry_from none_met trees mid 0 (path ++ r) ≡ entry_into none_met trees r leaf
  already_stands leaf r last there =
      ap (λ p. entry_from none_met trees mid 0 (p ++ r)) (sym path_is ∙ ap (λ l. onto leads.0 (name ∷ l)) last) ∙ ap (entry_from none_met trees mid 0) (sym (onto-append leads.0 (name ∷ []) r))
      ∙ entry_below none_met trees mid leads.0 at name r leads.1
      ∙ ap (λ o. through o (slot_entry none_met trees mid r)) there.1 ∙ closed_entry trees mid there.0 there.3 r ∙ ap (entry_into none_met trees r) there.2

  pub cut_gone : (new : Slots) → entry_from none_met trees new 0 path ≡ removed (onto leads.0 (name ∷ [])) (entry_from none_met trees mid 0) path → entry_from none_met trees new 0 path ≡ None
  cut_gone new cuts =
      let found : behind (onto leads.0 (name ∷ [])) path ≡ Some left =
      ap (behind (onto leads.0 (name ∷ []))) (sym path_is) ∙ behind-onto leads.0 (name ∷ []) (name ∷ left) ∙ behind_one name left in
      cuts ∙ ap (λ o. if is_some o then None else entry_from none_met trees mid 0 path) found

  module _ (was now : Marks) (kept : AreMarksKept false old mid was now bound more) where
    -- what is in the way lies after the names that lead to opened trees
    in_way : (q t : Path) → q ++ t ≡ path → (((k : ℕ) × LeadsTo old q k []) ⊎ IsTreeEntry (entry_from none_met trees old 0 q) → ⊥)
        → (x : Path) × (behind (onto leads.0 (name ∷ [])) q ≡ Some x) × (behind x left ≡ Some t)
    in_way q t on apart = elim (above_way mid leads.0 at (name ∷ left) q t leads.1 (ap (behind q) (path_is ∙ sym on) ∙ begins_behind q t)) [
      | inl up ↦ absurd (apart (still_folder honest table old mid bound more ok opened h trees has was now kept q up.0 up.1 up.2 up.3))
      | inr one ↦
          let same : one.0 ≡ name = same_first one.0 name one.1 left t one.3 in
          let at_q : q ≡ onto leads.0 (name ∷ one.1) = one.2 ∙ ap (λ n. onto leads.0 (n ∷ one.1)) same in
          let found : behind (onto leads.0 (name ∷ [])) q ≡ Some one.1 = ap (behind (onto leads.0 (name ∷ []))) at_q ∙ behind-onto leads.0 (name ∷ []) (name ∷ one.1) ∙ behind_one name one.1 in
          (one.1, found, after_first one.0 name one.1 left t one.3)
    ]

    pub laid_folders : (new : Slots) (leaf : Leaf) (q : Path) (n : Bytes) (t : Path) → q ++ n ∷ t ≡ path → (((k : ℕ) × LeadsTo old q k []) ⊎ IsTreeEntry (entry_from none_met trees old 0 q) → ⊥)
        → entry_from none_met trees new 0 q ≡ laid_at trees leaf left (behind (onto leads.0 (name ∷ [])) q) (entry_from none_met trees mid 0 q)
        → entry_from none_met trees new 0 q ≡ Some (made_leaf leaf.id.kind)
    laid_folders new leaf q n t on apart puts =
        let so = in_way q (n ∷ t) on apart in
        puts ∙ ap (λ o. laid_at trees leaf left o (entry_from none_met trees mid 0 q)) so.1 ∙ laid_above trees leaf left so.0 n t so.2

    pub made_folders : (new : Slots) (kind : Kind) (q t : Path) → q ++ t ≡ path → (((k : ℕ) × LeadsTo old q k []) ⊎ IsTreeEntry (entry_from none_met trees old 0 q) → ⊥)
        → entry_from none_met trees new 0 q ≡ made_at kind left (behind (onto leads.0 (name ∷ [])) q) (entry_from none_met trees mid 0 q)
        → entry_from none_met trees new 0 q ≡ Some (made_leaf kind)
    made_folders new kind q t on apart makes =
        let so = in_way q t on apart in
        makes ∙ ap (λ o. made_at kind left o (entry_from none_met trees mid 0 q)) so.1 ∙ ap (λ o. if is_some o then Some (made_leaf kind) else None) so.2

    pub cut_way : (new : Slots) (q t : Path) → q ++ t ≡ path → (((k : ℕ) × LeadsTo old q k []) ⊎ IsTreeEntry (entry_from none_met trees old 0 q) → ⊥)
        → entry_from none_met trees new 0 q ≡ removed (onto leads.0 (name ∷ [])) (entry_from none_met trees mid 0) q → entry_from none_met trees new 0 q ≡ None
    cut_way new q t on apart cuts =
        let so = in_way q t on apart in
        cuts ∙ ap (λ o. if is_some o then None else entry_from none_met trees mid 0 q) so.1

    -- if one name alone is left, each folder above it was there
    pub none_above : left ≡ [] → (q : Path) (n : Bytes) (t : Path) → q ++ n ∷ t ≡ path → (((k : ℕ) × LeadsTo old q k []) ⊎ IsTreeEntry (entry_from none_met trees old 0 q) → ⊥) → ⊥
    none_above last q n t on apart =
        let so = in_way q (n ∷ t) on apart in
        no_rest so.0 n t (ap (behind so.0) (sym last) ∙ so.2)

-- ---- names that are left

pub none_after : (path : List (Bor (List ℕ))) (i : ℕ) → i + 1 ≡ length path → names (drop (i + 1) path) ≡ []
none_after path i e = by_case (names (drop (i + 1) path)) refl
  where
    by_case : (p : Path) → names (drop (i + 1) path) ≡ p → names (drop (i + 1) path) ≡ []
    by_case [] is = is
    by_case (n ∷ p) is = let more = more_names path (i + 1) (λ none. cc (sym is ∙ none)) in absurd (omega (arith, more, e))

pub some_after : (path : List (Bor (List ℕ))) (i : ℕ) → i < length path → i + 1 ≢ length path → names (drop (i + 1) path) ≢ []
some_after path i lt ne none = ne (last_left path i lt none)
