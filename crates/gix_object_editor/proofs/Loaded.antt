-- A node of entries in order, and trees that are no such.
use Rattle.std.proofs.Common.{ℕ, zero, suc, ◌≡◌, ◌≢◌, ◌<◌, ◌+◌, true, false, List, [], ◌∷◌, ◌++◌, Option, Some, None, refl, sym, ap, subst, ◌∙◌, inl, inr, arith, length, get_or, map, take, add-one, if◌then◌else◌}
use Rattle.std.specs.Prelude.{bytes_eq, is_some}
use Rattle.std.proofs.lemmas.List.{get_or-map, get_or_default, get_or-take, take-map, map-append, length-take}
use Rattle.std.proofs.Math.Seq.{take-suc}
use Rattle.gix_object_tree.specs.Entry.{Item}
use Rattle.gix_object_nodes.specs.declared.node.NodeId.{NodeId}
use Rattle.gix_object_nodes.specs.declared.node.Slot.{Slot}
use Rattle.gix_object_nodes.specs.Files.{Bytes, Path, Leaf, Trees, leaf_of, named, through, files_of_entry, files_of_tree, entry_into}
use Rattle.gix_object_nodes.specs.Nodes.{Slots, StandsFor, leaf_in, child_of, child_or, files_of_slot, files_of_node, slot_entry, entry_from, IsForest}
use Rattle.gix_object_tree.specs.WellFormed.{IsWellFormed, HasNamesOnce}
use Rattle.gix_object_nodes.proofs.Paths.{same_name, name_itself, by_test}

named-more : (xs : List Item) (x : Item) (m : Bytes) → named m xs ≡ None → bytes_eq m x.name ≡ true → named m (xs ++ x ∷ []) ≡ Some x
named-more [] x m none is = ap (λ b. if b then Some x else None) is
named-more (y ∷ xs) x m none is = elim (by_test (bytes_eq m y.name)) [
  | inl t ↦ let found : Some y ≡ None = ap (λ b. if b then Some y else named m xs) (sym t) ∙ none in absurd (cc found)
  | inr f ↦
      let later : named m xs ≡ None = ap (λ b. if b then Some y else named m xs) (sym f) ∙ none in
      ap (λ b. if b then Some y else named m (xs ++ x ∷ [])) f ∙ named-more xs x m later is
]

named-kept : (xs : List Item) (x : Item) (m : Bytes) → bytes_eq m x.name ≡ false → named m (xs ++ x ∷ []) ≡ named m xs
named-kept [] x m isnt = ap (λ b. if b then Some x else None) isnt
named-kept (y ∷ xs) x m isnt = ap (λ o. if bytes_eq m y.name then Some y else o) (named-kept xs x m isnt)

-- a name that none of the entries has
none_named : (xs : List Item) (m : Bytes) → ((j : ℕ) (d : Item) → j < length xs → (get_or xs j d).name ≢ m) → named m xs ≡ None
none_named [] m h = refl
none_named (y ∷ xs) m h = elim (by_test (bytes_eq m y.name)) [
  | inl t ↦ let first : 0 < length (y ∷ xs) = omega arith in absurd (h 0 y first (sym (same_name m y.name t)))
  | inr f ↦ ap (λ b. if b then Some y else named m xs) f ∙ none_named xs m (λ j d lt. let more : suc j < length (y ∷ xs) = omega arith in h (suc j) d more)
]

-- no entry before one has its name
none_before : (xs : List Item) (k : ℕ) (d : Item) → HasNamesOnce xs → k < length xs → named (get_or xs k d).name (take k xs) ≡ None
none_before xs k d once lt = none_named (take k xs) (get_or xs k d).name (λ j e less.
    let below : j < k = omega (arith, length-take k xs) in
    λ same. once j k e below lt (ap (λ x. x.name) (sym (get_or-take k xs j e below)) ∙ same ∙ ap (λ x. x.name) (get_or_default xs k d e lt)))

none_for_none : (p : Option Item) → StandsFor None p → p ≡ None
none_for_none None h = refl
none_for_none (Some x) h = absurd h

module _ {E : Type 0} (item_of : E → Item) where
  -- the entries so far, and one more
  take_one : (entries : List E) (i : ℕ) (e : E) → i < length entries → e ≡ get_or entries i e → map item_of (take (i + 1) entries) ≡ map item_of (take i entries) ++ item_of e ∷ []
  take_one entries i e lt is =
      ap (λ n. map item_of (take n entries)) (add-one i) ∙ ap (map item_of) (take-suc entries i e lt)
      ∙ ap (λ x. map item_of (take i entries ++ x ∷ [])) (sym is) ∙ map-append item_of (take i entries) (e ∷ [])

  pub stands_more : (entries : List E) (i : ℕ) (e : E) (old new : Bytes → Option Slot) (s : Slot) → i < length entries → e ≡ get_or entries i e
      → ((m : Bytes) → StandsFor (old m) (named m (map item_of (take i entries)))) → old (item_of e).name ≡ None → new (item_of e).name ≡ Some s
      → leaf_in s ≡ leaf_of (item_of e) → s.child ≡ None → ((m : Bytes) → m ≢ (item_of e).name → new m ≡ old m)
      → (m : Bytes) → StandsFor (new m) (named m (map item_of (take (i + 1) entries)))
  stands_more entries i e old new s lt is before absent stands leaf closed others m =
      subst (λ xs. StandsFor (new m) (named m xs)) (sym (take_one entries i e lt is)) (elim (by_test (bytes_eq m (item_of e).name)) [
        | inl t ↦
            let same : m ≡ (item_of e).name = same_name m (item_of e).name t in
            let none : named m (map item_of (take i entries)) ≡ None =
            none_for_none (named m (map item_of (take i entries))) (subst (λ o. StandsFor o (named m (map item_of (take i entries)))) (ap old same ∙ absent) (before m)) in
            let here : new m ≡ Some s = ap new same ∙ stands in
            let both : StandsFor (Some s) (Some (item_of e)) = (leaf, closed) in
            subst (λ o. StandsFor o (named m (map item_of (take i entries) ++ item_of e ∷ []))) (sym here)
            (subst (λ p. StandsFor (Some s) p) (sym (named-more (map item_of (take i entries)) (item_of e) m none t)) both)
        | inr f ↦
            let apart : m ≢ (item_of e).name = λ same. let yes : bytes_eq m (item_of e).name ≡ true = ap (bytes_eq m) (sym same) ∙ name_itself m in cc in
            subst (λ o. StandsFor o (named m (map item_of (take i entries) ++ item_of e ∷ []))) (sym (others m apart))
            (subst (λ p. StandsFor (old m) p) (sym (named-kept (map item_of (take i entries)) (item_of e) m f)) (before m))
      ])

  length-of : (entries : List E) → length (map item_of entries) ≡ length entries
  length-of [] = refl
  length-of (e ∷ entries) = ap suc (length-of entries)

  -- ---- what no well-formed tree has

  pub name_twice : (entries : List E) (i : ℕ) (e : E) (o : Option Slot) → i < length entries → e ≡ get_or entries i e → is_some o ≡ true
      → StandsFor o (named (item_of e).name (map item_of (take i entries))) → IsWellFormed (map item_of entries) → ⊥
  name_twice entries i e None lt is some stands whole = absurd (cc some)
  name_twice entries i e (Some s) lt is some stands whole =
      let more : i < length (map item_of entries) = omega (arith, length-of entries) in
      let at : get_or (map item_of entries) i (item_of e) ≡ item_of e = get_or-map item_of entries i e (item_of e) lt ∙ ap item_of (sym is) in
      let none : named (item_of e).name (map item_of (take i entries)) ≡ None =
      ap (named (item_of e).name) (sym (take-map item_of i entries)) ∙ ap (λ x. named x.name (take i (map item_of entries))) (sym at) ∙ none_before (map item_of entries) i (item_of e) whole.once more in
      subst (λ p. StandsFor (Some s) p) none stands

  -- a name that no well-formed tree has twice
  pub absent_before : (entries : List E) (i : ℕ) (e : E) (o : Option Slot) → i < length entries → e ≡ get_or entries i e
      → StandsFor o (named (item_of e).name (map item_of (take i entries))) → IsWellFormed (map item_of entries) → o ≡ None
  absent_before entries i e None lt is stands whole = refl
  absent_before entries i e (Some s) lt is stands whole = absurd (name_twice entries i e (Some s) lt is refl stands whole)

pub fresh_of : (o : Option Slot) (p : Option Item) → StandsFor o p → child_of o ≡ None
fresh_of None p h = refl
fresh_of (Some s) None h = absurd h
fresh_of (Some s) (Some x) h = ap (λ c. child_or c (λ k. Some k) None) h.1

-- what is in a node is an entry of the tree
pub entries_stand : (slots : Bytes → Option Slot) (items : List Item) → ((m : Bytes) → StandsFor (slots m) (named m items)) → (m : Bytes) (s : Slot) → slots m ≡ Some s → (item : Item) × (named m items ≡ Some item) × (leaf_in s ≡ leaf_of item)
entries_stand slots items stands m s is = by_item (named m items) refl (subst (λ o. StandsFor o (named m items)) is (stands m))
  where
    by_item : (p : Option Item) → named m items ≡ p → StandsFor (Some s) p → (item : Item) × (named m items ≡ Some item) × (leaf_in s ≡ leaf_of item)
    by_item None e h = absurd h
    by_item (Some item) e h = (item, e, h.0)

pub no_child : (o : Option NodeId) → is_some o ≡ false → o ≡ None
no_child None e = refl
no_child (Some c) e = absurd (cc e)

-- a node with a tree's entries: what its slots lead to, its files and its entries
through_tree : {X : Type 0} (F : Slot → Option X) (G : Item → Option X) → ((u : Slot) (item : Item) → leaf_in u ≡ leaf_of item → u.child ≡ None → F u ≡ G item) → (o : Option Slot) (p : Option Item) → StandsFor o p → through o F ≡ through p G
through_tree F G one None None h = refl
through_tree F G one None (Some item) h = absurd h
through_tree F G one (Some u) None h = absurd h
through_tree F G one (Some u) (Some item) h = one u item h.0 h.1

pub tree_files : (trees : Trees) (slots : Slots) (i : ℕ) (items : List Item) → ((m : Bytes) → StandsFor (slots i m) (named m items)) → (q : Path) → files_of_node trees slots i q ≡ files_of_tree trees items q
tree_files trees slots i items stands [] = refl
tree_files trees slots i items stands (name ∷ rest) = through_tree (files_of_slot trees slots rest) (λ item. files_of_entry trees rest (leaf_of item)) (one rest) (slots i name) (named name items) (stands name)
  where
    one : (rest : Path) (u : Slot) (item : Item) → leaf_in u ≡ leaf_of item → u.child ≡ None → files_of_slot trees slots rest u ≡ files_of_entry trees rest (leaf_of item)
    one [] u item same none = ap (λ o. child_or o (λ c. None) (files_of_entry trees [] (leaf_in u))) none ∙ ap (files_of_entry trees []) same
    one (k ∷ more) u item same none =
        ap (λ o. child_or o (λ c. files_of_node trees slots c (k ∷ more)) (files_of_entry trees (k ∷ more) (leaf_in u))) none ∙ ap (files_of_entry trees (k ∷ more)) same

pub tree_entry : (blocked : Leaf → Option Leaf) (trees : Trees) (slots : Slots) (i : ℕ) (items : List Item) → ((m : Bytes) → StandsFor (slots i m) (named m items)) → (name : Bytes) (rest : Path)
    → through (slots i name) (slot_entry blocked trees slots rest) ≡ through (named name items) (λ item. entry_into blocked trees rest (leaf_of item))
tree_entry blocked trees slots i items stands name rest = through_tree (slot_entry blocked trees slots rest) (λ item. entry_into blocked trees rest (leaf_of item)) (one rest) (slots i name) (named name items) (stands name)
  where
    one : (rest : Path) (u : Slot) (item : Item) → leaf_in u ≡ leaf_of item → u.child ≡ None → slot_entry blocked trees slots rest u ≡ entry_into blocked trees rest (leaf_of item)
    one [] u item same none = ap Some same
    one (k ∷ more) u item same none = ap (λ o. child_or o (λ c. entry_from blocked trees slots c (k ∷ more)) (entry_into blocked trees (k ∷ more) (leaf_in u))) none ∙ ap (entry_into blocked trees (k ∷ more)) same

-- one node whose slots lead nowhere is a forest
pub one_tree : (slots : Slots) → ((m : Bytes) → child_of (slots 0 m) ≡ None) → ((i : ℕ) (m : Bytes) → 0 < i → slots i m ≡ None) → IsForest slots 1
one_tree slots fresh past = record {
  rooted = omega arith;
  forward = λ i n c e. absurd (no i n c e);
  within = λ i n c e. absurd (no i n c e);
  one = λ i j c n m e f. absurd (no i n c e);
}
  where
    no : (i : ℕ) (n : Bytes) (c : ℕ) → child_of (slots i n) ≡ Some c → ⊥
    no zero n c e = let none = fresh n in absurd (cc (sym none ∙ e))
    no (suc i) n c e = let none : child_of (slots (suc i) n) ≡ None = ap child_of (past (suc i) n (omega arith)) in absurd (cc (sym none ∙ e))
