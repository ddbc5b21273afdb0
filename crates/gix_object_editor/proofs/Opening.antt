-- Opening a stored tree changes no file, and links make a forest.
use Rattle.std.proofs.Common.{ℕ, suc, ◌≡◌, ◌<◌, ◌≤◌, ◌⊎◌, ◌&&◌, true, List, [], ◌∷◌, Option, Some, None, refl, sym, ap, subst, ◌∙◌, inl, inr, arith, if◌then◌else◌}
use Rattle.std.specs.Prelude.{bytes_eq, not}
use Rattle.std.proofs.lemmas.Bool.{cases_eq, cases_lt, cases_order}
use Rattle.gix_object_lookup.specs.Table.{Table}
use Rattle.gix_object_tree.specs.Entry.{Item}
use Rattle.gix_object_nodes.specs.declared.node.NodeId.{NodeId}
use Rattle.gix_object_nodes.specs.declared.node.Slot.{Slot}
use Rattle.gix_object_nodes.specs.Files.{Bytes, Path, Leaf, Trees, through, named, leaf_of, is_null, leads_on, tree_under, unless_tree, files_of_entry, entry_into}
use Rattle.gix_object_editor.specs.Stored.{HasStored, IsOpened}
use Rattle.gix_object_nodes.specs.Nodes.{Slots, child_or, child_of, leaf_in, files_of_slot, files_of_node, slot_entry, entry_from, IsForest, StandsFor, IsUnopened}
use Rattle.gix_object_nodes.proofs.Paths.{same_name, name_itself, by_test}
use Rattle.gix_object_nodes.proofs.Ways.{fewer}
use Rattle.gix_object_editor.proofs.Loaded.{tree_entry, tree_files}

-- both the number and the name, or not
pub at_or_off : (i j : ℕ) (n m : Bytes) → ((i ≡ j) × (n ≡ m)) ⊎ ((i ≡ j) → (n ≡ m) → ⊥)
at_or_off i j n m = elim (cases_eq i j) [
  | inl e ↦ elim (by_test (bytes_eq n m)) [
    | inl t ↦ inl (e, same_name n m t)
    | inr f ↦ inr (λ _ same. let yes : bytes_eq n m ≡ true = ap (bytes_eq n) (sym same) ∙ name_itself n in cc)
  ]
  | inr ne ↦ inr (λ e _. ne e)
]

-- an entry's slot has the same files where its opened tree has
same_child : (trees : Trees) (slots new : Slots) (child : Option NodeId) (m : Bytes) (more : Path) (x : Option Leaf)
    → ((c : ℕ) → child_or child (λ c. Some c) None ≡ Some c → files_of_node trees new c (m ∷ more) ≡ files_of_node trees slots c (m ∷ more))
    → child_or child (λ c. files_of_node trees new c (m ∷ more)) x ≡ child_or child (λ c. files_of_node trees slots c (m ∷ more)) x
same_child trees slots new None m more x h = refl
same_child trees slots new (Some c) m more x h = h c.0 refl

pub same_through : (trees : Trees) (slots new : Slots) (rest : Path) (o : Option Slot) → ((c : ℕ) → child_of o ≡ Some c → files_of_node trees new c rest ≡ files_of_node trees slots c rest)
    → through o (files_of_slot trees new rest) ≡ through o (files_of_slot trees slots rest)
same_through trees slots new rest None h = refl
same_through trees slots new [] (Some u) h = refl
same_through trees slots new (m ∷ more) (Some u) h = same_child trees slots new u.child m more (files_of_entry trees (m ∷ more) (leaf_in u)) h

below_slot : (bound : ℕ) (child : Option NodeId) (x y : Option Leaf) (F : ℕ → Option Leaf) → child_or child (λ c. Some c) None ≡ Some bound → F bound ≡ y → child_or child F x ≡ y
below_slot bound None x y F e h = absurd (cc e)
below_slot bound (Some c) x y F e h = let same : c.0 ≡ bound = cc in ap F same ∙ h

module _ (trees : Trees) (slots new : Slots) (bound : ℕ) (ok : IsForest slots bound) (j : ℕ) (name : Bytes) (s t : Slot) (items : List Item)
    (stood : slots j name ≡ Some s) (folder : IsUnopened s) (stored : trees (leaf_in s).id ≡ Some items)
    (stands : new j name ≡ Some t) (linked : child_of (Some t) ≡ Some bound)
    (opened : (m : Bytes) → StandsFor (new bound m) (named m items))
    (agree : (i : ℕ) (m : Bytes) → i < bound → ((i ≡ j) → (m ≡ name) → ⊥) → new i m ≡ slots i m) where
  leads : tree_under trees (leaf_in s) ≡ Some items
  leads = ap (λ b. if b then trees (leaf_in s).id else None) folder.is_tree ∙ stored

  at_slot : (rest : Path) → files_of_slot trees new rest t ≡ files_of_slot trees slots rest s
  at_slot [] =
      below_slot bound t.child (files_of_entry trees [] (leaf_in t)) None (λ c. None) linked refl
      ∙ sym (ap (λ o. child_or o (λ c. None) (files_of_entry trees [] (leaf_in s))) folder.closed
      ∙ ap (λ b. if b then None else unless_tree (tree_under trees (leaf_in s)) (leaf_in s)) folder.isnt_null
      ∙ ap (λ o. unless_tree o (leaf_in s)) leads)
  at_slot (m ∷ more) =
      below_slot bound t.child (files_of_entry trees (m ∷ more) (leaf_in t)) (files_of_node trees new bound (m ∷ more)) (λ c. files_of_node trees new c (m ∷ more)) linked refl
      ∙ tree_files trees new bound items opened (m ∷ more)
      ∙ sym (ap (λ o. child_or o (λ c. files_of_node trees slots c (m ∷ more)) (files_of_entry trees (m ∷ more) (leaf_in s))) folder.closed
      ∙ ap (λ b. if b then None else through (tree_under trees (leaf_in s)) (λ tree. through (named m tree) (λ item. files_of_entry trees more (leaf_of item)))) folder.isnt_null
      ∙ ap (λ o. through o (λ tree. through (named m tree) (λ item. files_of_entry trees more (leaf_of item)))) leads)

  -- no node's files change
  pub opens : (q : Path) (i : ℕ) → i < bound → files_of_node trees new i q ≡ files_of_node trees slots i q
  opens [] i lt = refl
  opens (n ∷ rest) i lt = elim (at_or_off i j n name) [
    | inl e ↦
        ap (λ k. through (new k n) (files_of_slot trees new rest)) e.0 ∙ ap (λ k. through (new j k) (files_of_slot trees new rest)) e.1
        ∙ ap (λ o. through o (files_of_slot trees new rest)) stands ∙ at_slot rest ∙ sym (ap (λ o. through o (files_of_slot trees slots rest)) stood)
        ∙ sym (ap (λ k. through (slots k n) (files_of_slot trees slots rest)) e.0 ∙ ap (λ k. through (slots j k) (files_of_slot trees slots rest)) e.1)
    | inr off ↦
        ap (λ o. through o (files_of_slot trees new rest)) (agree i n lt off)
        ∙ same_through trees slots new rest (slots i n) (λ c is. opens rest c (ok.within i n c is))
  ]

-- ---- the entries

same_child_entry : (blocked : Leaf → Option Leaf) (trees : Trees) (slots new : Slots) (child : Option NodeId) (m : Bytes) (more : Path) (x : Option Leaf)
    → ((c : ℕ) → child_or child (λ c. Some c) None ≡ Some c → entry_from blocked trees new c (m ∷ more) ≡ entry_from blocked trees slots c (m ∷ more))
    → child_or child (λ c. entry_from blocked trees new c (m ∷ more)) x ≡ child_or child (λ c. entry_from blocked trees slots c (m ∷ more)) x
same_child_entry blocked trees slots new None m more x h = refl
same_child_entry blocked trees slots new (Some c) m more x h = h c.0 refl

pub same_entries : (blocked : Leaf → Option Leaf) (trees : Trees) (slots new : Slots) (rest : Path) (o : Option Slot) → ((c : ℕ) → child_of o ≡ Some c → entry_from blocked trees new c rest ≡ entry_from blocked trees slots c rest)
    → through o (slot_entry blocked trees new rest) ≡ through o (slot_entry blocked trees slots rest)
same_entries blocked trees slots new rest None h = refl
same_entries blocked trees slots new [] (Some u) h = refl
same_entries blocked trees slots new (m ∷ more) (Some u) h = same_child_entry blocked trees slots new u.child m more (entry_into blocked trees (m ∷ more) (leaf_in u)) h

module _ (blocked : Leaf → Option Leaf) (trees : Trees) (slots new : Slots) (bound : ℕ) (ok : IsForest slots bound) (j : ℕ) (name : Bytes) (s t : Slot) (items : List Item)
    (stood : slots j name ≡ Some s) (folder : IsUnopened s) (stored : trees (leaf_in s).id ≡ Some items)
    (stands : new j name ≡ Some t) (linked : child_of (Some t) ≡ Some bound) (leaf : leaf_in t ≡ leaf_in s)
    (opened : (m : Bytes) → StandsFor (new bound m) (named m items))
    (agree : (i : ℕ) (m : Bytes) → i < bound → ((i ≡ j) → (m ≡ name) → ⊥) → new i m ≡ slots i m) where
  names_tree : leads_on (leaf_in s) ≡ true
  names_tree = ap (λ b. b && not (is_null (leaf_in s).id)) folder.is_tree ∙ ap not folder.isnt_null

  entry_there : (rest : Path) → slot_entry blocked trees new rest t ≡ slot_entry blocked trees slots rest s
  entry_there [] = ap Some leaf
  entry_there (m ∷ more) =
      below_slot bound t.child (entry_into blocked trees (m ∷ more) (leaf_in t)) (entry_from blocked trees new bound (m ∷ more)) (λ c. entry_from blocked trees new c (m ∷ more)) linked refl
      ∙ tree_entry blocked trees new bound items opened m more
      ∙ sym (ap (λ o. child_or o (λ c. entry_from blocked trees slots c (m ∷ more)) (entry_into blocked trees (m ∷ more) (leaf_in s))) folder.closed
      ∙ ap (λ b. if b then through (trees (leaf_in s).id) (λ tree. through (named m tree) (λ item. entry_into blocked trees more (leaf_of item))) else blocked (leaf_in s)) names_tree
      ∙ ap (λ o. through o (λ tree. through (named m tree) (λ item. entry_into blocked trees more (leaf_of item)))) stored)

  -- no entry changes
  pub opens_entries : (q : Path) (i : ℕ) → i < bound → entry_from blocked trees new i q ≡ entry_from blocked trees slots i q
  opens_entries [] i lt = refl
  opens_entries (n ∷ rest) i lt = elim (at_or_off i j n name) [
    | inl e ↦
        ap (λ k. through (new k n) (slot_entry blocked trees new rest)) e.0 ∙ ap (λ k. through (new j k) (slot_entry blocked trees new rest)) e.1
        ∙ ap (λ o. through o (slot_entry blocked trees new rest)) stands ∙ entry_there rest ∙ sym (ap (λ o. through o (slot_entry blocked trees slots rest)) stood)
        ∙ sym (ap (λ k. through (slots k n) (slot_entry blocked trees slots rest)) e.0 ∙ ap (λ k. through (slots j k) (slot_entry blocked trees slots rest)) e.1)
    | inr off ↦
        ap (λ o. through o (slot_entry blocked trees new rest)) (agree i n lt off)
        ∙ same_entries blocked trees slots new rest (slots i n) (λ c is. opens_entries rest c (ok.within i n c is))
  ]

-- ---- forests

-- one link more, to a tree that none led to
pub linked_more : (slots new : Slots) (bound : ℕ) → IsForest slots bound → (j : ℕ) (name : Bytes) (c : ℕ) → j < c → c < bound
    → ((i : ℕ) (n : Bytes) → child_of (slots i n) ≡ Some c → ⊥)
    → ((i : ℕ) (n : Bytes) (d : ℕ) → child_of (new i n) ≡ Some d → ((i ≡ j) × (n ≡ name) × (d ≡ c)) ⊎ (child_of (slots i n) ≡ Some d))
    → IsForest new bound
linked_more slots new bound ok j name c above below free h = record {
  rooted = ok.rooted;
  forward = λ i n d e. elim (h i n d e) [ inl x ↦ let a = x.0 in let b = x.2 in omega arith | inr o ↦ ok.forward i n d o ];
  within = λ i n d e. elim (h i n d e) [ inl x ↦ let b = x.2 in omega arith | inr o ↦ ok.within i n d o ];
  one = λ i k d n m e f. elim (h i n d e) [
    | inl x ↦ elim (h k m d f) [
      | inl y ↦ (x.0 ∙ sym y.0, x.1 ∙ sym y.1)
      | inr o ↦ absurd (free k m (o ∙ ap (λ z. Some z) x.2))
    ]
    | inr o ↦ elim (h k m d f) [
      | inl y ↦ absurd (free i n (o ∙ ap (λ z. Some z) y.2))
      | inr p ↦ ok.one i k d n m o p
    ]
  ];
}

-- ---- trees that are opened

pub as_function : (f g : Slots) → ((i : ℕ) (m : Bytes) → f i m ≡ g i m) → f ≡ g
as_function f g h = λ i. λ n m. h n m i

pub opened_none : (honest : Type 0) (table : Table) (slots : Slots) (bound : ℕ) → IsForest slots bound → IsOpened honest table slots slots bound bound
opened_none honest table slots bound ok = record {
  longer = omega arith;
  forest = ok;
  links = λ i m c e. e;
  files = λ h trees has q i lt. refl;
  entries = λ h trees has blocked q i lt. refl;
  leaves = λ i m s lt is. (s, is, refl);
  fresh = λ i m s c is link. inl (ap child_of is ∙ link);
}

pub opened_same : (honest : Type 0) (table : Table) (old new : Slots) (bound more : ℕ) → IsForest old bound → bound ≡ more → ((i : ℕ) (m : Bytes) → new i m ≡ old i m) → IsOpened honest table old new bound more
opened_same honest table old new bound more ok e same =
    subst (λ n. IsOpened honest table old new bound n) e (subst (λ f. IsOpened honest table old f bound bound) (sym (as_function new old same)) (opened_none honest table old bound ok))

pub opened_then : (honest : Type 0) (table : Table) (a b c : Slots) (k l m : ℕ) → IsOpened honest table a b k l → IsOpened honest table b c l m → IsOpened honest table a c k m
opened_then honest table a b c k l m first second = record {
  longer = let f = first.longer in let s = second.longer in omega arith;
  forest = second.forest;
  links = λ i n d e. second.links i n d (first.links i n d e);
  files = λ h trees has q i lt. let f = first.longer in let less : i < l = omega arith in second.files h trees has q i less ∙ first.files h trees has q i lt;
  entries = λ h trees has blocked q i lt. let f = first.longer in let less : i < l = omega arith in second.entries h trees has blocked q i less ∙ first.entries h trees has blocked q i lt;
  leaves = λ i n s lt is.
      let f = first.longer in
      let less : i < l = omega arith in
      let one = first.leaves i n s lt is in
      let two = second.leaves i n one.0 less one.1 in
      (two.0, two.1, two.2 ∙ one.2);
  fresh = λ i n t d is link. elim (second.fresh i n t d is link) [
    | inr tree ↦ inr tree
    | inl before ↦ by_slot i n t d is before (b i n) refl
  ];
}
  where
    one_slot : (s t : Slot) → Some s ≡ Some t → s ≡ t
    one_slot s t e = cc

    by_slot : (i : ℕ) (n : Bytes) (t : Slot) (d : ℕ) → c i n ≡ Some t → child_of (b i n) ≡ Some d → (o : Option Slot) → b i n ≡ o → (child_of (a i n) ≡ Some d) ⊎ (leads_on (leaf_in t) ≡ true)
    by_slot i n t d is before None there = absurd (cc (sym (ap child_of there) ∙ before))
    by_slot i n t d is before (Some s) there = elim (first.fresh i n s d there (sym (ap child_of there) ∙ before)) [
      | inl old ↦ inl old
      | inr tree ↦
          let up : i < d = first.forest.forward i n d before in
          let in_it : d < l = first.forest.within i n d before in
          let less : i < l = omega (arith, up, in_it) in
          let kept = second.leaves i n s less there in
          inr (ap (λ u. leads_on (leaf_in u)) (one_slot t kept.0 (sym is ∙ kept.1)) ∙ ap leads_on kept.2 ∙ tree)
    ]

-- one tree more, from the slot of a folder
pub opened_one : (honest : Type 0) (table : Table) (slots new : Slots) (bound more : ℕ) → IsForest slots bound → more ≡ suc bound
    → (j : ℕ) (name : Bytes) (s t : Slot) → j < bound → slots j name ≡ Some s → IsUnopened s
    → (honest → (items : List Item) × ((m : Bytes) → StandsFor (new bound m) (named m items)) × ((trees : Trees) → HasStored table trees → trees (leaf_in s).id ≡ Some items))
    → new j name ≡ Some t → child_of (Some t) ≡ Some bound → leaf_in t ≡ leaf_in s → ((m : Bytes) → child_of (new bound m) ≡ None)
    → ((i : ℕ) (m : Bytes) → i < bound → ((i ≡ j) → (m ≡ name) → ⊥) → new i m ≡ slots i m)
    → ((i : ℕ) (m : Bytes) → bound < i → new i m ≡ None)
    → ((i : ℕ) (m : Bytes) → bound ≤ i → slots i m ≡ None)
    → IsOpened honest table slots new bound more
opened_one honest table slots new bound more ok next j name s t lt stood folder loaded stands linked leaf fresh agree past empty = record {
  longer = omega arith;
  forest = subst (IsForest new) (sym next) (linked_more slots new (suc bound) wider j name bound lt (omega arith) free split);
  links = kept;
  files = λ h trees has q i less.
      let tree = loaded h in
      opens trees slots new bound ok j name s t tree.0 stood folder (tree.2 trees has) stands linked tree.1 agree q i less;
  entries = λ h trees has blocked q i less.
      let tree = loaded h in
      opens_entries blocked trees slots new bound ok j name s t tree.0 stood folder (tree.2 trees has) stands linked leaf tree.1 agree q i less;
  leaves = λ i m u less is. elim (at_or_off i j m name) [
    | inl x ↦
        let at : slots i m ≡ Some s = ap (λ k. slots k m) x.0 ∙ ap (slots j) x.1 ∙ stood in
        (t, ap (λ k. new k m) x.0 ∙ ap (new j) x.1 ∙ stands, leaf ∙ ap leaf_in (one_slot s u (sym at ∙ is)))
    | inr off ↦ (u, agree i m less off ∙ is, refl)
  ];
  fresh = λ i m u c is link. elim (cases_order i bound) [
    | inr (inl less) ↦ elim (at_or_off i j m name) [
      | inl x ↦
          let at : new i m ≡ Some t = ap (λ k. new k m) x.0 ∙ ap (new j) x.1 ∙ stands in
          inr (ap (λ v. leads_on (leaf_in v)) (one_slot u t (sym is ∙ at)) ∙ ap leads_on leaf ∙ names_it)
      | inr off ↦ inl (ap child_of (sym (agree i m less off) ∙ is) ∙ link)
    ]
    | inl same ↦
        let none : child_of (new i m) ≡ None = ap (λ k. child_of (new k m)) same ∙ fresh m in
        absurd (cc (sym none ∙ ap child_of is ∙ link))
    | inr (inr above) ↦ absurd (cc (sym (past i m above) ∙ is))
  ];
}
  where
    one_slot : (s t : Slot) → Some s ≡ Some t → s ≡ t
    one_slot s t e = cc

    names_it : leads_on (leaf_in s) ≡ true
    names_it = ap (λ b. b && not (is_null (leaf_in s).id)) folder.is_tree ∙ ap not folder.isnt_null

    wider : IsForest slots (suc bound)
    wider = let le : bound ≤ suc bound = omega arith in fewer slots slots bound (suc bound) ok le (λ i n c e. e)

    free : (i : ℕ) (n : Bytes) → child_of (slots i n) ≡ Some bound → ⊥
    free i n e = let w = ok.within i n bound e in omega arith

    inside : (i : ℕ) (m : Bytes) (c : ℕ) → child_of (slots i m) ≡ Some c → i < bound
    inside i m c e = elim (cases_lt i bound) [
      | inl less ↦ less
      | inr le ↦ let none : child_of (slots i m) ≡ None = ap child_of (empty i m le) in absurd (cc (sym none ∙ e))
    ]

    closed_child : child_of (slots j name) ≡ None
    closed_child = ap child_of stood ∙ ap (λ o. child_or o (λ c. Some c) None) folder.closed

    kept : (i : ℕ) (m : Bytes) (c : ℕ) → child_of (slots i m) ≡ Some c → child_of (new i m) ≡ Some c
    kept i m c e = elim (at_or_off i j m name) [
      | inl x ↦
          let here : child_of (slots i m) ≡ None = ap (λ k. child_of (slots k m)) x.0 ∙ ap (λ k. child_of (slots j k)) x.1 ∙ closed_child in
          absurd (cc (sym here ∙ e))
      | inr off ↦ let less : i < bound = inside i m c e in ap child_of (agree i m less off) ∙ e
    ]

    split : (i : ℕ) (n : Bytes) (d : ℕ) → child_of (new i n) ≡ Some d → ((i ≡ j) × (n ≡ name) × (d ≡ bound)) ⊎ (child_of (slots i n) ≡ Some d)
    split i n d e = elim (cases_order i bound) [
      | inr (inl less) ↦ elim (at_or_off i j n name) [
        | inl x ↦
            let here : child_of (new i n) ≡ Some bound = ap (λ k. child_of (new k n)) x.0 ∙ ap (λ k. child_of (new j k)) x.1 ∙ ap child_of stands ∙ linked in
            let same : d ≡ bound = cc in
            inl (x.0, x.1, same)
        | inr off ↦ inr (ap child_of (sym (agree i n less off)) ∙ e)
      ]
      | inl same ↦
          let none : child_of (new i n) ≡ None = ap (λ k. child_of (new k n)) same ∙ fresh n in
          absurd (cc (sym none ∙ e))
      | inr (inr above) ↦
          let none : child_of (new i n) ≡ None = ap child_of (past i n above) in
          absurd (cc (sym none ∙ e))
    ]
