-- The entries after an edit.
use Rattle.std.proofs.Common.{ℕ, ◌≡◌, ◌≢◌, ◌<◌, ◌+◌, ◌⊎◌, ◌++◌, inl, inr, true, false, List, [], ◌∷◌, Option, Some, None, refl, sym, ap, subst, ◌∙◌, arith, length, get_or, drop, if◌then◌else◌}
use Rattle.std.specs.Prelude.{bytes_eq, is_some}
use Rattle.gix_hash.specs.declared.kind.Kind.{Kind}
use Rattle.gix_object_tree.specs.Entry.{Item}
use Rattle.gix_object_lookup.specs.Table.{Table}
use Rattle.gix_object_nodes.specs.declared.node.Slot.{Slot}
use Rattle.gix_object_nodes.specs.Files.{Bytes, Path, Leaf, Trees, behind, removed, through, named, entry_into, entry_of_tree}
use Rattle.gix_object_editor.specs.Stored.{HasStored, IsOpened}
use Rattle.gix_object_nodes.specs.Nodes.{Slots, child_or, child_of, leaf_in, slot_entry, entry_from, slot_over, StandsFor, IsForest, IsNoFolder, Way, onto, LeadsTo}
use Rattle.gix_object_editor.specs.Laid.{laid, laid_at, made_at}
use Rattle.gix_object_editor.specs.Entries.{made_leaf}
use Rattle.gix_object_editor.specs.Editor.{IsTreeEntry}
use Rattle.gix_object_editor.proofs.Loaded.{tree_entry}
use Rattle.gix_object_editor.proofs.Opening.{same_entries}
use Rattle.gix_object_nodes.proofs.Paths.{same_name, name_itself, by_test, onto-onto, behind_is, behind_append, behind_both, behind-longer, onto-append, behind-onto}
use Rattle.std.specs.Borrow.{Bor}
use Rattle.gix_object_editor.proofs.Walked.{names}
use Rattle.gix_object_editor.proofs.Standing.{entry_below, blocked_entry, slot_below}
use Rattle.gix_object_nodes.proofs.Ways.{unique}
use Rattle.gix_object_editor.proofs.SlotChange.{way_above, way_kept}

abbrev pub none_met : Leaf → Option Leaf
none_met l = None

within_way : (slots : Slots) (bound : ℕ) → IsForest slots bound → (way : Path) (j : ℕ) → Way slots way j → j < bound
within_way slots bound ok [] j w = subst (λ k. k < bound) w ok.rooted
within_way slots bound ok (n ∷ way) j w = ok.within w.0 n j w.2

-- ---- a change of one slot, beside nodes that are put after the others

module _ (trees : Trees) (slots new : Slots) (bound : ℕ) (ok : IsForest slots bound) (j : ℕ) (name : Bytes) (way : Path) (reached : Way slots way j)
    (agree : (i : ℕ) (m : Bytes) → i < bound → ((i ≡ j) → (m ≡ name) → ⊥) → new i m ≡ slots i m) where
  -- paths that don't pass the slot keep their entries
  elsewhere_entry : (q : Path) (i : ℕ) (r : Path) → i < bound → Way slots r i → ((a b : Path) → q ≡ a ++ name ∷ b → onto a r ≡ way → ⊥)
      → entry_from none_met trees new i q ≡ entry_from none_met trees slots i q
  elsewhere_entry [] i r lt w apart = refl
  elsewhere_entry (n ∷ rest) i r lt w apart =
      let off : (i ≡ j) → (n ≡ name) → ⊥ = λ at same.
      let here : Way slots r j = subst (λ k. Way slots r k) at w in
      apart [] rest (ap (λ k. k ∷ rest) same) (unique slots bound ok r way j here reached) in
      ap (λ o. through o (slot_entry none_met trees new rest)) (agree i n lt off)
      ∙ same_entries none_met trees slots new rest (slots i n)
      (λ c is. elsewhere_entry rest c (n ∷ r) (ok.within i n c is) (i, w, is) (λ a b e at. apart (n ∷ a) b (ap (λ l. n ∷ l) e) at))

  pub other_entries : (q : Path) → behind (onto way (name ∷ [])) q ≡ None → entry_from none_met trees new 0 q ≡ entry_from none_met trees slots 0 q
  other_entries q none = elsewhere_entry q 0 [] ok.rooted refl (λ a b e at.
      let path : onto way (name ∷ []) ≡ a ++ name ∷ [] = ap (λ w. onto w (name ∷ [])) (sym at) ∙ onto-onto a [] (name ∷ []) in
      let found : behind (a ++ name ∷ []) (a ++ name ∷ b) ≡ Some b = behind_append a (name ∷ []) (name ∷ b) ∙ ap (λ t. if t then Some b else None) (name_itself name) in
      let one : behind (onto way (name ∷ [])) q ≡ Some b = ap (λ p. behind p q) path ∙ ap (behind (a ++ name ∷ [])) e ∙ found in
      cc)

  below : j < bound
  below = within_way slots bound ok way j reached

  pub way_stays : Way new way j
  way_stays = way_above slots new bound j ok
      (λ i m lt. let less : i < bound = omega (arith, lt, below) in agree i m less (λ e _. absurd (omega (arith, e, lt)))) way j (omega arith) reached

  -- the others lead to the new slot's entry
  pub entry_here : (q rest : Path) → behind (onto way (name ∷ [])) q ≡ Some rest → entry_from none_met trees new 0 q ≡ through (new j name) (slot_entry none_met trees new rest)
  entry_here q rest is =
      let at : q ≡ onto way (name ∷ rest) = behind_is (onto way (name ∷ [])) q rest is ∙ sym (onto-append way (name ∷ []) rest) in
      ap (entry_from none_met trees new 0) at ∙ entry_below none_met trees new way j name rest way_stays

  -- a slot that is taken out takes the entries at and below its path along
  pub cut_entries : new j name ≡ None → (q : Path) → entry_from none_met trees new 0 q ≡ removed (onto way (name ∷ [])) (entry_from none_met trees slots 0) q
  cut_entries gone q = by_case (behind (onto way (name ∷ [])) q) refl
    where
      by_case : (o : Option Path) → behind (onto way (name ∷ [])) q ≡ o → entry_from none_met trees new 0 q ≡ (if is_some o then None else entry_from none_met trees slots 0 q)
      by_case None e = other_entries q e
      by_case (Some rest) e = entry_here q rest e ∙ ap (λ o. through o (slot_entry none_met trees new rest)) gone

  -- an entry that is put into the slot, or in folders below it
  pub laid_entries : (leaf : Leaf) (more : Path) → ((rest : Path) → through (new j name) (slot_entry none_met trees new rest) ≡ laid trees leaf more rest)
      → (q : Path) → entry_from none_met trees new 0 q ≡ laid_at trees leaf more (behind (onto way (name ∷ [])) q) (entry_from none_met trees slots 0 q)
  laid_entries leaf more is q = by_case (behind (onto way (name ∷ [])) q) refl
    where
      by_case : (o : Option Path) → behind (onto way (name ∷ [])) q ≡ o → entry_from none_met trees new 0 q ≡ laid_at trees leaf more o (entry_from none_met trees slots 0 q)
      by_case None e = other_entries q e
      by_case (Some rest) e = entry_here q rest e ∙ is rest

-- an entry for which no tree is opened
pub closed_entry : (trees : Trees) (slots : Slots) (s : Slot) → s.child ≡ None → (rest : Path) → slot_entry none_met trees slots rest s ≡ entry_into none_met trees rest (leaf_in s)
closed_entry trees slots s closed [] = refl
closed_entry trees slots s closed (m ∷ rest) = ap (λ o. child_or o (λ c. entry_from none_met trees slots c (m ∷ rest)) (entry_into none_met trees (m ∷ rest) (leaf_in s))) closed

-- ---- folders that are made by an entry below them that is taken out again

pub not_flipped : (x m : Bytes) → bytes_eq x m ≡ false → bytes_eq m x ≡ false
not_flipped x m f = elim (by_test (bytes_eq m x)) [
  | inr g ↦ g
  | inl t ↦ let yes : bytes_eq x m ≡ true = ap (bytes_eq x) (same_name m x t) ∙ name_itself x in absurd (cc (sym yes ∙ f))
]

pub flipped : (x m : Bytes) → bytes_eq x m ≡ true → bytes_eq m x ≡ true
flipped x m t = ap (bytes_eq m) (same_name x m t) ∙ name_itself m

unlaid : (trees : Trees) (leaf : Leaf) (x : Bytes) (more rest : Path)
    → (if is_some (behind (more ++ x ∷ []) rest) then None else laid trees leaf (more ++ x ∷ []) rest) ≡ (if is_some (behind rest more) then Some (made_leaf leaf.id.kind) else None)
unlaid trees leaf x [] [] = refl
unlaid trees leaf x [] (k ∷ rest) = elim (by_test (bytes_eq x k)) [
  | inl t ↦ ap (λ b. if is_some (if b then Some rest else None) then None else if b then laid trees leaf [] rest else None) t
  | inr f ↦ ap (λ b. if is_some (if b then Some rest else None) then None else if b then laid trees leaf [] rest else None) f
]
unlaid trees leaf x (n ∷ more) [] = refl
unlaid trees leaf x (n ∷ more) (k ∷ rest) = elim (by_test (bytes_eq n k)) [
  | inl t ↦
      ap (λ b. if is_some (if b then behind (more ++ x ∷ []) rest else None) then None else if b then laid trees leaf (more ++ x ∷ []) rest else None) t
      ∙ unlaid trees leaf x more rest ∙ sym (ap (λ b. if is_some (if b then behind rest more else None) then Some (made_leaf leaf.id.kind) else None) (flipped n k t))
  | inr f ↦
      ap (λ b. if is_some (if b then behind (more ++ x ∷ []) rest else None) then None else if b then laid trees leaf (more ++ x ∷ []) rest else None) f
      ∙ sym (ap (λ b. if is_some (if b then behind rest more else None) then Some (made_leaf leaf.id.kind) else None) (not_flipped n k f))
]

-- what is left of them where the entry is taken out of the last
pub made_entries : (trees : Trees) (leaf : Leaf) (way : Path) (first x : Bytes) (more : Path) (old : Path → Option Leaf) (q : Path)
    → removed (onto way (first ∷ (more ++ x ∷ []))) (λ r. laid_at trees leaf (more ++ x ∷ []) (behind (onto way (first ∷ [])) r) (old r)) q
    ≡ made_at leaf.id.kind more (behind (onto way (first ∷ [])) q) (old q)
made_entries trees leaf way first x more old q = by_case (behind (onto way (first ∷ [])) q) refl
  where
    by_case : (o : Option Path) → behind (onto way (first ∷ [])) q ≡ o
        → (if is_some (behind (onto way (first ∷ (more ++ x ∷ []))) q) then None else laid_at trees leaf (more ++ x ∷ []) (behind (onto way (first ∷ [])) q) (old q)) ≡ made_at leaf.id.kind more (behind (onto way (first ∷ [])) q) (old q)
    by_case None e =
        let longer : behind (onto way (first ∷ (more ++ x ∷ []))) q ≡ None = ap (λ p. behind p q) (onto-append way (first ∷ []) (more ++ x ∷ [])) ∙ behind-longer (onto way (first ∷ [])) (more ++ x ∷ []) q e in
        ap (λ o. if is_some o then None else laid_at trees leaf (more ++ x ∷ []) (behind (onto way (first ∷ [])) q) (old q)) longer
        ∙ ap (λ o. laid_at trees leaf (more ++ x ∷ []) o (old q)) e ∙ sym (ap (λ o. made_at leaf.id.kind more o (old q)) e)
    by_case (Some rest) e =
        let at : q ≡ onto way (first ∷ rest) = behind_is (onto way (first ∷ [])) q rest e ∙ sym (onto-append way (first ∷ []) rest) in
        let one : behind (onto way (first ∷ (more ++ x ∷ []))) q ≡ behind (more ++ x ∷ []) rest =
        ap (behind (onto way (first ∷ (more ++ x ∷ [])))) at ∙ behind-onto way (first ∷ (more ++ x ∷ [])) (first ∷ rest) ∙ behind_both first (more ++ x ∷ []) rest in
        ap (λ o. if is_some o then None else laid_at trees leaf (more ++ x ∷ []) (behind (onto way (first ∷ [])) q) (old q)) one
        ∙ ap (λ o. if is_some (behind (more ++ x ∷ []) rest) then None else laid_at trees leaf (more ++ x ∷ []) o (old q)) e
        ∙ unlaid trees leaf x more rest ∙ sym (ap (λ o. made_at leaf.id.kind more o (old q)) e)

pub names_drop : (path : List (Bor (List ℕ))) → names (drop 1 path) ≡ drop 1 (names path)
names_drop [] = refl
names_drop (p ∷ path) = refl

pub made_then : (trees : Trees) (leaf : Leaf) (way p s : Path) → s ≡ p ++ [] ∷ [] → 0 < length p → (old : Path → Option Leaf) (q : Path) (x : Option Leaf)
    → x ≡ laid_at trees leaf (drop 1 s) (behind (onto way (get_or s 0 [] ∷ [])) q) (old q)
    → (if is_some (behind (onto way p ++ [] ∷ []) q) then None else x) ≡ made_at leaf.id.kind (drop 1 p) (behind (onto way (get_or p 0 [] ∷ [])) q) (old q)
made_then trees leaf way [] s e some old q x h = absurd (omega (arith, some))
made_then trees leaf way (n ∷ p) s e some old q x h =
    ap (λ y. if is_some (behind (onto way (n ∷ p) ++ [] ∷ []) q) then None else y) (h ∙ ap (λ t. laid_at trees leaf (drop 1 t) (behind (onto way (get_or t 0 [] ∷ [])) q) (old q)) e)
    ∙ ap (λ w. if is_some (behind w q) then None else laid_at trees leaf (p ++ [] ∷ []) (behind (onto way (n ∷ [])) q) (old q)) (sym (onto-append way (n ∷ p) ([] ∷ [])))
    ∙ made_entries trees leaf way n [] p old q

-- ---- what is laid lies on the path or below its end

pub laid_off : (trees : Trees) (leaf : Leaf) (left r : Path) → behind left r ≡ None → behind r left ≡ None → laid trees leaf left r ≡ None
laid_off trees leaf [] r e f = absurd (cc e)
laid_off trees leaf (n ∷ left) [] e f = absurd (cc f)
laid_off trees leaf (n ∷ left) (k ∷ r) e f = elim (by_test (bytes_eq n k)) [
  | inr isnt ↦ ap (λ b. if b then laid trees leaf left r else None) isnt
  | inl t ↦
      ap (λ b. if b then laid trees leaf left r else None) t
      ∙ laid_off trees leaf left r (sym (ap (λ b. if b then behind left r else None) t) ∙ e) (sym (ap (λ b. if b then behind r left else None) (flipped n k t)) ∙ f)
]

-- ---- what isn't in the way of a path

-- no names are left of a path with one more
not_none : (way : Path) (name : Bytes) (rest : Path) → onto way (name ∷ rest) ≡ [] → ⊥
not_none [] name rest e = cc e
not_none (n ∷ way) name rest e = not_none way n (name ∷ rest) e

-- the slot of an opened tree leads to it
opened_slot : (slots : Slots) (q : Path) (j : ℕ) → LeadsTo slots q j [] → q ≢ [] → child_of (slot_over slots 0 q) ≡ Some j
opened_slot slots q j leads some = by_way leads.0 leads.1 leads.2
  where
    by_way : (way : Path) → Way slots way j → onto way [] ≡ q → child_of (slot_over slots 0 q) ≡ Some j
    by_way [] w e = absurd (some (sym e))
    by_way (n ∷ way) w e = ap (λ p. child_of (slot_over slots 0 p)) (sym e) ∙ ap child_of (slot_below slots way w.0 n [] w.1) ∙ w.2

-- no tree is opened where there is no folder, nor below it
unopened_slot : (o : Option Slot) → IsNoFolder o → child_of o ≡ None
unopened_slot None plain = refl
unopened_slot (Some s) plain = ap (λ c. child_or c (λ k. Some k) None) (plain s refl).0

unopened_below : (slots : Slots) (at : ℕ) (name : Bytes) (r : Path) → IsNoFolder (slots at name) → child_of (slot_over slots at (name ∷ r)) ≡ None
unopened_below slots at name [] plain = unopened_slot (slots at name) plain
unopened_below slots at name (k ∷ r) plain = ap (λ o. child_of (through o (λ c. slot_over slots c (k ∷ r)))) (unopened_slot (slots at name) plain)

module _ (trees : Trees) (slots : Slots) where
  no_entry : (o : Option Slot) (r : Path) → IsNoFolder o → r ≢ [] → through o (slot_entry none_met trees slots r) ≡ None
  no_entry None r plain some = refl
  no_entry (Some s) [] plain some = absurd (some refl)
  no_entry (Some s) (k ∷ r) plain some = blocked_entry none_met trees slots s k r (plain s refl).0 (plain s refl).1

  no_tree : (o : Option Slot) (r : Path) → IsNoFolder o → IsTreeEntry (through o (slot_entry none_met trees slots r)) → ⊥
  no_tree None r plain h = h
  no_tree (Some s) [] plain h = cc (sym h ∙ (plain s refl).1)
  no_tree (Some s) (k ∷ r) plain h = subst IsTreeEntry (blocked_entry none_met trees slots s k r (plain s refl).0 (plain s refl).1) h

longer_some : (m : Bytes) (p r : Path) → (m ∷ p) ++ r ≢ []
longer_some m p r = λ e. cc e

module _ (honest : Type 0) (table : Table) (old mid : Slots) (bound more : ℕ) (ok : IsForest old bound) (opened : IsOpened honest table old mid bound more) (path : Path) (at : ℕ) (name : Bytes) (left rest : Path)
    (leads : LeadsTo mid path at rest) (is : rest ≡ name ∷ left) (h : honest) (trees : Trees) (has : HasStored table trees) where
  path_is : onto leads.0 (name ∷ left) ≡ path
  path_is = ap (onto leads.0) (sym is) ∙ leads.2

  -- what was there, before trees were opened
  before : (q : Path) → entry_from none_met trees mid 0 q ≡ entry_from none_met trees old 0 q
  before q = opened.entries h trees has none_met q 0 ok.rooted

  there : (q r : Path) → q ≡ onto leads.0 (name ∷ r) → entry_from none_met trees old 0 q ≡ through (mid at name) (slot_entry none_met trees mid r)
  there q r e = sym (before q) ∙ ap (entry_from none_met trees mid 0) e ∙ entry_below none_met trees mid leads.0 at name r leads.1

  -- no folder is where none is after trees were opened, nor below it
  no_folder : IsNoFolder (mid at name) → (q r : Path) → q ≡ onto leads.0 (name ∷ r) → ((j : ℕ) × LeadsTo old q j []) ⊎ IsTreeEntry (entry_from none_met trees old 0 q) → ⊥
  no_folder plain q r e (inl to) =
      let kept : LeadsTo mid q to.0 [] = (to.1.0, way_kept old mid opened.links to.1.0 to.0 to.1.1, to.1.2) in
      let some = opened_slot mid q to.0 kept (λ gone. not_none leads.0 name r (sym e ∙ gone)) in
      let none = ap (λ p. child_of (slot_over mid 0 p)) e ∙ ap child_of (slot_below mid leads.0 at name r leads.1) ∙ unopened_below mid at name r plain in
      absurd (cc (sym some ∙ none))
  no_folder plain q r e (inr tree) = no_tree trees mid (mid at name) r plain (subst IsTreeEntry (there q r e) tree)

  pub no_folder_at_end : IsNoFolder (mid at name) → ((j : ℕ) × LeadsTo old path j []) ⊎ IsTreeEntry (entry_from none_met trees old 0 path) → ⊥
  no_folder_at_end plain stands = no_folder plain path left (sym path_is) stands

  -- ---- removals

  pub removes_entries : (new : Slots) → left ≡ [] → ((q : Path) → entry_from none_met trees new 0 q ≡ removed (onto leads.0 (name ∷ [])) (entry_from none_met trees mid 0) q)
      → (q : Path) → entry_from none_met trees new 0 q ≡ removed path (entry_from none_met trees old 0) q
  removes_entries new last cuts q =
      cuts q
      ∙ ap (λ x. if is_some (behind (onto leads.0 (name ∷ [])) q) then None else x) (before q)
      ∙ ap (λ p. removed p (entry_from none_met trees old 0) q) (ap (λ l. onto leads.0 (name ∷ l)) (sym last) ∙ path_is)

  pub removes_no_entries : IsNoFolder (mid at name) → (m : Bytes) (k : Path) → left ≡ m ∷ k → (q : Path) → entry_from none_met trees mid 0 q ≡ removed path (entry_from none_met trees old 0) q
  removes_no_entries plain m k some q = by_case (behind path q) refl
    where
      by_case : (o : Option Path) → behind path q ≡ o → entry_from none_met trees mid 0 q ≡ (if is_some o then None else entry_from none_met trees old 0 q)
      by_case None e = before q
      by_case (Some r) e =
          let at_q : q ≡ onto leads.0 (name ∷ ((m ∷ k) ++ r)) =
          behind_is path q r e ∙ ap (λ p. p ++ r) (sym path_is ∙ ap (λ l. onto leads.0 (name ∷ l)) some) ∙ sym (onto-append leads.0 (name ∷ m ∷ k) r) in
          ap (entry_from none_met trees mid 0) at_q ∙ entry_below none_met trees mid leads.0 at name ((m ∷ k) ++ r) leads.1
          ∙ no_entry trees mid (mid at name) ((m ∷ k) ++ r) plain (longer_some m k r)

  -- ---- what isn't in the way

  module _ (q : Path) (free : (r : Path) → q ++ r ≡ path → ((j : ℕ) × LeadsTo old q j []) ⊎ IsTreeEntry (entry_from none_met trees old 0 q)) where
    at_name : (r : Path) → behind (onto leads.0 (name ∷ [])) q ≡ Some r → q ≡ onto leads.0 (name ∷ r)
    at_name r e = behind_is (onto leads.0 (name ∷ [])) q r e ∙ sym (onto-append leads.0 (name ∷ []) r)

    -- it isn't on the path, and nothing was there
    unmet : IsNoFolder (mid at name) → (r : Path) → behind (onto leads.0 (name ∷ [])) q ≡ Some r → (behind r left ≡ None) × (entry_from none_met trees old 0 q ≡ None)
    unmet plain r e = (off, there q r (at_name r e) ∙ no_entry trees mid (mid at name) r plain (λ none. cc (sym (ap (λ p. behind p left) none) ∙ off)))
      where
        by_case : (o : Option Path) → behind r left ≡ o → behind r left ≡ None
        by_case None f = f
        by_case (Some t) f =
            let on : q ++ t ≡ path = ap (λ p. p ++ t) (at_name r e) ∙ sym (onto-append leads.0 (name ∷ r) t) ∙ ap (λ l. onto leads.0 (name ∷ l)) (sym (behind_is r left t f)) ∙ path_is in
            absurd (no_folder plain q r (at_name r e) (free t on))

        off : behind r left ≡ None
        off = by_case (behind r left) refl

    behind_left : behind path q ≡ None → (r : Path) → behind (onto leads.0 (name ∷ [])) q ≡ Some r → behind left r ≡ None
    behind_left apart r e =
        sym (ap (λ p. behind p q) (sym path_is) ∙ ap (behind (onto leads.0 (name ∷ left))) (at_name r e) ∙ behind-onto leads.0 (name ∷ left) (name ∷ r) ∙ behind_both name left r) ∙ apart

    some_left : behind path q ≡ None → (r : Path) → behind (onto leads.0 (name ∷ [])) q ≡ Some r → left ≢ []
    some_left apart r e = λ none. cc (sym (ap (λ l. behind l r) none) ∙ behind_left apart r e)

    pub laid_keeps : (new : Slots) (leaf : Leaf) → (left ≢ [] → IsNoFolder (mid at name)) → behind path q ≡ None
        → entry_from none_met trees new 0 q ≡ laid_at trees leaf left (behind (onto leads.0 (name ∷ [])) q) (entry_from none_met trees mid 0 q)
        → entry_from none_met trees new 0 q ≡ entry_from none_met trees old 0 q
    laid_keeps new leaf plain apart puts = by_case (behind (onto leads.0 (name ∷ [])) q) refl
      where
        by_case : (o : Option Path) → behind (onto leads.0 (name ∷ [])) q ≡ o → entry_from none_met trees new 0 q ≡ entry_from none_met trees old 0 q
        by_case None e = puts ∙ ap (λ o. laid_at trees leaf left o (entry_from none_met trees mid 0 q)) e ∙ before q
        by_case (Some r) e =
            let so = unmet (plain (some_left apart r e)) r e in
            puts ∙ ap (λ o. laid_at trees leaf left o (entry_from none_met trees mid 0 q)) e ∙ laid_off trees leaf left r (behind_left apart r e) so.0 ∙ sym so.1

    pub cut_keeps : (new : Slots) → (left ≢ [] → IsNoFolder (mid at name)) → behind path q ≡ None
        → entry_from none_met trees new 0 q ≡ removed (onto leads.0 (name ∷ [])) (entry_from none_met trees mid 0) q
        → entry_from none_met trees new 0 q ≡ entry_from none_met trees old 0 q
    cut_keeps new plain apart cuts = by_case (behind (onto leads.0 (name ∷ [])) q) refl
      where
        by_case : (o : Option Path) → behind (onto leads.0 (name ∷ [])) q ≡ o → entry_from none_met trees new 0 q ≡ entry_from none_met trees old 0 q
        by_case None e = cuts ∙ ap (λ o. if is_some o then None else entry_from none_met trees mid 0 q) e ∙ before q
        by_case (Some r) e =
            let so = unmet (plain (some_left apart r e)) r e in
            cuts ∙ ap (λ o. if is_some o then None else entry_from none_met trees mid 0 q) e ∙ sym so.1

    pub made_keeps : (new : Slots) (kind : Kind) → IsNoFolder (mid at name)
        → entry_from none_met trees new 0 q ≡ made_at kind left (behind (onto leads.0 (name ∷ [])) q) (entry_from none_met trees mid 0 q)
        → entry_from none_met trees new 0 q ≡ entry_from none_met trees old 0 q
    made_keeps new kind plain makes = by_case (behind (onto leads.0 (name ∷ [])) q) refl
      where
        by_case : (o : Option Path) → behind (onto leads.0 (name ∷ [])) q ≡ o → entry_from none_met trees new 0 q ≡ entry_from none_met trees old 0 q
        by_case None e = makes ∙ ap (λ o. made_at kind left o (entry_from none_met trees mid 0 q)) e ∙ before q
        by_case (Some r) e =
            let so = unmet plain r e in
            makes ∙ ap (λ o. made_at kind left o (entry_from none_met trees mid 0 q)) e ∙ ap (λ o. if is_some o then Some (made_leaf kind) else None) so.0 ∙ sym so.1

-- ---- the entries of one tree

pub tree_entries : (trees : Trees) (slots : Slots) (i : ℕ) (items : List Item) → ((m : Bytes) → StandsFor (slots i m) (named m items)) → (q : Path) → entry_from none_met trees slots i q ≡ entry_of_tree trees items q
tree_entries trees slots i items opened [] = refl
tree_entries trees slots i items opened (n ∷ rest) = tree_entry none_met trees slots i items opened n rest
