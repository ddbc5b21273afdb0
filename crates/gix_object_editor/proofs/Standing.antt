-- What is at a path's end, where an edit finds it, and that some edits find nothing to change.
use Rattle.std.proofs.Common.{ℕ, ◌≡◌, ◌≢◌, ◌<◌, ◌≤◌, ◌+◌, ◌⊎◌, inl, inr, List, false, [], ◌∷◌, Option, Some, None, refl, sym, ap, subst, ◌∙◌, arith, length, drop, get_or, if◌then◌else◌}
use Rattle.std.specs.Borrow.{Bor}
use Rattle.std.proofs.lemmas.List.{get_or-map}
use Rattle.std.proofs.lemmas.Bool.{cases_eq, cases_lt}
use Rattle.gix_object_lookup.specs.Table.{Table}
use Rattle.gix_object_nodes.specs.declared.node.NodeId.{NodeId}
use Rattle.gix_object_nodes.specs.declared.node.Slot.{Slot}
use Rattle.gix_object_nodes.specs.Files.{Bytes, Path, Leaf, Trees, through, named, leaf_of, leads_on, entry_into}
use Rattle.gix_object_editor.specs.Stored.{HasStored, IsOpened}
use Rattle.gix_object_nodes.specs.Nodes.{Slots, child_or, child_of, leaf_in, slot_entry, entry_from, slot_over, Way, onto, LeadsTo, IsForest, IsNoFolder, IsEntry}
use Rattle.gix_object_nodes.specs.Marks.{Mark, Marks, IsMade, IsIdle, AreMarksKept}
use Rattle.gix_object_editor.proofs.Marked.{way_before}
use Rattle.gix_object_editor.proofs.Opening.{at_or_off}
use Rattle.gix_object_editor.proofs.Walked.{names, names_step}

-- ---- entries below a way

module _ (blocked : Leaf → Option Leaf) (trees : Trees) (slots : Slots) where
  child_entry_by : (name : Bytes) (rest : Path) (child : Option NodeId) (i : ℕ) (x : Option Leaf) → child_or child (λ c. Some c) None ≡ Some i
      → child_or child (λ c. entry_from blocked trees slots c (name ∷ rest)) x ≡ entry_from blocked trees slots i (name ∷ rest)
  child_entry_by name rest None i x e = absurd (cc e)
  child_entry_by name rest (Some c) i x e = let same : c.0 ≡ i = cc in ap (λ k. entry_from blocked trees slots k (name ∷ rest)) same

  pub child_entry : (name : Bytes) (rest : Path) (o : Option Slot) (i : ℕ) → child_of o ≡ Some i → through o (slot_entry blocked trees slots (name ∷ rest)) ≡ entry_from blocked trees slots i (name ∷ rest)
  child_entry name rest None i e = absurd (cc e)
  child_entry name rest (Some s) i e = child_entry_by name rest s.child i (entry_into blocked trees (name ∷ rest) (leaf_in s)) e

  pub entry_below : (way : Path) (i : ℕ) (name : Bytes) (rest : Path) → Way slots way i → entry_from blocked trees slots 0 (onto way (name ∷ rest)) ≡ entry_from blocked trees slots i (name ∷ rest)
  entry_below [] i name rest w = ap (λ k. entry_from blocked trees slots k (name ∷ rest)) w
  entry_below (n ∷ way) i name rest w = entry_below way w.0 n (name ∷ rest) w.1 ∙ child_entry name rest (slots w.0 n) i w.2

  -- what is met below what is no folder
  pub blocked_entry : (s : Slot) (n : Bytes) (left : Path) → s.child ≡ None → leads_on (leaf_in s) ≡ false → slot_entry blocked trees slots (n ∷ left) s ≡ blocked (leaf_in s)
  blocked_entry s n left closed plain =
      ap (λ o. child_or o (λ c. entry_from blocked trees slots c (n ∷ left)) (entry_into blocked trees (n ∷ left) (leaf_in s))) closed
      ∙ ap (λ b. if b then through (trees (leaf_in s).id) (λ items. through (named n items) (λ item. entry_into blocked trees left (leaf_of item))) else blocked (leaf_in s)) plain

  free_slot : (left : Path) (o : Option Slot) → (left ≢ [] → IsNoFolder o × ((leaf : Leaf) → blocked leaf ≢ None)) → through o (slot_entry blocked trees slots left) ≡ None → o ≡ None
  free_slot left None h e = refl
  free_slot [] (Some s) h e = absurd (cc e)
  free_slot (n ∷ left) (Some s) h e =
      let so = h (λ x. cc x) in
      let plain = so.0 s refl in
      absurd (so.1 (leaf_in s) (sym (blocked_entry s n left plain.0 plain.1) ∙ e))

-- ---- slots below a way

pub slot_below : (slots : Slots) (way : Path) (i : ℕ) (name : Bytes) (rest : Path) → Way slots way i → slot_over slots 0 (onto way (name ∷ rest)) ≡ slot_over slots i (name ∷ rest)
slot_below slots [] i name rest w = ap (λ k. slot_over slots k (name ∷ rest)) w
slot_below slots (n ∷ way) i name rest w = slot_below slots way w.0 n (name ∷ rest) w.1 ∙ ap (λ o. through o (λ c. slot_over slots c (name ∷ rest))) w.2

slot_stands : (slots : Slots) (path : Path) (i : ℕ) (s : Slot) → slot_over slots i path ≡ Some s → (j : ℕ) × (n : Bytes) × (slots j n ≡ Some s)
slot_stands slots [] i s e = absurd (cc e)
slot_stands slots (n ∷ []) i s e = (i, n, e)
slot_stands slots (n ∷ m ∷ rest) i s e = by_child (λ c h. slot_stands slots (m ∷ rest) c s h) (child_of (slots i n)) e
  where
    by_child : ((c : ℕ) → slot_over slots c (m ∷ rest) ≡ Some s → (j : ℕ) × (n : Bytes) × (slots j n ≡ Some s)) → (o : Option ℕ) → through o (λ c. slot_over slots c (m ∷ rest)) ≡ Some s → (j : ℕ) × (n : Bytes) × (slots j n ≡ Some s)
    by_child deeper None h = absurd (cc h)
    by_child deeper (Some c) h = deeper c h

module _ (old new : Slots) (links : (i : ℕ) (m : Bytes) (c : ℕ) → child_of (old i m) ≡ Some c → new i m ≡ old i m) where
  -- a slot that leads to an opened tree stays
  slot_kept : (path : Path) (i : ℕ) (s : Slot) (c : ℕ) → slot_over old i path ≡ Some s → child_of (Some s) ≡ Some c → slot_over new i path ≡ Some s
  slot_kept [] i s c e link = absurd (cc e)
  slot_kept (n ∷ []) i s c e link = links i n c (ap child_of e ∙ link) ∙ e
  slot_kept (n ∷ m ∷ rest) i s c e link = by_child (λ k h. slot_kept (m ∷ rest) k s c h link) (child_of (old i n)) refl e
    where
      by_child : ((k : ℕ) → slot_over old k (m ∷ rest) ≡ Some s → slot_over new k (m ∷ rest) ≡ Some s) → (o : Option ℕ) → child_of (old i n) ≡ o → through o (λ k. slot_over old k (m ∷ rest)) ≡ Some s
          → through (child_of (new i n)) (λ k. slot_over new k (m ∷ rest)) ≡ Some s
      by_child deeper None is h = absurd (cc h)
      by_child deeper (Some k) is h = ap (λ o. through o (λ j. slot_over new j (m ∷ rest))) (ap child_of (links i n k is) ∙ is) ∙ deeper k h

-- no slot is below what is no folder
no_slot : (slots : Slots) (o : Option Slot) (p : Path) (s : Slot) → IsNoFolder o → through (child_of o) (λ c. slot_over slots c p) ≡ Some s → ⊥
no_slot slots None p s plain e = cc e
no_slot slots (Some u) p s plain e = let none = ap (λ k. through (child_or k (λ c. Some c) None) (λ c. slot_over slots c p)) (plain u refl).0 in cc (sym none ∙ e)

-- ---- edits that find nothing to change

module _ (honest : Type 0) (table : Table) (old mid : Slots) (bound more : ℕ) (ok : IsForest old bound) (opened : IsOpened honest table old mid bound more) (path : Path) (at : ℕ) (name : Bytes) (left rest : Path)
    (leads : LeadsTo mid path at rest) (is : rest ≡ name ∷ left) where
  here : (blocked : Leaf → Option Leaf) → honest → (trees : Trees) → HasStored table trees → through (mid at name) (slot_entry blocked trees mid left) ≡ entry_from blocked trees old 0 path
  here blocked h trees has =
      sym (entry_below blocked trees mid leads.0 at name left leads.1)
      ∙ ap (entry_from blocked trees mid 0) (ap (onto leads.0) (sym is) ∙ leads.2)
      ∙ opened.entries h trees has blocked path 0 ok.rooted

  -- no entry is there
  pub nothing_there : (blocked : Leaf → Option Leaf) → (left ≢ [] → IsNoFolder (mid at name) × ((leaf : Leaf) → blocked leaf ≢ None)) → honest → (trees : Trees) → HasStored table trees
      → entry_from blocked trees old 0 path ≡ None → mid at name ≡ None
  nothing_there blocked plain h trees has none = free_slot blocked trees mid left (mid at name) plain (here blocked h trees has ∙ none)

  pub nothing_idle : (now : Marks) (blocked : Leaf → Option Leaf) → (left ≢ [] → IsNoFolder (mid at name) × ((leaf : Leaf) → blocked leaf ≢ None)) → honest → (trees : Trees) → HasStored table trees
      → entry_from blocked trees old 0 path ≡ None → IsIdle now (mid at name)
  nothing_idle now blocked plain h trees has none = subst (IsIdle now) (sym (nothing_there blocked plain h trees has none)) tt

  module _ (was now : Marks) (marks : AreMarksKept false old mid was now bound more) (plain : left ≢ [] → IsNoFolder (mid at name)) where
    -- no more than a made folder is there
    pub made_there : (s : Slot) → slot_over old 0 path ≡ Some s → IsMade was s → IsIdle now (mid at name)
    made_there s stands made = at_end left plain below
      where
        place : (j : ℕ) × (n : Bytes) × (old j n ≡ Some s)
        place = slot_stands old path 0 s stands

        early : made.0 < bound
        early = ok.within place.0 place.1 made.0 (ap child_of place.2 ∙ made.1)

        below : slot_over mid at (name ∷ left) ≡ Some s
        below =
            sym (slot_below mid leads.0 at name left leads.1)
            ∙ ap (slot_over mid 0) (ap (onto leads.0) (sym is) ∙ leads.2)
            ∙ slot_kept old mid (λ i m c e. marks.links i m c (opened.links i m c e) (ok.within i m c e)) path 0 s made.0 stands made.1

        at_end : (l : Path) → (l ≢ [] → IsNoFolder (mid at name)) → slot_over mid at (name ∷ l) ≡ Some s → IsIdle now (mid at name)
        at_end [] h e = subst (IsIdle now) (sym e) (made.0, made.1, made.2, ap (λ (m : Mark). m.changed) (marks.same made.0 early) ∙ made.3)
        at_end (n ∷ l) h e = absurd (no_slot mid (mid at name) (n ∷ l) s (h (λ x. cc x)) e)

    -- this entry is there, and no tree was opened for it
    pub already_there : ((m : Bytes) (c : ℕ) → child_of (mid at m) ≡ Some c → c < bound) → honest → (trees : Trees) → HasStored table trees → (leaf : Leaf)
        → entry_from (λ l. None) trees old 0 path ≡ Some leaf → (((j : ℕ) × LeadsTo old path j []) → ⊥) → (left ≡ []) × IsEntry (mid at name) leaf
    already_there before h trees has leaf stands closed = at_end left plain refl (mid at name) refl (here (λ l. None) h trees has ∙ stands)
      where
        unopened : (s : Slot) (child : Option NodeId) → left ≡ [] → mid at name ≡ Some s → s.child ≡ child → s.child ≡ None
        unopened s None ends there e = e
        unopened s (Some c) ends there e =
            let link : child_of (mid at name) ≡ Some c.0 = ap child_of there ∙ ap (λ o. child_or o (λ k. Some k) None) e in
            let back = way_before old mid bound more opened.forest marks.links (name ∷ leads.0) c.0 (before name c.0 link) (at, leads.1, link) in
            absurd (closed (c.0, (name ∷ leads.0, back, ap (λ l. onto leads.0 (name ∷ l)) (sym ends) ∙ ap (onto leads.0) (sym is) ∙ leads.2)))

        at_end : (l : Path) → (l ≢ [] → IsNoFolder (mid at name)) → left ≡ l → (o : Option Slot) → mid at name ≡ o → through o (slot_entry (λ x. None) trees mid left) ≡ Some leaf → (left ≡ []) × IsEntry (mid at name) leaf
        at_end l free ends None there e = absurd (cc e)
        at_end [] free ends (Some s) there e =
            let same : Some (leaf_in s) ≡ Some leaf = sym (ap (λ k. slot_entry (λ x. None) trees mid k s) ends) ∙ e in
            (ends, (s, there, one (leaf_in s) leaf same, unopened s s.child ends there refl))
          where
            one : (a b : Leaf) → Some a ≡ Some b → a ≡ b
            one a b q = cc
        at_end (n ∷ l) free ends (Some s) there e =
            let so = free (λ x. cc x) s there in
            let none = ap (λ k. slot_entry (λ x. None) trees mid k s) ends ∙ blocked_entry (λ x. None) trees mid s n l so.0 so.1 in
            absurd (cc (sym none ∙ e))

-- ---- names that are left

pub name_left : (path : List (Bor (List ℕ))) (i : ℕ) → i < length path → names (drop i path) ≡ get_or (names path) i [] ∷ names (drop (i + 1) path)
name_left path i lt =
    let none : Bor (List ℕ) = record { ref_ptr = (0, 0); now = [] } in
    names_step path i none lt ∙ ap (λ n. n ∷ names (drop (i + 1) path)) (sym (get_or-map (λ (x : Bor (List ℕ)). x.now) path i none [] lt))

-- it is the last, or more are left
pub last_left : (path : List (Bor (List ℕ))) (i : ℕ) → i < length path → names (drop (i + 1) path) ≡ [] → i + 1 ≡ length path
last_left path i lt none = elim (cases_eq (i + 1) (length path)) [
  | inl e ↦ e
  | inr ne ↦
      let less : i + 1 < length path = omega (arith, lt, ne) in
      absurd (cc (sym (name_left path (i + 1) less) ∙ none))
]

-- ---- trees that a walk opened: the last is its end

pub walk_grown : (a b c at child : ℕ) → a ≤ b → at < child → child < c → (b ≡ a) ⊎ (at + 1 ≡ b) → (c ≡ b) ⊎ (child + 1 ≡ c) → (c ≡ a) ⊎ (child + 1 ≡ c)
walk_grown a b c at child le up within first (inr last) = inr last
walk_grown a b c at child le up within (inl same) (inl e) = inl (e ∙ same)
walk_grown a b c at child le up within (inr last) (inl e) = absurd (omega (arith, up, within, last, e))

pub walk_before : (a b at k : ℕ) → at < k → k < b → (b ≡ a) ⊎ (at + 1 ≡ b) → k < a
walk_before a b at k up within (inl same) = omega (arith, within, same)
walk_before a b at k up within (inr last) = absurd (omega (arith, up, within, last))

-- links stay where folders are made at a free name
pub laid_links : (old new : Slots) (bound at : ℕ) (name : Bytes) → ((i : ℕ) (m : Bytes) → bound ≤ i → old i m ≡ None) → old at name ≡ None → ((i : ℕ) (m : Bytes) → i < bound → ((i ≡ at) → (m ≡ name) → ⊥) → new i m ≡ old i m)
    → (i : ℕ) (m : Bytes) (c : ℕ) → child_of (old i m) ≡ Some c → child_of (new i m) ≡ Some c
laid_links old new bound at name past free others i m c e = elim (cases_lt i bound) [
  | inr late ↦ absurd (cc (sym (ap child_of (past i m late)) ∙ e))
  | inl early ↦ elim (at_or_off i at m name) [
    | inl x ↦ absurd (cc (sym (ap child_of (ap (λ k. old k m) x.0 ∙ ap (old at) x.1 ∙ free)) ∙ e))
    | inr off ↦ ap child_of (others i m early off) ∙ e
  ]
]
