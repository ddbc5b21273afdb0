-- Which trees an edit changes.
use Rattle.std.proofs.Common.{ℕ, ◌≡◌, ◌≢◌, ◌<◌, ◌⊎◌, true, false, [], ◌∷◌, ◌++◌, Option, Some, None, refl, sym, ap, subst, ◌∙◌, inl, inr, arith}
use Rattle.std.proofs.lemmas.Bool.{cases_lt, cases_eq}
use Rattle.gix_object_nodes.specs.declared.node.Slot.{Slot}
use Rattle.gix_object_nodes.specs.Files.{Bytes, Path, Trees}
use Rattle.gix_object_nodes.specs.Nodes.{Slots, child_of, IsForest, Way, onto, LeadsTo}
use Rattle.gix_object_nodes.specs.Marks.{Mark, Marks, AreMarked, AreMarksKept, AreMarkedUp, IsMarkedFor, IsIdle, IsOnWay, AreOnPath, AreAsRead}
use Rattle.gix_object_editor.proofs.Marked.{not_yet, way_before, on_way_above, marks_none, edited_as_read}
use Rattle.gix_object_editor.proofs.Edits.{less_forest}
use Rattle.gix_object_editor.proofs.Opening.{at_or_off}
use Rattle.gix_object_editor.proofs.Folders.{taken_marks, taken_link}
use Rattle.gix_object_nodes.proofs.Ways.{unique}
use Rattle.gix_object_editor.proofs.SlotChange.{way_above, way_kept}

way_within : (slots : Slots) (bound : ℕ) → IsForest slots bound → (way : Path) (j : ℕ) → Way slots way j → j < bound
way_within slots bound ok [] j w = subst (λ k. k < bound) w ok.rooted
way_within slots bound ok (n ∷ way) j w = ok.within w.0 n j w.2

module _ (old mid : Slots) (was now : Marks) (a b : ℕ) (mid_ok : IsForest mid b) (opened : AreMarksKept false old mid was now a b) where
  -- a tree that was changed before others were opened
  pub opened_changed : (tree : Path) (j : ℕ) → LeadsTo mid tree j [] → (now j).changed ≡ true → (k : ℕ) × LeadsTo old tree k [] × ((was k).changed ≡ true)
  opened_changed tree j leads t = elim (cases_lt j a) [
    | inr ge ↦ absurd (not_yet (now j) (opened.fresh j ge (way_within mid b mid_ok leads.0 j leads.1)) t)
    | inl lt ↦ (j, (leads.0, way_before old mid a b mid_ok opened.links leads.0 j lt leads.1, leads.2), ap (λ (m : Mark). m.changed) (sym (opened.same j lt)) ∙ t)
  ]

  module _ (new : Slots) (put fin : Marks) (c : ℕ) (new_ok : IsForest new c) (made : AreMarksKept true mid new now put b c) (at : ℕ) (path : Path) (on_path : AreOnPath new path b c)
      (only : (way : Path) → Way new way at → (j : ℕ) → (fin j).changed ≡ true → ((put j).changed ≡ true) ⊎ IsOnWay new way j)
      (way rest : Path) (down : Way new way at) (some : rest ≢ []) (ends : onto way rest ≡ path) where
    old_or_made : (tree : Path) (j : ℕ) → LeadsTo new tree j [] → (put j).changed ≡ true → ((k : ℕ) × LeadsTo old tree k [] × ((was k).changed ≡ true)) ⊎ ((more : Path) × (more ≢ []) × (tree ++ more ≡ path))
    old_or_made tree j leads t = elim (cases_lt j b) [
      | inl lt ↦ inl (opened_changed tree j (leads.0, way_before mid new b c new_ok made.links leads.0 j lt leads.1, leads.2) (ap (λ (m : Mark). m.changed) (sym (made.same j lt)) ∙ t))
      | inr ge ↦
          let so = on_path j ge (way_within new c new_ok leads.0 j leads.1) in
          let same : so.4.0 ≡ leads.0 = unique new c new_ok so.4.0 leads.0 j so.4.1 leads.1 in
          let front : so.0 ≡ tree = sym so.4.2 ∙ ap (λ w. onto w []) same ∙ leads.2 in
          inr (so.1, so.2, ap (λ p. p ++ so.1) (sym front) ∙ so.3)
    ]

    pub edit_changed : (tree : Path) (j : ℕ) → LeadsTo new tree j [] → (fin j).changed ≡ true → ((k : ℕ) × LeadsTo old tree k [] × ((was k).changed ≡ true)) ⊎ ((more : Path) × (more ≢ []) × (tree ++ more ≡ path))
    edit_changed tree j leads t = elim (only way down j t) [
      | inr on ↦ inr (on_way_above new c new_ok way j tree rest path on leads some ends)
      | inl yet ↦ old_or_made tree j leads yet
    ]

-- a slot that is taken out leads to no new tree
pub cut_kept : (mid new : Slots) (now : Marks) (b at : ℕ) (name : Bytes) → IsForest mid b → new at name ≡ None → ((i : ℕ) (m : Bytes) → ((i ≡ at) → (m ≡ name) → ⊥) → new i m ≡ mid i m) → AreMarksKept true mid new now now b b
cut_kept mid new now b at name ok here others = taken_marks mid new name at here others true mid now now now b b (λ i. refl) (marks_none true mid now b ok)

pub none_on_path : (slots : Slots) (path : Path) (b : ℕ) → AreOnPath slots path b b
none_on_path slots path b j le lt = absurd (omega (arith, le, lt))

-- what lies above a path with one name more begins the path
pub begins : (path : Path) (x : Bytes) (tree more : Path) → more ≢ [] → tree ++ more ≡ path ++ x ∷ [] → (rest : Path) × (tree ++ rest ≡ path)
begins path x [] more some e = (path, refl)
begins [] x (t ∷ tree) more some e = absurd (some (last_none tree more (tail_of t x (tree ++ more) [] e)))
  where
    tail_of : (t x : Bytes) (p q : Path) → t ∷ p ≡ x ∷ q → p ≡ q
    tail_of t x p q e = cc e

    last_none : (tree more : Path) → tree ++ more ≡ [] → more ≡ []
    last_none [] more e = e
    last_none (t ∷ tree) more e = absurd (cc e)
begins (n ∷ path) x (t ∷ tree) more some e =
    let first : t ≡ n = head_of t n (tree ++ more) (path ++ x ∷ []) e in
    let later = begins path x tree more some (tail_of t n (tree ++ more) (path ++ x ∷ []) e) in
    (later.0, ap (λ k. k ∷ tree ++ later.0) first ∙ ap (λ p. n ∷ p) later.1)
  where
    head_of : (t x : Bytes) (p q : Path) → t ∷ p ≡ x ∷ q → t ≡ x
    head_of t x p q e = cc e

    tail_of : (t x : Bytes) (p q : Path) → t ∷ p ≡ x ∷ q → p ≡ q
    tail_of t x p q e = cc e

-- ---- a slot that is taken out, and the trees that it lies in

pub cut_as_read : (trees : Trees) (mid new : Slots) (now fin : Marks) (b at : ℕ) (name : Bytes) → IsForest mid b → new at name ≡ None → ((i : ℕ) (m : Bytes) → ((i ≡ at) → (m ≡ name) → ⊥) → new i m ≡ mid i m)
    → IsMarkedFor mid new now fin at b b → AreAsRead trees mid now → AreAsRead trees new fin
cut_as_read trees mid new now fin b at name ok here others marks read =
    let kept = cut_kept mid new now b at name ok here others in
    let forest : IsForest new b = less_forest mid new b b at name ok refl (ap child_of here) others in
    edited_as_read trees mid new now fin b b ok marks.marked marks.still read (λ c lt t. marks.kept c t) (λ c le lt. absurd (omega (arith, le, lt))) forest kept.links

pub cut_changed_on : (old mid : Slots) (was now : Marks) (a b : ℕ) → IsForest mid b → AreMarksKept false old mid was now a b → (new : Slots) (fin : Marks) (at : ℕ) (name : Bytes) → new at name ≡ None
    → ((i : ℕ) (m : Bytes) → ((i ≡ at) → (m ≡ name) → ⊥) → new i m ≡ mid i m) → IsMarkedFor mid new now fin at b b → (path left more : Path) → LeadsTo mid path at left → left ≡ name ∷ more
    → (tree : Path) (j : ℕ) → LeadsTo new tree j [] → (fin j).changed ≡ true → ((k : ℕ) × LeadsTo old tree k [] × ((was k).changed ≡ true)) ⊎ ((rest : Path) × (rest ≢ []) × (tree ++ rest ≡ path))
cut_changed_on old mid was now a b ok opened new fin at name here others marks path left more leads is tree j to t =
    let forest : IsForest new b = less_forest mid new b b at name ok refl (ap child_of here) others in
    let same : (i : ℕ) (m : Bytes) → i < at → new i m ≡ mid i m = λ i m less. others i m (λ e _. absurd (omega (arith, e, less))) in
    edit_changed old mid was now a b ok opened new now fin b forest (cut_kept mid new now b at name ok here others) at path (none_on_path new path b) marks.only leads.0 (name ∷ more)
    (way_above mid new b at ok same leads.0 at (omega arith) leads.1) (λ e. cc e) (ap (onto leads.0) (sym is) ∙ leads.2) tree j to t

-- ---- where no tree is changed

abbrev pub Changed : Slots → Marks → Path → Type 0
Changed slots marks tree = (j : ℕ) × LeadsTo slots tree j [] × ((marks j).changed ≡ true)

abbrev pub SameChanged : Slots → Marks → Slots → Marks → Type 0
SameChanged old was new now = (tree : Path) → (Changed new now tree → Changed old was tree) × (Changed old was tree → Changed new now tree)

-- trees that were opened
pub opened_same_changed : (old mid : Slots) (was now : Marks) (a b : ℕ) → IsForest old a → IsForest mid b → AreMarksKept false old mid was now a b → ((i : ℕ) (m : Bytes) (c : ℕ) → child_of (old i m) ≡ Some c → child_of (mid i m) ≡ Some c)
    → SameChanged old was mid now
opened_same_changed old mid was now a b ok mid_ok opened links tree = (
  λ is. opened_changed old mid was now a b mid_ok opened tree is.0 is.1 is.2,
  λ is. (
    is.0,
    (is.1.0, way_kept old mid links is.1.0 is.0 is.1.1, is.1.2),
    ap (λ (m : Mark). m.changed) (opened.same is.0 (way_within old a ok is.1.0 is.0 is.1.1)) ∙ is.2,
  ),
)

-- a slot that is removed while no mark changes, since no more than a made folder was there
module _ (mid new : Slots) (now fin : Marks) (b : ℕ) (marked : AreMarked mid now b) (at : ℕ) (name : Bytes) (here : new at name ≡ None) (others : (i : ℕ) (m : Bytes) → ((i ≡ at) → (m ≡ name) → ⊥) → new i m ≡ mid i m)
    (same : (i : ℕ) → fin i ≡ now i) (idle : IsIdle now (mid at name)) where
  -- none that is changed lies in it
  idle_child : (o : Option Slot) (k : ℕ) → IsIdle now o → child_of o ≡ Some k → (now k).changed ≡ true → ⊥
  idle_child None k h link t = cc link
  idle_child (Some s) k h link t =
      let one : h.0 ≡ k = same_number h.0 k (sym h.1 ∙ link) in
      not_yet (now k) (ap (λ i. (now i).changed) (sym one) ∙ h.3) t
    where
      same_number : (i j : ℕ) → Some i ≡ Some j → i ≡ j
      same_number i j e = cc e

  changed_way : (way : Path) (k : ℕ) → Way mid way k → (now k).changed ≡ true → Way new way k
  changed_way [] k w t = w
  changed_way (n ∷ way) k w t = elim (at_or_off w.0 at n name) [
    | inl x ↦ absurd (idle_child (mid at name) k idle (ap child_of (ap (mid at) (sym x.1) ∙ ap (λ i. mid i n) (sym x.0)) ∙ w.2) t)
    | inr off ↦ (w.0, changed_way way w.0 w.1 (marked.closed w.0 n k w.2 t), ap child_of (others w.0 n off) ∙ w.2)
  ]

  fewer_links : (i : ℕ) (n : Bytes) (c : ℕ) → child_of (new i n) ≡ Some c → child_of (mid i n) ≡ Some c
  fewer_links i n c e = ap child_of (sym (taken_link mid new name at here others i n c e)) ∙ e

  cut_same_changed : SameChanged mid now new fin
  cut_same_changed tree = (
    λ is. (is.0, (is.1.0, way_kept new mid fewer_links is.1.0 is.0 is.1.1, is.1.2), ap (λ (m : Mark). m.changed) (sym (same is.0)) ∙ is.2),
    λ is. (is.0, (is.1.0, changed_way is.1.0 is.0 is.1.1 is.2, is.1.2), ap (λ (m : Mark). m.changed) (same is.0) ∙ is.2),
  )

  pub cut_unmarked : (old : Slots) (was : Marks) → SameChanged old was mid now → SameChanged old was new fin
  cut_unmarked old was opened tree = (λ is. (opened tree).0 ((cut_same_changed tree).0 is), λ is. (cut_same_changed tree).1 ((opened tree).1 is))

-- ---- folders that are made, and the trees that they lie in

module _ (old mid new end : Slots) (was now put fin : Marks) (a b c : ℕ) (mid_ok : IsForest mid b) (new_ok : IsForest new c) (opened : AreMarksKept false old mid was now a b) (made : AreMarksKept true mid new now put b c)
    (at : ℕ) (name : Bytes) (others : (i : ℕ) (m : Bytes) → i < b → ((i ≡ at) → (m ≡ name) → ⊥) → new i m ≡ mid i m) (same : end ≡ new) (up : AreMarkedUp new put fin at c) where
  pub laid_as_read : (trees : Trees) → AreAsRead trees mid now → AreAsRead trees end fin
  laid_as_read trees read = subst (λ f. AreAsRead trees f fin) (sym same) (edited_as_read trees mid new now fin b c mid_ok up.marked still read
      (λ k lt t. up.kept k (ap (λ (m : Mark). m.changed) (made.same k lt) ∙ t)) (λ k le lt. up.kept k (made.fresh k le lt)) new_ok made.links)
    where
      still : (i : ℕ) (m : Bytes) → i < b → (fin i).changed ≡ false → (new i m ≡ mid i m) ⊎ ((new i m ≡ None) × IsIdle now (mid i m))
      still i m lt f = elim (cases_eq i at) [
        | inl e ↦ absurd (not_yet (fin i) f (ap (λ k. (fin k).changed) e ∙ up.here))
        | inr ne ↦ inl (others i m lt (λ e _. ne e))
      ]

  -- those that are changed now
  pub laid_changed : (path : Path) → AreOnPath new path b c → (way rest : Path) → Way new way at → rest ≢ [] → onto way rest ≡ path → (tree : Path) (j : ℕ) → LeadsTo end tree j [] → (fin j).changed ≡ true
      → ((k : ℕ) × LeadsTo old tree k [] × ((was k).changed ≡ true)) ⊎ ((more : Path) × (more ≢ []) × (tree ++ more ≡ path))
  laid_changed path on_path way rest down some ends tree j to t =
      edit_changed old mid was now a b mid_ok opened new put fin c new_ok made at path on_path up.only way rest down some ends tree j (subst (λ f. LeadsTo f tree j []) same to) t

pub one_more_left : (p : Path) (x : Bytes) → p ++ x ∷ [] ≢ []
one_more_left [] x = λ e. cc e
one_more_left (n ∷ p) x = λ e. cc e
