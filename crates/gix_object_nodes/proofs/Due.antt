-- Slots without the opened trees that no edit changed.
use Rattle.std.proofs.Common.{ℕ, ◌≡◌, ◌<◌, ◌≤◌, ◌||◌, Bool, true, false, cond, List, [], ◌∷◌, Option, Some, None, refl, sym, ap, ◌∙◌, inl, inr, arith, map, nat_le, le-leb, leb-true, if◌then◌else◌}
use Rattle.std.specs.Map.{lookup, keys_of, values_of}
use Rattle.gix_object_nodes.specs.declared.node.NodeId.{NodeId}
use Rattle.gix_object_nodes.specs.declared.node.Slot.{Slot}
use Rattle.gix_object_nodes.specs.Files.{Bytes, Path, Trees, through, files_of_entry}
use Rattle.gix_object_nodes.specs.Nodes.{Key, Slots, child_or, child_of, leaf_in, files_of_slot, files_of_node, IsForest, Way}
use Rattle.gix_object_nodes.specs.Marks.{Marks, child_if, slot_if, slots_if, is_due, due, AreAsRead}
use Rattle.gix_object_nodes.proofs.Paths.{by_test}
use Rattle.gix_object_nodes.proofs.Ways.{fewer, closed_files}

-- ---- children that are let through

pub child_through : (shows : ℕ → Bool) (o : Option NodeId) (c : NodeId) → child_if shows o ≡ Some c → o ≡ Some c
child_through shows None c e = absurd (cc e)
child_through shows (Some d) c e = elim (by_test (shows d.0)) [
  | inl t ↦ ap (λ b. if b then Some d else None) (sym t) ∙ e
  | inr f ↦ let none : None ≡ Some c = ap (λ b. if b then Some d else None) (sym f) ∙ e in absurd (cc none)
]

number_through : (shows : ℕ → Bool) (o : Option NodeId) (c : ℕ) → child_or (child_if shows o) (λ d. Some d) None ≡ Some c → (child_or o (λ d. Some d) None ≡ Some c) × (shows c ≡ true)
number_through shows None c e = absurd (cc e)
number_through shows (Some d) c e = elim (by_test (shows d.0)) [
  | inl t ↦
      let is : Some d.0 ≡ Some c = ap (λ b. child_or (if b then Some d else None) (λ k. Some k) None) (sym t) ∙ e in
      let same : d.0 ≡ c = cc in
      (is, ap shows (sym same) ∙ t)
  | inr f ↦ let none : None ≡ Some c = ap (λ b. child_or (if b then Some d else None) (λ k. Some k) None) (sym f) ∙ e in absurd (cc none)
]

pub slot_through : (shows : ℕ → Bool) (o : Option Slot) (c : ℕ) → child_of (through o (λ s. Some (slot_if shows s))) ≡ Some c → (child_of o ≡ Some c) × (shows c ≡ true)
slot_through shows None c e = absurd (cc e)
slot_through shows (Some s) c e = number_through shows s.child c e

number_kept : (shows : ℕ → Bool) (o : Option NodeId) (c : ℕ) → child_or o (λ d. Some d) None ≡ Some c → shows c ≡ true → child_or (child_if shows o) (λ d. Some d) None ≡ Some c
number_kept shows None c e t = absurd (cc e)
number_kept shows (Some d) c e t =
    let same : d.0 ≡ c = cc in
    ap (λ b. child_or (if b then Some d else None) (λ k. Some k) None) (ap shows same ∙ t) ∙ e

slot_kept : (shows : ℕ → Bool) (o : Option Slot) (c : ℕ) → child_of o ≡ Some c → shows c ≡ true → child_of (through o (λ s. Some (slot_if shows s))) ≡ Some c
slot_kept shows None c e t = absurd (cc e)
slot_kept shows (Some s) c e t = number_kept shows s.child c e t

-- ---- forests and ways

pub due_link : (slots : Slots) (marks : Marks) (from i : ℕ) (m : Bytes) (c : ℕ) → child_of (due slots marks from i m) ≡ Some c → child_of (slots i m) ≡ Some c
due_link slots marks from i m c e = (slot_through (is_due marks from) (slots i m) c e).0

pub due_forest : (slots : Slots) (marks : Marks) (from bound : ℕ) → IsForest slots bound → IsForest (due slots marks from) bound
due_forest slots marks from bound ok = let le : bound ≤ bound = omega arith in fewer slots (due slots marks from) bound bound ok le (due_link slots marks from)

or_true : (b : Bool) → (b || true) ≡ true
or_true true = refl
or_true false = refl

pub due_way : (slots : Slots) (marks : Marks) (from bound : ℕ) → IsForest slots bound → (way : Path) (j : ℕ) → j ≤ from → Way slots way j → Way (due slots marks from) way j
due_way slots marks from bound ok [] j le w = w
due_way slots marks from bound ok (n ∷ way) j le w =
    let up : w.0 < j = ok.forward w.0 n j w.2 in
    let less : w.0 ≤ from = omega (arith, up, le) in
    let shows : is_due marks from j ≡ true = ap (λ b. (marks j).changed || b) (le-leb j from le) ∙ or_true (marks j).changed in
    (w.0, due_way slots marks from bound ok way w.0 less w.1, slot_kept (is_due marks from) (slots w.0 n) j w.2 shows)

pub way_due : (slots : Slots) (marks : Marks) (from : ℕ) (way : Path) (j : ℕ) → Way (due slots marks from) way j → Way slots way j
way_due slots marks from [] j w = w
way_due slots marks from (n ∷ way) j w = (w.0, way_due slots marks from way w.0 w.1, due_link slots marks from w.0 n j w.2)

-- a tree of a greater number, to which a way leads, is changed
pub due_changed : (slots : Slots) (marks : Marks) (from : ℕ) (way : Path) (j : ℕ) → from < j → Way (due slots marks from) way j → (marks j).changed ≡ true
due_changed slots marks from [] j lt w = absurd (omega (arith, lt, w))
due_changed slots marks from (n ∷ way) j lt w = elim (by_test (nat_le j from)) [
  | inl t ↦ let le : j ≤ from = leb-true j from t in absurd (omega (arith, le, lt))
  | inr f ↦ or_false (marks j).changed (nat_le j from) (slot_through (is_due marks from) (slots w.0 n) j w.2).1 f
]
  where
    or_false : (a b : Bool) → (a || b) ≡ true → b ≡ false → a ≡ true
    or_false true b e f = refl
    or_false false b e f = absurd (cc (sym f ∙ e))

-- from the tree's number on, the slots are those with changed trees
pub due_row : (slots : Slots) (marks : Marks) (from bound : ℕ) → IsForest slots bound → (i : ℕ) → from ≤ i → (m : Bytes) → due slots marks from i m ≡ slots_if (λ c. (marks c).changed) (slots i) m
due_row slots marks from bound ok i le m = by_slot (slots i m) refl
  where
    or_no : (a b : Bool) → b ≡ false → (a || b) ≡ a
    or_no true b f = refl
    or_no false b f = f

    by_child : (s : Slot) (o : Option NodeId) → ((c : ℕ) → child_or o (λ d. Some d) None ≡ Some c → i < c) → child_if (is_due marks from) o ≡ child_if (λ c. (marks c).changed) o
    by_child s None up = refl
    by_child s (Some c) up =
        let lt : i < c.0 = up c.0 refl in
        let above : nat_le c.0 from ≡ false = elim (by_test (nat_le c.0 from)) [ inl t ↦ let back : c.0 ≤ from = leb-true c.0 from t in absurd (omega (arith, back, lt, le)) | inr f ↦ f ] in
        ap (λ b. if b then Some c else None) (or_no (marks c.0).changed (nat_le c.0 from) above)

    by_slot : (o : Option Slot) → slots i m ≡ o → through o (λ s. Some (slot_if (is_due marks from) s)) ≡ through o (λ s. Some (slot_if (λ c. (marks c).changed) s))
    by_slot None e = refl
    by_slot (Some s) e = ap (λ o. Some (record s { child = o })) (by_child s s.child (λ c is. ok.forward i m c (ap child_of e ∙ is)))

-- ---- files

module _ (trees : Trees) (slots : Slots) (marks : Marks) (from : ℕ) (read : AreAsRead trees slots marks) where
  slot_files : (rest : Path) → ((c : ℕ) → files_of_node trees (due slots marks from) c rest ≡ files_of_node trees slots c rest) → (i : ℕ) (n : Bytes) (o : Option Slot) → slots i n ≡ o
      → through (through o (λ s. Some (slot_if (is_due marks from) s))) (files_of_slot trees (due slots marks from) rest) ≡ through o (files_of_slot trees slots rest)
  slot_files rest later i n None e = refl
  slot_files rest later i n (Some s) e = by_child s.child refl
    where
      shut : Slot
      shut = slot_if (is_due marks from) s

      split : (u : Slot) (k : Slots) (rest : Path) → files_of_slot trees k rest u ≡ child_or u.child (λ c. files_of_node trees k c rest) (files_of_entry trees rest (leaf_in u))
      split u k [] = refl
      split u k (m ∷ more) = refl

      by_child : (child : Option NodeId) → s.child ≡ child → files_of_slot trees (due slots marks from) rest shut ≡ files_of_slot trees slots rest s
      by_child None closed = closed_files trees (due slots marks from) shut (ap (child_if (is_due marks from)) closed) rest ∙ sym (closed_files trees slots s closed rest)
      by_child (Some c) opened = elim (by_test (is_due marks from c.0)) [
        | inl t ↦
            let kept : shut.child ≡ Some c = ap (child_if (is_due marks from)) opened ∙ ap (λ b. if b then Some c else None) t in
            split shut (due slots marks from) rest
            ∙ ap (λ o. child_or o (λ k. files_of_node trees (due slots marks from) k rest) (files_of_entry trees rest (leaf_in s))) kept
            ∙ later c.0
            ∙ sym (split s slots rest ∙ ap (λ o. child_or o (λ k. files_of_node trees slots k rest) (files_of_entry trees rest (leaf_in s))) opened)
        | inr f ↦
            let gone : shut.child ≡ None = ap (child_if (is_due marks from)) opened ∙ ap (λ b. if b then Some c else None) f in
            closed_files trees (due slots marks from) shut gone rest
            ∙ sym (read i n s c.0 e (ap (λ o. child_or o (λ d. Some d) None) opened) (or_left (marks c.0).changed (nat_le c.0 from) f) rest)
      ]
        where
          or_left : (a b : Bool) → (a || b) ≡ false → a ≡ false
          or_left true b e = absurd (cc e)
          or_left false b e = refl

  pub due_files : (q : Path) (i : ℕ) → files_of_node trees (due slots marks from) i q ≡ files_of_node trees slots i q
  due_files [] i = refl
  due_files (n ∷ rest) i = slot_files rest (due_files rest) i n (slots i n) refl

-- ---- slots of one node in a map

abbrev pub entry_if : (ℕ → Bool) → Key × Slot → Key × Slot
entry_if shows e = (e.0, slot_if shows e.1)

pub keys_kept : (shows : ℕ → Bool) (es : List (Key × Slot)) → keys_of (map (entry_if shows) es) ≡ keys_of es
keys_kept shows [] = refl
keys_kept shows (e ∷ es) = ap (λ ks. e.0 ∷ ks) (keys_kept shows es)

pub values_kept : (shows : ℕ → Bool) (es : List (Key × Slot)) → values_of (map (entry_if shows) es) ≡ map (slot_if shows) (values_of es)
values_kept shows [] = refl
values_kept shows (e ∷ es) = ap (λ ss. slot_if shows e.1 ∷ ss) (values_kept shows es)

pub lookup_kept : (shows : ℕ → Bool) (test : Key → Bool) (es : List (Key × Slot)) → lookup test (map (entry_if shows) es) ≡ through (lookup test es) (λ s. Some (slot_if shows s))
lookup_kept shows test [] = refl
lookup_kept shows test (e ∷ es) = elim (by_test (test e.0)) [
  | inl t ↦
      ap (λ b. cond b (Some (slot_if shows e.1)) (lookup test (map (entry_if shows) es))) t
      ∙ sym (ap (λ b. through (cond b (Some e.1) (lookup test es)) (λ s. Some (slot_if shows s))) t)
  | inr f ↦
      ap (λ b. cond b (Some (slot_if shows e.1)) (lookup test (map (entry_if shows) es))) f
      ∙ lookup_kept shows test es
      ∙ sym (ap (λ b. through (cond b (Some e.1) (lookup test es)) (λ s. Some (slot_if shows s))) f)
]
