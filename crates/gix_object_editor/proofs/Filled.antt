-- Files below the slots of an opened tree.
use Rattle.std.proofs.Common.{ℕ, ◌≡◌, true, cond, List, [], ◌∷◌, Option, Some, None, refl, sym, ap, subst, ◌∙◌, inl, inr, if◌then◌else◌}
use Rattle.std.specs.List.{AllByRecursion, IsDistinct}
use Rattle.std.specs.Map.{lookup, keys_of, values_of}
use Rattle.std.specs.Ordering.{eq_by_cmp}
use Rattle.std.proofs.lemmas.Map.Keys.{IsDistinct-tail}
use Rattle.gix_hash.specs.Id.{id_of}
use Rattle.gix_object_nodes.specs.declared.node.Slot.{Slot}
use Rattle.gix_object_nodes.specs.Files.{Bytes, Path, Leaf, Trees, is_null, through, tree_under, unless_tree, named, leaf_of, files_of_entry, HasFile}
use Rattle.gix_object_nodes.specs.Nodes.{Key, Slots, child_or, child_of, leaf_in, files_of_slot, files_of_node, HasFileBelow}
use Rattle.gix_object_nodes.proofs.Paths.{by_test}
use Rattle.gix_object_nodes.proofs.Slots.{key_cmp, is_named}
use Rattle.gix_object_nodes.proofs.Ways.{child_files, child_no_file}
use Rattle.gix_object_nodes.proofs.ReachedTrees.{found_first, found_later}

-- the slot has no file, over each table of trees
abbrev pub NoFile : Slots → Slot → Type 0
NoFile slots s = (trees : Trees) (rest : Path) → files_of_slot trees slots rest s ≡ None

abbrev pub NoFiles : Slots → List Slot → Type 0
NoFiles slots ss = AllByRecursion (NoFile slots) ss

-- each of the slots is in the node
abbrev pub AreOf : (Bytes → Option Slot) → List Slot → Type 0
AreOf slots ss = AllByRecursion (λ (s : Slot). (m : Bytes) × (slots m ≡ Some s)) ss

pub all_of : (es : List (Key × Slot)) (slots : Bytes → Option Slot) → IsDistinct (eq_by_cmp key_cmp) (keys_of es) → ((m : Bytes) (s : Slot) → lookup (is_named m) es ≡ Some s → slots m ≡ Some s) → AreOf slots (values_of es)
all_of [] slots apart h = tt
all_of (x ∷ es) slots apart h = (
  (x.0.items, h x.0.items x.1 (found_first x es)),
  all_of es slots (IsDistinct-tail (eq_by_cmp key_cmp) x.0 (keys_of es) apart) (λ m s e. h m s (found_later m x es s apart e)),
)

none_of : (slots : Slots) (es : List (Key × Slot)) (m : Bytes) (s : Slot) → NoFiles slots (values_of es) → lookup (is_named m) es ≡ Some s → NoFile slots s
none_of slots [] m s all e = absurd (cc e)
none_of slots (x ∷ es) m s all e = elim (by_test (is_named m x.0)) [
  | inl t ↦
      let same : Some x.1 ≡ Some s = ap (λ b. cond b (Some x.1) (lookup (is_named m) es)) (sym t) ∙ e in
      let is : x.1 ≡ s = cc in
      subst (NoFile slots) is all.0
  | inr f ↦ none_of slots es m s all.1 (ap (λ b. cond b (Some x.1) (lookup (is_named m) es)) (sym f) ∙ e)
]

pub none_below : (slots : Slots) (at : ℕ) (es : List (Key × Slot)) → ((m : Bytes) → slots at m ≡ lookup (is_named m) es) → NoFiles slots (values_of es)
    → (trees : Trees) (m : Bytes) (rest : Path) → files_of_node trees slots at (m ∷ rest) ≡ None
none_below slots at es same all trees m rest = by_slot (lookup (is_named m) es) refl
  where
    by_slot : (o : Option Slot) → lookup (is_named m) es ≡ o → through (slots at m) (files_of_slot trees slots rest) ≡ None
    by_slot None e = ap (λ o. through o (files_of_slot trees slots rest)) (same m ∙ e)
    by_slot (Some s) e = ap (λ o. through o (files_of_slot trees slots rest)) (same m ∙ e) ∙ none_of slots es m s all e trees rest

-- ---- one slot

closed_slot : (trees : Trees) (slots : Slots) (s : Slot) → s.child ≡ None → (rest : Path) → files_of_slot trees slots rest s ≡ files_of_entry trees rest (leaf_in s)
closed_slot trees slots s closed [] = ap (λ o. child_or o (λ c. None) (files_of_entry trees [] (leaf_in s))) closed
closed_slot trees slots s closed (m ∷ rest) = ap (λ o. child_or o (λ c. files_of_node trees slots c (m ∷ rest)) (files_of_entry trees (m ∷ rest) (leaf_in s))) closed

pub null_none : (trees : Trees) (leaf : Leaf) → is_null leaf.id ≡ true → (rest : Path) → files_of_entry trees rest leaf ≡ None
null_none trees leaf null [] = ap (λ b. if b then None else unless_tree (tree_under trees leaf) leaf) null
null_none trees leaf null (m ∷ rest) =
    ap (λ b. if b then None else through (tree_under trees leaf) (λ items. through (named m items) (λ item. files_of_entry trees rest (leaf_of item)))) null

pub no_file_null : (slots : Slots) (s : Slot) → s.child ≡ None → is_null (id_of s.oid) ≡ true → NoFile slots s
no_file_null slots s closed null = λ trees rest. closed_slot trees slots s closed rest ∙ null_none trees (leaf_in s) null rest

pub no_file_child : (slots : Slots) (s : Slot) (c : ℕ) → child_of (Some s) ≡ Some c → ((trees : Trees) (m : Bytes) (rest : Path) → files_of_node trees slots c (m ∷ rest) ≡ None) → NoFile slots s
no_file_child slots s c e none = below
  where
    below : (trees : Trees) (rest : Path) → files_of_slot trees slots rest s ≡ None
    below trees [] = child_no_file trees slots (Some s) c e
    below trees (m ∷ rest) = child_files trees slots m rest (Some s) c e ∙ none trees m rest

pub found_entry : (trees : Trees) (slots : Slots) (at : ℕ) (m : Bytes) (s : Slot) → slots at m ≡ Some s → s.child ≡ None → HasFile trees (leaf_in s) → HasFileBelow trees slots at
found_entry trees slots at m s stands closed h =
    (m, h.0, h.1, ap (λ o. through o (files_of_slot trees slots h.0)) stands ∙ closed_slot trees slots s closed h.0 ∙ h.2)

pub found_child : (trees : Trees) (slots : Slots) (at : ℕ) (m : Bytes) (s : Slot) (c : ℕ) → slots at m ≡ Some s → child_of (Some s) ≡ Some c → HasFileBelow trees slots c → HasFileBelow trees slots at
found_child trees slots at m s c stands e h =
    (m, h.0 ∷ h.1, h.2, ap (λ o. through o (files_of_slot trees slots (h.0 ∷ h.1))) stands ∙ child_files trees slots h.0 h.1 (Some s) c e ∙ h.3)
