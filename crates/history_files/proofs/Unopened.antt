-- If two things have the same files without any tree, names lead into the same trees that aren't
-- opened: over no trees each of these is a file.
use Rattle.std.proofs.Common.{◌≡◌, ◌∙◌, ap, sym, subst, refl, ℕ, ◌&&◌, not, true, false, Bool, cond, List, [], ◌∷◌, Option, Some, None}
use Rattle.gix_hash.specs.Id.{Id}
use Rattle.gix_object_tree.specs.Entry.{Item}
use Rattle.gix_object_tree.specs.Mode.{is_tree_value}
use Rattle.gix_object_editor.specs.Asked.{ids_from, slot_into, trees_into, unopened_into}
use Rattle.gix_object_nodes.specs.Files.{Path, Leaf, Trees, files_of_entry, files_of_tree, is_null, leads_on, leaf_of, named, no_trees, through, tree_under, unless_tree}
use Rattle.gix_object_nodes.specs.Nodes.{Slots, child_or, files_of_node, files_of_slot, leaf_in}
use Rattle.gix_object_nodes.specs.declared.node.NodeId.{NodeId}
use Rattle.gix_object_nodes.specs.declared.node.Slot.{Slot}
use Rattle.history_model.proofs.WholeLists.{clash, none_is_some}
use Rattle.history_files.specs.Lookups.{items_into}
use Rattle.gix_object_editor.proofs.Asking.{closed_slot}
use Rattle.gix_object_editor.proofs.Leafs.{entry_is_file}
use Rattle.std.proofs.lemmas.Option.{same_Some}

-- ---- an entry alone

null_files : (leaf : Leaf) (rest : Path) → is_null leaf.id ≡ true → files_of_entry no_trees rest leaf ≡ None
null_files leaf [] e = ap (λ b. cond b None (unless_tree (tree_under no_trees leaf) leaf)) e
null_files leaf (name ∷ rest) e =
    ap (λ b. cond b None (through (tree_under no_trees leaf) (λ items. through (named name items) (λ item. files_of_entry no_trees rest (leaf_of item))))) e

is_gone : (leaf : Leaf) → files_of_entry no_trees [] leaf ≡ None → is_null leaf.id ≡ true
is_gone leaf none = go (is_null leaf.id) refl
  where
    go : (b : Bool) → is_null leaf.id ≡ b → is_null leaf.id ≡ true
    go true e = e
    go false e = none_is_some leaf (sym none ∙ entry_is_file leaf e)

-- an entry with the null id leads into no tree
null_into : (trees : Trees) (rest : Path) (leaf : Leaf) → is_null leaf.id ≡ true → trees_into trees rest leaf ≡ []
null_into trees rest leaf e = closed rest (ap (λ b. is_tree_value leaf.mode.value && not b) e ∙ none (is_tree_value leaf.mode.value))
  where
    none : (b : Bool) → (b && not true) ≡ false
    none true = refl
    none false = refl

    closed : (rest : Path) → leads_on leaf ≡ false → trees_into trees rest leaf ≡ []
    closed [] e = ap (λ b. cond b (leaf.id ∷ []) []) e
    closed (name ∷ rest) e = ap (λ b. cond b (leaf.id ∷ ids_from (through (trees leaf.id) (named name)) (λ item. trees_into trees rest (leaf_of item))) []) e

-- ---- a slot without files

closed_files : (slots : Slots) (s : Slot) → s.child ≡ None → files_of_slot no_trees slots [] s ≡ files_of_entry no_trees [] (leaf_in s)
closed_files slots s e = ap (λ o. child_or o (λ c. None) (files_of_entry no_trees [] (leaf_in s))) e

slot_hollow : (trees : Trees) (slots : Slots) (rest : Path) (s : Slot) → ((r : Path) → files_of_slot no_trees slots r s ≡ None) → slot_into trees slots rest s ≡ []
slot_hollow trees slots [] s none = go s.child refl
  where
    go : (child : Option NodeId) → s.child ≡ child → slot_into trees slots [] s ≡ []
    go None e = closed_slot trees slots [] s e ∙ null_into trees [] (leaf_in s) (is_gone (leaf_in s) (sym (closed_files slots s e) ∙ none []))
    go (Some c) e = ap (λ o. child_or o (λ c. []) (trees_into trees [] (leaf_in s))) e
slot_hollow trees slots (name ∷ rest) s none = go s.child refl (λ t h. slot_hollow trees slots rest t h)
  where
    by_slot : (c : ℕ) (o : Option Slot) → slots c name ≡ o → ((t : Slot) → ((r : Path) → files_of_slot no_trees slots r t ≡ None) → slot_into trees slots rest t ≡ [])
        → ((r : Path) → through (slots c name) (files_of_slot no_trees slots r) ≡ None) → ids_from o (slot_into trees slots rest) ≡ []
    by_slot c None e later h = refl
    by_slot c (Some t) e later h = later t (λ r. sym (ap (λ o. through o (files_of_slot no_trees slots r)) e) ∙ h r)

    go : (child : Option NodeId) → s.child ≡ child → ((t : Slot) → ((r : Path) → files_of_slot no_trees slots r t ≡ None) → slot_into trees slots rest t ≡ [])
        → slot_into trees slots (name ∷ rest) s ≡ []
    go None e later = closed_slot trees slots (name ∷ rest) s e ∙ null_into trees (name ∷ rest) (leaf_in s) (is_gone (leaf_in s) (sym (closed_files slots s e) ∙ none []))
    go (Some c) e later =
        ap (λ o. child_or o (λ c. ids_from (slots c name) (slot_into trees slots rest)) (trees_into trees (name ∷ rest) (leaf_in s))) e
        ∙ by_slot c.0 (slots c.0 name) refl later
        (λ r. sym (ap (λ o. child_or o (λ c. through (slots c name) (files_of_slot no_trees slots r)) (files_of_entry no_trees (name ∷ r) (leaf_in s))) e) ∙ none (name ∷ r))

-- ---- an opened tree and entries with the same files

module _ (trees : Trees) (slots : Slots) (rest : Path) where
  -- a slot with the files of an entry
  entry_slot : (s : Slot) (item : Item) → ((r : Path) → files_of_slot no_trees slots r s ≡ files_of_entry no_trees r (leaf_of item))
      → slot_into trees slots rest s ≡ trees_into trees rest (leaf_of item)
  entry_slot s item same = go (is_null item.id) refl
    where
      one_leaf : (b : Bool) → is_null (leaf_in s).id ≡ b → files_of_entry no_trees [] (leaf_in s) ≡ Some (leaf_of item) → leaf_in s ≡ leaf_of item
      one_leaf true e h = none_is_some (leaf_of item) (sym (null_files (leaf_in s) [] e) ∙ h)
      one_leaf false e h = same_Some (leaf_in s) (leaf_of item) (sym (entry_is_file (leaf_in s) e) ∙ h)

      by_child : (child : Option NodeId) → s.child ≡ child → files_of_slot no_trees slots [] s ≡ Some (leaf_of item) → slot_into trees slots rest s ≡ trees_into trees rest (leaf_of item)
      by_child None e h =
          closed_slot trees slots rest s e
          ∙ ap (trees_into trees rest) (one_leaf (is_null (leaf_in s).id) refl (sym (closed_files slots s e) ∙ h))
      by_child (Some c) e h = none_is_some (leaf_of item) (sym (ap (λ o. child_or o (λ c. None) (files_of_entry no_trees [] (leaf_in s))) e) ∙ h)

      go : (b : Bool) → is_null item.id ≡ b → slot_into trees slots rest s ≡ trees_into trees rest (leaf_of item)
      go true e = slot_hollow trees slots rest s (λ r. same r ∙ null_files (leaf_of item) r e) ∙ sym (null_into trees rest (leaf_of item) e)
      go false e = by_child s.child refl (same [] ∙ entry_is_file (leaf_of item) e)

  by_both : (o : Option Slot) (p : Option Item) → ((r : Path) → through o (files_of_slot no_trees slots r) ≡ through p (λ item. files_of_entry no_trees r (leaf_of item)))
      → ids_from o (slot_into trees slots rest) ≡ ids_from p (λ item. trees_into trees rest (leaf_of item))
  by_both None None same = refl
  by_both None (Some item) same = sym (null_into trees rest (leaf_of item) (is_gone (leaf_of item) (sym (same []))))
  by_both (Some s) None same = slot_hollow trees slots rest s same
  by_both (Some s) (Some item) same = entry_slot s item same

pub same_into : (trees : Trees) (slots : Slots) (items : List Item) → ((path : Path) → files_of_node no_trees slots 0 path ≡ files_of_tree no_trees items path)
    → (path : Path) → unopened_into trees slots 0 path ≡ items_into trees items path
same_into trees slots items same [] = refl
same_into trees slots items same (name ∷ rest) = by_both trees slots rest (slots 0 name) (named name items) (λ r. same (name ∷ r))

-- no entries lead on
pub none_into : (trees : Trees) (names : Path) → items_into trees [] names ≡ []
none_into trees [] = refl
none_into trees (name ∷ names) = refl
