-- The files of trees that were handed out are those of the opened trees.
use Rattle.std.proofs.Common.{ℕ, ◌≡◌, ◌<◌, ◌≤◌, true, false, List, [], ◌∷◌, ◌++◌, Option, Some, None, refl, sym, ap, subst, ◌∙◌, inl, inr, arith, if◌then◌else◌}
use Rattle.std.specs.List.{Contains}
use Rattle.gix_hash.specs.Id.{Id}
use Rattle.gix_object_tree.specs.Entry.{Item}
use Rattle.gix_object_nodes.specs.declared.node.NodeId.{NodeId}
use Rattle.gix_object_nodes.specs.declared.node.Slot.{Slot}
use Rattle.gix_object_nodes.specs.Files.{Bytes, Path, Leaf, Trees, is_null, leaf_of, through, named, tree_under, unless_tree, files_of_entry, files_of_tree}
use Rattle.gix_object_nodes.specs.Nodes.{Slots, child_or, child_of, leaf_in, files_of_slot, files_of_node, Way, onto, LeadsTo, IsForest}
use Rattle.gix_object_nodes.specs.Writing.{Ids, IsReached, unless_null, folder_item, slot_item, written_item, HasEntries}
use Rattle.gix_object_nodes.specs.Written.{HandedOut}
use Rattle.gix_object_nodes.specs.Below.{IsAnswered, IsDone}
use Rattle.gix_object_nodes.proofs.Paths.{by_test, onto-append}
use Rattle.gix_object_nodes.proofs.Ways.{down, child_no_file}
use Rattle.gix_object_nodes.proofs.ReachedTrees.{reached_child}

-- an entry of the null id has no files
null_entry : (trees : Trees) (rest : Path) (leaf : Leaf) → is_null leaf.id ≡ true → files_of_entry trees rest leaf ≡ None
null_entry trees [] leaf e = ap (λ b. if b then None else unless_tree (tree_under trees leaf) leaf) e
null_entry trees (n ∷ rest) leaf e = ap (λ b. if b then None else through (tree_under trees leaf) (λ items. through (named n items) (λ item. files_of_entry trees rest (leaf_of item)))) e

plain_entry : (trees : Trees) (rest : Path) (plain : Item) → through (unless_null plain) (λ item. files_of_entry trees rest (leaf_of item)) ≡ files_of_entry trees rest (leaf_of plain)
plain_entry trees rest plain = elim (by_test (is_null plain.id)) [
  | inl t ↦ ap (λ b. through (if b then None else Some plain) (λ item. files_of_entry trees rest (leaf_of item))) t ∙ sym (null_entry trees rest (leaf_of plain) t)
  | inr f ↦ ap (λ b. through (if b then None else Some plain) (λ item. files_of_entry trees rest (leaf_of item))) f
]

-- a folder's entry has the files of its tree
folder_entry : (trees : Trees) (rest : Path) (name : Bytes) (id : Id) (items : List Item) → trees id ≡ Some items → is_null id ≡ false
    → through (unless_null (folder_item name id)) (λ item. files_of_entry trees rest (leaf_of item)) ≡ files_of_tree trees items rest
folder_entry trees rest name id items stands some =
    ap (λ b. through (if b then None else Some (folder_item name id)) (λ item. files_of_entry trees rest (leaf_of item))) some ∙ by_path rest
  where
    by_path : (rest : Path) → files_of_entry trees rest (leaf_of (folder_item name id)) ≡ files_of_tree trees items rest
    by_path [] = ap (λ b. if b then None else unless_tree (trees id) (leaf_of (folder_item name id))) some ∙ ap (λ o. unless_tree o (leaf_of (folder_item name id))) stands
    by_path (n ∷ rest) =
        ap (λ b. if b then None else through (trees id) (λ xs. through (named n xs) (λ item. files_of_entry trees rest (leaf_of item)))) some
        ∙ ap (λ o. through o (λ xs. through (named n xs) (λ item. files_of_entry trees rest (leaf_of item)))) stands

pub no_files : (trees : Trees) (rest : Path) → files_of_tree trees [] rest ≡ None
no_files trees [] = refl
no_files trees (n ∷ rest) = refl

module _ (slots : Slots) (bound : ℕ) (ok : IsForest slots bound) (ids : Ids) (handed : List HandedOut) (base : Path) (at : ℕ) (done : (j : ℕ) → at < j → j < bound → IsReached slots base j → IsDone slots ids handed j)
    (trees : Trees) (has : (tree : HandedOut) → Contains handed tree → (trees tree.id ≡ Some tree.items) × (is_null tree.id ≡ false)) where
  below_it : (c : ℕ) → at < c → at ≤ c
  below_it c lt = omega arith

  -- a folder's files, from those of its tree
  one_child : (rest : Path) → ((j : ℕ) (items : List Item) → at ≤ j → IsReached slots base j → HasEntries ids (slots j) items → files_of_tree trees items rest ≡ files_of_node trees slots j rest)
      → (name : Bytes) (c : ℕ) → at < c → c < bound → IsReached slots base c → (o : Option Id) → ids c ≡ o
      → through (through o (λ id. unless_null (folder_item name id))) (λ item. files_of_entry trees rest (leaf_of item)) ≡ files_of_node trees slots c rest
  one_child rest later name c some within reached None e =
      let d = done c some within reached in
      let none : d.items ≡ [] = subst (λ x. IsAnswered x handed d.path d.items) e d.answered in
      sym (no_files trees rest) ∙ ap (λ xs. files_of_tree trees xs rest) (sym none) ∙ later c d.items (below_it c some) reached d.entries
  one_child rest later name c some within reached (Some id) e =
      let d = done c some within reached in
      let found : Contains handed (record { path = d.path; items = d.items; id = id }) = subst (λ x. IsAnswered x handed d.path d.items) e d.answered in
      let stands = has (record { path = d.path; items = d.items; id = id }) found in
      folder_entry trees rest name id d.items stands.0 stands.1 ∙ later c d.items (below_it c some) reached d.entries

  one_slot : (rest : Path) → ((j : ℕ) (items : List Item) → at ≤ j → IsReached slots base j → HasEntries ids (slots j) items → files_of_tree trees items rest ≡ files_of_node trees slots j rest)
      → (i : ℕ) (name : Bytes) → at ≤ i → IsReached slots base i → (o : Option Slot) → slots i name ≡ o
      → through (through o (written_item ids name)) (λ item. files_of_entry trees rest (leaf_of item)) ≡ through o (files_of_slot trees slots rest)
  one_slot rest later i name from reached None e = refl
  one_slot rest later i name from reached (Some s) e = by_child s.child refl ∙ split rest
    where
      split : (rest : Path) → child_or s.child (λ c. files_of_node trees slots c rest) (files_of_entry trees rest (leaf_in s)) ≡ files_of_slot trees slots rest s
      split [] = refl
      split (n ∷ rest) = refl

      by_child : (child : Option NodeId) → s.child ≡ child
          → through (child_or child (λ c. through (ids c) (λ id. unless_null (folder_item name id))) (unless_null (slot_item name s))) (λ item. files_of_entry trees rest (leaf_of item))
          ≡ child_or child (λ c. files_of_node trees slots c rest) (files_of_entry trees rest (leaf_in s))
      by_child None closed = plain_entry trees rest (slot_item name s)
      by_child (Some c) opened =
          let is : child_of (slots i name) ≡ Some c.0 = ap child_of e ∙ ap (λ o. child_or o (λ c. Some c) None) opened in
          let up : i < c.0 = ok.forward i name c.0 is in
          let some : at < c.0 = omega (arith, from) in
          one_child rest later name c.0 some (ok.within i name c.0 is) (reached_child slots base i c.0 name reached is) (ids c.0) refl

  pub tree_files : (q : Path) (j : ℕ) (items : List Item) → at ≤ j → IsReached slots base j → HasEntries ids (slots j) items → files_of_tree trees items q ≡ files_of_node trees slots j q
  tree_files [] j items from reached e = refl
  tree_files (n ∷ rest) j items from reached e =
      ap (λ o. through o (λ item. files_of_entry trees rest (leaf_of item))) (e n) ∙ one_slot rest (tree_files rest) j n from reached (slots j n) refl

-- what isn't written has the null id
null_is : (x : Item) → unless_null x ≡ None → is_null x.id ≡ true
null_is x e = elim (by_test (is_null x.id)) [
  | inl t ↦ t
  | inr f ↦ let some : Some x ≡ None = ap (λ b. if b then None else Some x) (sym f) ∙ e in absurd (cc some)
]

module _ (slots : Slots) (bound : ℕ) (ok : IsForest slots bound) (ids : Ids) (handed : List HandedOut) (base : Path) (at : ℕ) (done : (j : ℕ) → at < j → j < bound → IsReached slots base j → IsDone slots ids handed j)
    (some : (tree : HandedOut) → Contains handed tree → is_null tree.id ≡ false) (trees : Trees) where
  -- a folder that isn't written has no entries
  unwritten : (name : Bytes) (c : ℕ) → at < c → c < bound → IsReached slots base c → (o : Option Id) → ids c ≡ o → through o (λ id. unless_null (folder_item name id)) ≡ None → HasEntries ids (slots c) []
  unwritten name c up within reached None e none =
      let d = done c up within reached in
      let empty : d.items ≡ [] = subst (λ x. IsAnswered x handed d.path d.items) e d.answered in
      subst (HasEntries ids (slots c)) empty d.entries
  unwritten name c up within reached (Some id) e none =
      let d = done c up within reached in
      let found : Contains handed (record { path = d.path; items = d.items; id = id }) = subst (λ x. IsAnswered x handed d.path d.items) e d.answered in
      let not : is_null id ≡ false = some (record { path = d.path; items = d.items; id = id }) found in
      absurd (cc (sym (null_is (folder_item name id) none) ∙ not))

  none_in_slot : (rest : Path) → ((c : ℕ) → at ≤ c → IsReached slots base c → HasEntries ids (slots c) [] → files_of_node trees slots c rest ≡ None)
      → (j : ℕ) (name : Bytes) → at ≤ j → IsReached slots base j → (o : Option Slot) → slots j name ≡ o → through o (written_item ids name) ≡ None → through o (files_of_slot trees slots rest) ≡ None
  none_in_slot rest later j name from reached None e none = refl
  none_in_slot rest later j name from reached (Some s) e none = split rest ∙ by_child s.child refl none
    where
      split : (rest : Path) → files_of_slot trees slots rest s ≡ child_or s.child (λ c. files_of_node trees slots c rest) (files_of_entry trees rest (leaf_in s))
      split [] = refl
      split (n ∷ rest) = refl

      by_child : (child : Option NodeId) → s.child ≡ child
          → child_or child (λ c. through (ids c) (λ id. unless_null (folder_item name id))) (unless_null (slot_item name s)) ≡ None
          → child_or child (λ c. files_of_node trees slots c rest) (files_of_entry trees rest (leaf_in s)) ≡ None
      by_child None closed none = null_entry trees rest (leaf_in s) (null_is (slot_item name s) none)
      by_child (Some c) opened none =
          let is : child_of (slots j name) ≡ Some c.0 = ap child_of e ∙ ap (λ o. child_or o (λ c. Some c) None) opened in
          let up : j < c.0 = ok.forward j name c.0 is in
          let more : at < c.0 = omega (arith, from) in
          let to = reached_child slots base j c.0 name reached is in
          let le : at ≤ c.0 = omega arith in
          later c.0 le to (unwritten name c.0 more (ok.within j name c.0 is) to (ids c.0) refl none)

  -- no file is below a name without an entry
  pub no_entry : (rest : Path) (j : ℕ) (items : List Item) (name : Bytes) → at ≤ j → IsReached slots base j → HasEntries ids (slots j) items → named name items ≡ None → files_of_node trees slots j (name ∷ rest) ≡ None
  no_entry [] j items name from reached e none = none_in_slot [] (λ c le to empty. refl) j name from reached (slots j name) refl (sym (e name) ∙ none)
  no_entry (m ∷ rest) j items name from reached e none =
      none_in_slot (m ∷ rest) (λ c le to empty. no_entry rest c [] m le to empty refl) j name from reached (slots j name) refl (sym (e name) ∙ none)

-- the files of an opened tree are the root's below its path
pub files_below : (trees : Trees) (slots : Slots) (path : Path) (j : ℕ) (q : Path) → LeadsTo slots path j [] → files_of_node trees slots j q ≡ files_of_node trees slots 0 (path ++ q)
files_below trees slots path j q to = at_path q ∙ ap (files_of_node trees slots 0) (onto-append to.0 [] q ∙ ap (λ p. p ++ q) to.2)
  where
    at_end : (way : Path) (j : ℕ) → Way slots way j → files_of_node trees slots 0 (onto way []) ≡ None
    at_end [] j w = refl
    at_end (n ∷ way) j w = down trees slots way w.0 n [] w.1 ∙ child_no_file trees slots (slots w.0 n) j w.2

    at_path : (q : Path) → files_of_node trees slots j q ≡ files_of_node trees slots 0 (onto to.0 q)
    at_path [] = sym (at_end to.0 j to.1)
    at_path (n ∷ q) = sym (down trees slots to.0 j n q to.1)
