-- What is got at a path, and the files.
use Rattle.std.proofs.Common.{ℕ, ◌≡◌, ◌⊎◌, Bool, true, false, [], ◌∷◌, Option, Some, None, refl, sym, ap, subst, ◌++◌, ◌∙◌, inl, inr, if◌then◌else◌}
use Rattle.gix_object_tree.specs.Entry.{Item}
use Rattle.gix_object_tree.specs.Mode.{is_tree_value}
use Rattle.gix_object_nodes.specs.declared.node.NodeId.{NodeId}
use Rattle.gix_object_nodes.specs.declared.node.Slot.{Slot}
use Rattle.gix_object_nodes.specs.Files.{Bytes, Path, Leaf, Trees, is_null, through, leaf_of, tree_under, unless_tree, files_of_entry}
use Rattle.gix_object_nodes.specs.Nodes.{Slots, child_or, child_of, leaf_in, entry_in, entry_at, slot_entry, entry_from, files_of_slot, files_of_node, Way, onto, LeadsTo}
use Rattle.gix_object_editor.proofs.Entered.{none_met}
use Rattle.gix_object_editor.proofs.Standing.{child_entry, entry_below as entry_down}
use Rattle.gix_object_editor.proofs.Edits.{entry_of}
use Rattle.gix_object_editor.proofs.Folders.{below_base}
use Rattle.gix_object_nodes.proofs.Ways.{down}

-- the leaf of an entry that a slot is
item_leaf : (name : Bytes) (s : Slot) (item : Item) → entry_in name (Some s) ≡ Some item → leaf_of item ≡ leaf_in s
item_leaf name s item e = ap leaf_of (one item _ (sym e))
  where
    one : (a b : Item) → Some a ≡ Some b → a ≡ b
    one a b h = cc

-- ---- a file that is there

at_last : (trees : Trees) (slots : Slots) (name : Bytes) (leaf : Leaf) (item : Item) (o : Option Slot) → through o (files_of_slot trees slots []) ≡ Some leaf → entry_in name o ≡ Some item → leaf_of item ≡ leaf
at_last trees slots name leaf item None f e = absurd (cc f)
at_last trees slots name leaf item (Some s) f e = item_leaf name s item e ∙ (entry_of trees leaf s s.child refl f).0

below_last : (trees : Trees) (slots : Slots) (next : Bytes) (rest : Path) (leaf : Leaf) (item : Item) (s : Slot) (child : Option NodeId)
    → ((c : ℕ) → files_of_node trees slots c (next ∷ rest) ≡ Some leaf → entry_at slots c (next ∷ rest) ≡ Some item → leaf_of item ≡ leaf)
    → child_or child (λ c. files_of_node trees slots c (next ∷ rest)) (files_of_entry trees (next ∷ rest) (leaf_in s)) ≡ Some leaf
    → through (child_or child (λ c. Some c) None) (λ c. entry_at slots c (next ∷ rest)) ≡ Some item → leaf_of item ≡ leaf
below_last trees slots next rest leaf item s None deeper f e = absurd (cc e)
below_last trees slots next rest leaf item s (Some c) deeper f e = deeper c.0 f e

below_slot : (trees : Trees) (slots : Slots) (next : Bytes) (rest : Path) (leaf : Leaf) (item : Item) (o : Option Slot)
    → ((c : ℕ) → files_of_node trees slots c (next ∷ rest) ≡ Some leaf → entry_at slots c (next ∷ rest) ≡ Some item → leaf_of item ≡ leaf)
    → through o (files_of_slot trees slots (next ∷ rest)) ≡ Some leaf → through (child_of o) (λ c. entry_at slots c (next ∷ rest)) ≡ Some item → leaf_of item ≡ leaf
below_slot trees slots next rest leaf item None deeper f e = absurd (cc f)
below_slot trees slots next rest leaf item (Some s) deeper f e = below_last trees slots next rest leaf item s s.child deeper f e

pub got_file : (trees : Trees) (slots : Slots) (p : Path) (i : ℕ) (leaf : Leaf) (item : Item) → files_of_node trees slots i p ≡ Some leaf → entry_at slots i p ≡ Some item → leaf_of item ≡ leaf
got_file trees slots [] i leaf item f e = absurd (cc f)
got_file trees slots (name ∷ []) i leaf item f e = at_last trees slots name leaf item (slots i name) f e
got_file trees slots (name ∷ next ∷ rest) i leaf item f e =
    below_slot trees slots next rest leaf item (slots i name) (λ c g h. got_file trees slots (next ∷ rest) c leaf item g h) f e

-- ---- what is got

-- an entry without its tree is a file
entry_alone : (trees : Trees) (leaf : Leaf) → is_null leaf.id ≡ false → trees leaf.id ≡ None → files_of_entry trees [] leaf ≡ Some leaf
entry_alone trees leaf some gone =
    ap (λ b. if b then None else unless_tree (tree_under trees leaf) leaf) some ∙ by_mode (is_tree_value leaf.mode.value) gone
  where
    by_mode : (b : Bool) → trees leaf.id ≡ None → unless_tree (if b then trees leaf.id else None) leaf ≡ Some leaf
    by_mode true e = ap (λ o. unless_tree o leaf) e
    by_mode false e = refl

pub got_there : (trees : Trees) (slots : Slots) (p : Path) (i : ℕ) (way : Path) (item : Item) → Way slots way i → entry_at slots i p ≡ Some item → is_null item.id ≡ false → trees item.id ≡ None
    → (files_of_node trees slots i p ≡ Some (leaf_of item)) ⊎ ((j : ℕ) × LeadsTo slots (onto way p) j [])
got_there trees slots [] i way item w e some gone = absurd (cc e)
got_there trees slots (name ∷ []) i way item w e some gone = by_slot (slots i name) refl e
  where
    by_child : (s : Slot) (child : Option NodeId) → s.child ≡ child → slots i name ≡ Some s → leaf_of item ≡ leaf_in s
        → (child_or child (λ c. None) (files_of_entry trees [] (leaf_in s)) ≡ Some (leaf_of item)) ⊎ ((j : ℕ) × LeadsTo slots (onto way (name ∷ [])) j [])
    by_child s None is stands same = inl (ap (files_of_entry trees []) (sym same) ∙ entry_alone trees (leaf_of item) some gone)
    by_child s (Some c) is stands same = inr (c.0, (name ∷ way, (i, w, ap child_of stands ∙ ap (λ o. child_or o (λ k. Some k) None) is), refl))

    by_slot : (o : Option Slot) → slots i name ≡ o → entry_in name o ≡ Some item → (through o (files_of_slot trees slots []) ≡ Some (leaf_of item)) ⊎ ((j : ℕ) × LeadsTo slots (onto way (name ∷ [])) j [])
    by_slot None stands h = absurd (cc h)
    by_slot (Some s) stands h = by_child s s.child refl stands (item_leaf name s item h)
got_there trees slots (name ∷ next ∷ rest) i way item w e some gone =
    by_slot (λ c u h. got_there trees slots (next ∷ rest) c (name ∷ way) item u h some gone) (slots i name) refl e
  where
    by_child : ((c : ℕ) → Way slots (name ∷ way) c → entry_at slots c (next ∷ rest) ≡ Some item → (files_of_node trees slots c (next ∷ rest) ≡ Some (leaf_of item)) ⊎ ((j : ℕ) × LeadsTo slots (onto way (name ∷ next ∷ rest)) j []))
        → (s : Slot) (child : Option NodeId) → s.child ≡ child → slots i name ≡ Some s → through (child_or child (λ c. Some c) None) (λ c. entry_at slots c (next ∷ rest)) ≡ Some item
        → (child_or child (λ c. files_of_node trees slots c (next ∷ rest)) (files_of_entry trees (next ∷ rest) (leaf_in s)) ≡ Some (leaf_of item)) ⊎ ((j : ℕ) × LeadsTo slots (onto way (name ∷ next ∷ rest)) j [])
    by_child deeper s None is stands h = absurd (cc h)
    by_child deeper s (Some c) is stands h = deeper c.0 (i, w, ap child_of stands ∙ ap (λ o. child_or o (λ k. Some k) None) is) h

    by_slot : ((c : ℕ) → Way slots (name ∷ way) c → entry_at slots c (next ∷ rest) ≡ Some item → (files_of_node trees slots c (next ∷ rest) ≡ Some (leaf_of item)) ⊎ ((j : ℕ) × LeadsTo slots (onto way (name ∷ next ∷ rest)) j []))
        → (o : Option Slot) → slots i name ≡ o → through (child_of o) (λ c. entry_at slots c (next ∷ rest)) ≡ Some item
        → (through o (files_of_slot trees slots (next ∷ rest)) ≡ Some (leaf_of item)) ⊎ ((j : ℕ) × LeadsTo slots (onto way (name ∷ next ∷ rest)) j [])
    by_slot deeper None stands h = absurd (cc h)
    by_slot deeper (Some s) stands h = by_child deeper s s.child refl stands h

-- ---- below an opened tree

same_below : (trees : Trees) (slots : Slots) (base : Path) (j : ℕ) (p : Path) (item : Item) (leads : LeadsTo slots base j []) → entry_at slots j p ≡ Some item
    → files_of_node trees slots 0 (base ++ p) ≡ files_of_node trees slots j p
same_below trees slots base j [] item leads e = absurd (cc e)
same_below trees slots base j (name ∷ rest) item leads e =
    ap (files_of_node trees slots 0) (sym (below_base leads.0 base (name ∷ rest) leads.2)) ∙ down trees slots leads.0 j name rest leads.1

pub got_file_below : (trees : Trees) (slots : Slots) (base : Path) (j : ℕ) (p : Path) (leaf : Leaf) (item : Item) → LeadsTo slots base j [] → files_of_node trees slots 0 (base ++ p) ≡ Some leaf
    → entry_at slots j p ≡ Some item → leaf_of item ≡ leaf
got_file_below trees slots base j p leaf item leads f e = got_file trees slots p j leaf item (sym (same_below trees slots base j p item leads e) ∙ f) e

pub got_below : (trees : Trees) (slots : Slots) (base : Path) (j : ℕ) (p : Path) (item : Item) → LeadsTo slots base j [] → entry_at slots j p ≡ Some item → is_null item.id ≡ false → trees item.id ≡ None
    → (files_of_node trees slots 0 (base ++ p) ≡ Some (leaf_of item)) ⊎ ((k : ℕ) × LeadsTo slots (base ++ p) k [])
got_below trees slots base j p item leads e some gone = elim (got_there trees slots p j leads.0 item leads.1 e some gone) [
  | inl file ↦ inl (same_below trees slots base j p item leads e ∙ file)
  | inr opened ↦ inr (opened.0, subst (λ q. LeadsTo slots q opened.0 []) (below_base leads.0 base p leads.2) opened.1)
]

-- ---- it is the entry that is there

pub got_entry : (trees : Trees) (slots : Slots) (p : Path) (i : ℕ) (item : Item) → entry_at slots i p ≡ Some item → entry_from none_met trees slots i p ≡ Some (leaf_of item)
got_entry trees slots [] i item e = absurd (cc e)
got_entry trees slots (name ∷ []) i item e = by_slot (slots i name) e
  where
    by_slot : (o : Option Slot) → entry_in name o ≡ Some item → through o (slot_entry none_met trees slots []) ≡ Some (leaf_of item)
    by_slot None h = absurd (cc h)
    by_slot (Some s) h = ap Some (sym (item_leaf name s item h))
got_entry trees slots (name ∷ next ∷ rest) i item e = by_child (λ c h. got_entry trees slots (next ∷ rest) c item h) (child_of (slots i name)) refl e
  where
    by_child : ((c : ℕ) → entry_at slots c (next ∷ rest) ≡ Some item → entry_from none_met trees slots c (next ∷ rest) ≡ Some (leaf_of item)) → (o : Option ℕ) → child_of (slots i name) ≡ o
        → through o (λ c. entry_at slots c (next ∷ rest)) ≡ Some item → through (slots i name) (slot_entry none_met trees slots (next ∷ rest)) ≡ Some (leaf_of item)
    by_child deeper None link h = absurd (cc h)
    by_child deeper (Some c) link h = child_entry none_met trees slots next rest (slots i name) c link ∙ deeper c h

pub got_entry_below : (trees : Trees) (slots : Slots) (base : Path) (j : ℕ) (p : Path) (item : Item) → LeadsTo slots base j [] → entry_at slots j p ≡ Some item → entry_from none_met trees slots 0 (base ++ p) ≡ Some (leaf_of item)
got_entry_below trees slots base j [] item leads e = absurd (cc e)
got_entry_below trees slots base j (n ∷ rest) item leads e =
    ap (entry_from none_met trees slots 0) (sym (below_base leads.0 base (n ∷ rest) leads.2)) ∙ entry_down none_met trees slots leads.0 j n rest leads.1 ∙ got_entry trees slots (n ∷ rest) j item e
