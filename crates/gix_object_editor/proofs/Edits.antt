-- Edits below the root, after a walk down.
use Rattle.std.proofs.Common.{Option, Bool, false, subst, ◌-◌, ◌≤◌, take, ℕ, suc, ◌≡◌, ◌≢◌, ◌<◌, ◌+◌, List, [], ◌∷◌, ◌++◌, Some, None, refl, sym, ap, ◌∙◌, arith, zero, inl, inr, length, get_or, drop, if◌then◌else◌, true, ◌==◌, eqb-true}
use Rattle.std.specs.Prelude.{is_some}
use Rattle.std.specs.Borrow.{Bor}
use Rattle.std.proofs.lemmas.List.{get_or-map, length-drop, take_all}
use Rattle.std.proofs.lemmas.List.Elements.{All-map}
use Rattle.gix_object_tree.specs.Entry.{Item}
use Rattle.gix_object_nodes.specs.declared.node.NodeId.{NodeId}
use Rattle.gix_hash.specs.Id.{Id, id_of}
use Rattle.gix_object_nodes.specs.declared.node.Slot.{Slot}
use Rattle.gix_object_lookup.specs.Table.{Table}
use Rattle.gix_object_editor.specs.declared.tree.editor.error.Error.{Error}
use Rattle.gix_object_editor.specs.declared.tree.editor.error.Error.TheVariants.{EmptyPathComponent, FindExistingObject, CannotRemoveNonLeaf, MalformedTree, EmptyTree, Memory}
use Rattle.gix_object_editor.specs.Editor.{EditFault, LeafFault, IsFolder, IsTreeNamed, LeadsThrough, LeadsInto}
use Rattle.gix_object_editor.specs.Refusals.{OpeningFault, FolderFault}
use Rattle.gix_object_nodes.specs.Files.{Bytes, Path, Leaf, FileMap, Trees, HasNoneBelow, NamesAreFull, is_null, through, tree_under, unless_tree, files_of_entry, behind, removed, put, put_at}
use Rattle.gix_object_editor.specs.Stored.{HasStored, IsOpened}
use Rattle.gix_object_nodes.specs.Nodes.{Slots, child_or, child_of, leaf_in, files_of_slot, files_of_node, onto, Way, LeadsTo, IsFolderAt, IsStoppedAt, IsUnopened, AreFilled, IsForest}
use Rattle.gix_object_nodes.proofs.Ways.{down, fewer}
use Rattle.gix_object_editor.proofs.SlotChange.{removes, removes_nothing}
use Rattle.gix_object_editor.proofs.Opening.{at_or_off}
use Rattle.gix_object_nodes.proofs.Paths.{onto-append}
use Rattle.gix_object_editor.proofs.Walked.{names, names_length, names_step}

-- ---- names

pub empty_of : (xs : List ℕ) → (length xs == 0) ≡ true → xs ≡ []
empty_of [] e = refl
empty_of (x ∷ xs) e = let zero_long : suc (length xs) ≡ 0 = eqb-true (suc (length xs)) 0 e in absurd (omega arith)

pub two_names : (path : List (Bor (List ℕ))) (i : ℕ) → i + 1 < length path → (m : Bytes) × (more : Path) × (names (drop i path) ≡ get_or (names path) i [] ∷ m ∷ more)
two_names [] i e = absurd (omega arith)
two_names (p ∷ []) zero e = absurd (omega arith)
two_names (p ∷ q ∷ path) zero e = (q.now, names path, refl)
two_names (p ∷ path) (suc i) e = let less : i + 1 < length path = omega arith in two_names path i less

-- the rest of a path, and the first of its names
pub rest_is : (path : List (Bor (List ℕ))) (i : ℕ) → take (length path - i) (drop i path) ≡ drop i path
rest_is path i = let less : length (drop i path) ≤ length path - i = omega (arith, length-drop i path) in take_all (length path - i) (drop i path) less

-- as many as are left
pub left_names : (path : List (Bor (List ℕ))) (i : ℕ) → i < length path
    → (length (take (length path - i) (drop i path)) ≡ length path - i) × (names (take (length path - i) (drop i path)) ≡ get_or (names path) i [] ∷ names (drop (i + 1) path)) × (take (length path - i) (drop i path) ≡ drop i path)
left_names path i lt =
    let same = rest_is path i in
    let none : Bor (List ℕ) = record { ref_ptr = (0, 0); now = [] } in
    (ap length same ∙ length-drop i path, ap names same ∙ names_step path i none lt ∙ ap (λ n. n ∷ names (drop (i + 1) path)) (sym (get_or-map (λ (x : Bor (List ℕ)). x.now) path i none [] lt)), same)

pub empty_name : (path : List (Bor (List ℕ))) (i : ℕ) (d : Bor (List ℕ)) → i < length path → (get_or path i d).now ≡ [] → NamesAreFull (names path) → ⊥
empty_name path i d lt none full =
    let more : i < length (names path) = omega (arith, names_length path) in
    full.1 i d.now more (get_or-map (λ (n : Bor (List ℕ)). n.now) path i d d.now lt ∙ none)

pub full_names : (path : List (Bor (List ℕ))) → length path ≢ 0 → ((k : ℕ) (d : Bor (List ℕ)) → k < length path → (get_or path k d).now ≢ []) → NamesAreFull (names path)
full_names [] some full = absurd (some refl)
full_names (p ∷ path) some full = (λ e. cc, All-map (λ name. name ≢ []) (λ (n : Bor (List ℕ)). n.now) (p ∷ path) full)

-- ---- removals

module _ (honest : Type 0) (table : Table) (old mid : Slots) (bound more : ℕ) (ok : IsForest old bound) (opened : IsOpened honest table old mid bound more) (path : Path) (at : ℕ) where
  pub removes_at : (new : Slots) (name : Bytes) (rest : Path) → LeadsTo mid path at rest → rest ≡ name ∷ [] → new at name ≡ None
      → ((i : ℕ) (m : Bytes) → ((i ≡ at) → (m ≡ name) → ⊥) → new i m ≡ mid i m) → honest → (trees : Trees) → HasStored table trees
      → (q : Path) → files_of_node trees new 0 q ≡ removed path (files_of_node trees old 0) q
  removes_at new name rest way is gone others h trees has q =
      removes trees mid new more opened.forest at name way.0 way.1 others gone q
      ∙ ap (λ x. if is_some (behind (onto way.0 (name ∷ [])) q) then None else x) (opened.files h trees has q 0 ok.rooted)
      ∙ ap (λ p. removed p (files_of_node trees old 0) q) (ap (onto way.0) (sym is) ∙ way.2)

  pub removes_none : (name m : Bytes) (k rest : Path) → LeadsTo mid path at rest → rest ≡ name ∷ m ∷ k → IsFolderAt mid at name None → honest → (trees : Trees) → HasStored table trees
      → (q : Path) → files_of_node trees mid 0 q ≡ removed path (files_of_node trees old 0) q
  removes_none name m k rest way is plain h trees has q =
      removes_nothing trees mid at name way.0 m k way.1 (plain trees) q
      ∙ ap (λ x. if is_some (behind (onto way.0 (name ∷ m ∷ k)) q) then None else x) (opened.files h trees has q 0 ok.rooted)
      ∙ ap (λ p. removed p (files_of_node trees old 0) q) (ap (onto way.0) (sym is) ∙ way.2)

  pub upserts_at : (new : Slots) (leaf : Leaf) (rest : Path) → LeadsTo mid path at rest
      → ((trees : Trees) (way : Path) → Way mid way at → (q : Path) → files_of_node trees new 0 q ≡ put trees (onto way rest) leaf (files_of_node trees mid 0) q)
      → honest → (trees : Trees) → HasStored table trees → (q : Path) → files_of_node trees new 0 q ≡ put trees path leaf (files_of_node trees old 0) q
  upserts_at new leaf rest way puts h trees has q =
      puts trees way.0 way.1 q
      ∙ ap (λ p. put trees p leaf (files_of_node trees mid 0) q) way.2
      ∙ ap (λ x. put_at trees leaf (behind path q) (if is_some (behind q path) then None else x)) (opened.files h trees has q 0 ok.rooted)

-- a slot less leaves a forest
pub less_forest : (slots new : Slots) (bound more : ℕ) (at : ℕ) (name : Bytes) → IsForest slots bound → bound ≡ more → child_of (new at name) ≡ None
    → ((i : ℕ) (m : Bytes) → ((i ≡ at) → (m ≡ name) → ⊥) → new i m ≡ slots i m) → IsForest new more
less_forest slots new bound more at name ok e closed others = fewer slots new bound more ok (omega arith) kept
  where
    kept : (i : ℕ) (n : Bytes) (c : ℕ) → child_of (new i n) ≡ Some c → child_of (slots i n) ≡ Some c
    kept i n c is = elim (at_or_off i at n name) [
      | inl x ↦ let none : child_of (new i n) ≡ None = ap (λ k. child_of (new k n)) x.0 ∙ ap (λ k. child_of (new at k)) x.1 ∙ closed in absurd (cc (sym none ∙ is))
      | inr off ↦ ap child_of (sym (others i n off)) ∙ is
    ]

-- ---- refusals

append_nil : (p : Path) → p ++ [] ≡ p
append_nil [] = refl
append_nil (n ∷ p) = ap (λ q. n ∷ q) (append_nil p)

-- an unopened tree is a file, if its tree isn't there
alone : (slots : Slots) (at : ℕ) (name : Bytes) (slot : Slot) → slots at name ≡ Some slot → IsUnopened slot → (trees : Trees) → trees (id_of slot.oid) ≡ None
    → files_of_node trees slots at (name ∷ []) ≡ Some (leaf_in slot)
alone slots at name slot stands unopened trees gone =
    ap (λ o. through o (files_of_slot trees slots [])) stands ∙ ap (λ o. child_or o (λ c. None) (files_of_entry trees [] (leaf_in slot))) unopened.closed
    ∙ ap (λ b. if b then None else unless_tree (tree_under trees (leaf_in slot)) (leaf_in slot)) unopened.isnt_null
    ∙ ap (λ b. unless_tree (if b then trees (leaf_in slot).id else None) (leaf_in slot)) unopened.is_tree
    ∙ ap (λ o. unless_tree o (leaf_in slot)) gone

-- it is where a way leads
tree_at_way : (slots : Slots) (way : Path) (at : ℕ) (name : Bytes) (slot : Slot) (id : Id) → Way slots way at → slots at name ≡ Some slot → IsUnopened slot → id_of slot.oid ≡ id
    → (trees : Trees) → trees id ≡ None → IsTreeNamed id (files_of_node trees slots 0 (onto way (name ∷ [])))
tree_at_way slots way at name slot id reached stands unopened is trees gone =
    subst (IsTreeNamed id) (sym (down trees slots way at name [] reached ∙ alone slots at name slot stands unopened trees (ap trees is ∙ gone))) (is, unopened.is_tree)

-- where a walk stops, there is an unopened tree
pub stopped_tree : (slots : Slots) (path : Path) (id : Id) → IsStoppedAt slots path id → LeadsThrough (λ trees. files_of_node trees slots 0) path id
stopped_tree slots path id s =
    let way = s.leads.0 in (
      onto way (s.name ∷ []),
      s.next,
      s.rest,
      sym (onto-append way (s.name ∷ []) (s.next ∷ s.rest)) ∙ s.leads.2,
      tree_at_way slots way s.at s.name s.slot id s.leads.1 s.stands s.unopened s.id_is,
    )

pub leads_into : (files : Trees → FileMap) (path : Path) (id : Id) → LeadsThrough files path id → LeadsInto files path id
leads_into files path id h = (h.0, h.1 ∷ h.2, h.3, h.4)

-- the same of the tree at the path's end
pub end_tree : (slots : Slots) (path : Path) (at : ℕ) (name : Bytes) (slot : Slot) → LeadsTo slots path at (name ∷ []) → slots at name ≡ Some slot → IsUnopened slot
    → LeadsInto (λ trees. files_of_node trees slots 0) path (id_of slot.oid)
end_tree slots path at name slot leads stands unopened =
    (onto leads.0 (name ∷ []), [], append_nil (onto leads.0 (name ∷ [])) ∙ leads.2, tree_at_way slots leads.0 at name slot (id_of slot.oid) leads.1 stands unopened refl)

-- what is below a path's end
pub below_end : (slots : Slots) (path : Path) (at : ℕ) (name : Bytes) (left : Path) (trees : Trees) (m : Bytes) (rest : Path) → LeadsTo slots path at (name ∷ left)
    → files_of_node trees slots 0 (path ++ m ∷ rest) ≡ files_of_node trees slots at (name ∷ (left ++ m ∷ rest))
below_end slots path at name left trees m rest leads =
    ap (λ p. files_of_node trees slots 0 (p ++ m ∷ rest)) (sym leads.2)
    ∙ ap (files_of_node trees slots 0) (sym (onto-append leads.0 (name ∷ left) (m ∷ rest)))
    ∙ down trees slots leads.0 at name (left ++ m ∷ rest) leads.1

pub none_left : (slots : Slots) (at : ℕ) (name : Bytes) (left : Path) (trees : Trees) (m : Bytes) (rest : Path) → IsFolderAt slots at name None → files_of_node trees slots at (name ∷ (left ++ m ∷ rest)) ≡ None
none_left slots at name [] trees m rest plain = plain trees m rest
none_left slots at name (l ∷ left) trees m rest plain = plain trees l (left ++ m ∷ rest)

module _ (honest : Type 0) (table : Table) (old mid : Slots) (bound more : ℕ) (ok : IsForest old bound) (opened : IsOpened honest table old mid bound more) (path : Path) (at : ℕ) where
  pub none_below_path : (name : Bytes) (left rest : Path) → LeadsTo mid path at rest → rest ≡ name ∷ left → IsFolderAt mid at name None → honest → (trees : Trees) → HasStored table trees
      → HasNoneBelow path (files_of_node trees old 0)
  none_below_path name left rest leads is plain h trees has m below =
      sym (opened.files h trees has (path ++ m ∷ below) 0 ok.rooted)
      ∙ below_end mid path at name left trees m below (subst (LeadsTo mid path at) is leads) ∙ none_left mid at name left trees m below plain

pub edit_fault : (honest may_fail : Type 0) (table : Table) (path : Path) (Through : Id → Type 0) (e : Error) → (id : Id) → Through id → OpeningFault honest may_fail table id e
    → EditFault honest may_fail table path Through e
edit_fault honest may_fail table path Through EmptyPathComponent id t h = absurd h
edit_fault honest may_fail table path Through (FindExistingObject error) id t h = (id, t, h)
edit_fault honest may_fail table path Through (CannotRemoveNonLeaf filename) id t h = absurd h
edit_fault honest may_fail table path Through (MalformedTree oid) id t h = (id, t, h)
edit_fault honest may_fail table path Through EmptyTree id t h = absurd h
edit_fault honest may_fail table path Through Memory id t h = tt

pub leaf_fault : (honest may_fail : Type 0) (table : Table) (path : Path) (Into : Id → Type 0) (Folder : Type 0) (e : Error) → (id : Id) → Into id → OpeningFault honest may_fail table id e
    → LeafFault honest may_fail table path Into Folder e
leaf_fault honest may_fail table path Into Folder EmptyPathComponent id t h = absurd h
leaf_fault honest may_fail table path Into Folder (FindExistingObject error) id t h = (id, t, h)
leaf_fault honest may_fail table path Into Folder (CannotRemoveNonLeaf filename) id t h = absurd h
leaf_fault honest may_fail table path Into Folder (MalformedTree oid) id t h = (id, t, h)
leaf_fault honest may_fail table path Into Folder EmptyTree id t h = absurd h
leaf_fault honest may_fail table path Into Folder Memory id t h = tt

-- a refused folder at a path's end
pub folder_fault : (honest may_fail : Type 0) (table : Table) (slots : Slots) (names path : Path) (at : ℕ) (name : Bytes) (Fit : Trees → Type 0) → ((trees : Trees) → Fit trees → AreFilled trees slots)
    → ((front : Path) × (names ≡ front ++ name ∷ [])) → LeadsTo slots path at (name ∷ []) → (e : Error) → FolderFault honest may_fail table slots at name e
    → LeafFault honest may_fail table names (LeadsInto (λ trees. files_of_node trees slots 0) path) (IsFolder Fit (λ trees. files_of_node trees slots 0) path) e
folder_fault honest may_fail table slots names path at name Fit filled last leads EmptyPathComponent h = absurd h
folder_fault honest may_fail table slots names path at name Fit filled last leads (FindExistingObject error) h =
    (id_of h.0.oid, end_tree slots path at name h.0 leads h.1 h.2, h.3)
folder_fault honest may_fail table slots names path at name Fit filled last leads (CannotRemoveNonLeaf filename) h = (
  (last.0, last.1 ∙ ap (λ n. last.0 ++ n ∷ []) (sym h.0)),
  λ trees fit.
      let file = h.1 trees (filled trees fit) in
      (file.0, file.1, file.2, below_end slots path at name [] trees file.0 file.1 leads ∙ file.3),
)
folder_fault honest may_fail table slots names path at name Fit filled last leads (MalformedTree oid) h =
    (id_of h.0.oid, end_tree slots path at name h.0 leads h.1 h.2, h.3)
folder_fault honest may_fail table slots names path at name Fit filled last leads EmptyTree h = absurd h
folder_fault honest may_fail table slots names path at name Fit filled last leads Memory h = tt

-- a folder that isn't opened is refused for that
pub opened_fault : (honest may_fail : Type 0) (table : Table) (slots : Slots) (at : ℕ) (name : Bytes) (e : Error)
    → ((s : Slot) × (slots at name ≡ Some s) × IsUnopened s × OpeningFault honest may_fail table (id_of s.oid) e) → FolderFault honest may_fail table slots at name e
opened_fault honest may_fail table slots at name EmptyPathComponent h = absurd h.3
opened_fault honest may_fail table slots at name (FindExistingObject error) h = h
opened_fault honest may_fail table slots at name (CannotRemoveNonLeaf filename) h = absurd h.3
opened_fault honest may_fail table slots at name (MalformedTree oid) h = h
opened_fault honest may_fail table slots at name EmptyTree h = absurd h.3
opened_fault honest may_fail table slots at name Memory h = tt

-- the last name, and those before it
pub last_split : (path : List (Bor (List ℕ))) (i : ℕ) (d : Bor (List ℕ)) → i + 1 ≡ length path → (front : Path) × (names path ≡ front ++ (get_or path i d).now ∷ [])
last_split [] i d e = absurd (omega arith)
last_split (p ∷ []) zero d e = ([], refl)
last_split (p ∷ q ∷ path) zero d e = absurd (omega arith)
last_split (p ∷ path) (suc i) d e =
    let less : i + 1 ≡ length path = omega arith in
    let rest = last_split path i d less in
    (p.now ∷ rest.0, ap (λ q. p.now ∷ q) rest.1)

-- ---- an entry that is there already

pub entry_of : (trees : Trees) (leaf : Leaf) (s : Slot) (child : Option NodeId) → s.child ≡ child → child_or child (λ c. None) (files_of_entry trees [] (leaf_in s)) ≡ Some leaf → (leaf_in s ≡ leaf) × (s.child ≡ None)
entry_of trees leaf s (Some c) is e = absurd (cc e)
entry_of trees leaf s None is e = (by_null (is_null (leaf_in s).id) e, is)
  where
    by_tree : (o : Option (List Item)) → unless_tree o (leaf_in s) ≡ Some leaf → leaf_in s ≡ leaf
    by_tree None h = cc
    by_tree (Some items) h = absurd (cc h)

    by_null : (b : Bool) → (if b then None else unless_tree (tree_under trees (leaf_in s)) (leaf_in s)) ≡ Some leaf → leaf_in s ≡ leaf
    by_null true h = absurd (cc h)
    by_null false h = by_tree (tree_under trees (leaf_in s)) h
