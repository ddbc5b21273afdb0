-- Why edits of a file map aren't made over a store that has its trees.
use Rattle.std.proofs.Common.{◌≡◌, ◌≢◌, ℕ, Bool, true, false, cond, not, List, [], ◌∷◌, ◌++◌, refl, sym, ◌∙◌, ap, subst, inl, inr, Option, Some, None, option_map}
use Rattle.gix_hash.specs.Id.{Id, id_of}
use Rattle.gix_hash.specs.Order.{id_eq}
use Rattle.gix_hash.specs.declared.kind.Kind.{Kind}
use Rattle.gix_object_tree.specs.Entry.{Item, SpellsTree}
use Rattle.gix_object_tree.specs.Mode.{is_tree_value}
use Rattle.gix_object_tree.specs.ModeText.{Mode}
use Rattle.gix_object_tree.specs.WellFormed.{IsWellFormed}
use Rattle.gix_object_tree.proofs.TreeLaws.{one_tree}
use Rattle.gix_object_lines.specs.declared.decode.Error as decode
use Rattle.gix_object_lines.specs.declared.decode.Error.TheVariants as unread
use Rattle.gix_object_lines.specs.declared.kind.Kind.TheVariants as objects
use Rattle.gix_object_lookup.specs.Existing.{Stands}
use Rattle.gix_object_lookup.specs.Table.{Object, Table}
use Rattle.gix_object_lookup.specs.declared.find.Error.TheVariants as looked_up
use Rattle.gix_object_lookup.specs.declared.find.existing_object.Error as existing
use Rattle.gix_object_lookup.specs.declared.find.existing_object.Error.TheVariants as not_given
use Rattle.gix_object_editor.specs.Refusals.{TreeIsMalformed, TreeIsUnread}
use Rattle.gix_object_editor.specs.declared.tree.editor.error.Error as editor
use Rattle.gix_object_editor.specs.declared.tree.editor.error.Error.TheVariants as refused
use Rattle.gix_object_nodes.specs.declared.node.NodeId.{NodeId}
use Rattle.gix_object_nodes.specs.declared.node.Slot.{Slot}
use Rattle.gix_object_editor.specs.Entries.{EachHas}
use Rattle.gix_object_editor.specs.declared.tree.editor.state.Editor.{Editor}
use Rattle.gix_object_editor.specs.Editor.{EachEntryHas, EditFault, GraftFault, IsFilled, IsFolder, IsTreeNamed, LeadsInto, LeadsThrough, LeafFault, files_of}
use Rattle.gix_object_nodes.specs.Files.{Path, Leaf, Trees, HasFile as HasEntryFile, named, through, tree_under, unless_tree, files_of_entry, files_of_tree, leaf_of, is_null, NamesAreFull, SameFiles, IsEmptyTree}
use Rattle.gix_object_nodes.specs.Nodes.{AreFilled, Slots, child_or, files_of_node, files_of_slot, leaf_in, slots_of}
use Rattle.history_model.specs.Bytes.{Bytes}
use Rattle.history_model.specs.FileMap as model
use Rattle.history_model.specs.FileMap.{FileMap, components, has_below, inside, is_path, some_refused}
use Rattle.history_model.specs.Objects.{folder_id, root}
use Rattle.history_model.proofs.IdLemmas.{id_itself}
use Rattle.history_model.proofs.WholeLists.{In, clash, none_is_some}
use Rattle.history_model.proofs.WholeRoots.{all_values}
use Rattle.history_files.specs.Unfolding.{IsInTable, file_leaf}
use Rattle.history_files.specs.Edits.{as_edited, as_unread, unless_memory}
use Rattle.history_files.specs.Entries.{is_filename, names_only}
use Rattle.history_files.specs.Opening.{EditsFiles, MakingFault}
use Rattle.history_files.specs.declared.edits.EditError.TheVariants.{Broken}
use Rattle.history_files.proofs.Components.{some_parts}
use Rattle.history_files.proofs.Handed.{IsInner, NamesOne, file_no_tree, folder_files, names_one, of_all}
use Rattle.history_files.proofs.InOrder.{root_well_formed}
use Rattle.history_files.proofs.Inside.{HasFile}
use Rattle.history_files.proofs.Items.{all_of, digest_kind, items, items_spelled}
use Rattle.history_files.proofs.LawLemmas.{folders_agree}
use Rattle.history_files.proofs.Named.{items_have, part_name}
use Rattle.history_files.proofs.OneList.{named_is}
use Rattle.history_files.proofs.Parsed.{has_stored, trees_in}
use Rattle.history_files.proofs.Standing.{stands_deeper, stands_inner}
use Rattle.history_files.proofs.Unfolded.{plain_map, root_unfolds, tree_there}
use Rattle.std.proofs.lemmas.Option.{same_Some}

-- the table of trees without one
abbrev without : Id → Trees → Trees
without id trees other = cond (id_eq other id) None (trees other)

module _ (kind : Kind) (table : Table) (folders : List FileMap) (inner : (g : FileMap) → In g folders → IsInner kind table folders g)
    (deeper : (g : FileMap) → In g folders → (name : Bytes) → HasFile (inside name g) → In (inside name g) folders) where
  -- ---- each tree that a path leads through is one of the folders'

  module _ (gone : Id) where
    some : Trees
    some = without gone (trees_in table)

    -- a file's leaf, or one of the folders that is gone
    abbrev Ends : Leaf → Type 0
    Ends leaf = NamesOne kind folders leaf × (is_null leaf.id ≡ false)

    entry_ends : (rest : Path) (name : Bytes) (leaf end : Leaf) → names_only kind folders name leaf ≡ true → files_of_entry some rest leaf ≡ Some end → Ends end
    unfolding some
    entry_ends [] name leaf end has e = go (is_null leaf.id) refl e
      where
        go : (b : Bool) → is_null leaf.id ≡ b → cond b None (unless_tree (tree_under (without gone (trees_in table)) leaf) leaf) ≡ Some end → Ends end
        go true n k = cc
        go false n k = by_tree (tree_under (without gone (trees_in table)) leaf) k
          where
            by_tree : (o : Option (List Item)) → unless_tree o leaf ≡ Some end → Ends end
            by_tree None h = let same = same_Some leaf end h in (subst (NamesOne kind folders) same (names_one kind folders name leaf has).1, ap (λ (l : Leaf). is_null l.id) (sym same) ∙ n)
            by_tree (Some tree) h = cc
    entry_ends (next ∷ rest) name leaf end has e = go (is_null leaf.id) refl e (names_one kind folders name leaf has).1 (λ n l h k. entry_ends rest n l end h k)
      where
        go : (b : Bool) → is_null leaf.id ≡ b → cond b None (through (tree_under (without gone (trees_in table)) leaf) (λ all. through (named next all) (λ item. files_of_entry (without gone (trees_in table)) rest (leaf_of item)))) ≡ Some end
            → NamesOne kind folders leaf → ((n : Bytes) (l : Leaf) → names_only kind folders n l ≡ true → files_of_entry (without gone (trees_in table)) rest l ≡ Some end → Ends end) → Ends end
        go true n k one later = cc
        go false n k (inl file) later = absurd (none_is_some end (sym (ap (λ b. through (cond b (without gone (trees_in table) leaf.id) None) (λ all. through (named next all) (λ item. files_of_entry (without gone (trees_in table)) rest (leaf_of item)))) (file_no_tree leaf.mode file)) ∙ k))
        go false n k (inr (mode, inl null)) later = clash null n
        go false n k (inr (mode, inr (g, i, id))) later =
            by_gone (id_eq (folder_id kind g) gone) refl
            (sym (ap (λ o. through o (λ all. through (named next all) (λ item. files_of_entry (without gone (trees_in table)) rest (leaf_of item))))
            (ap (λ (x : Mode). cond (is_tree_value x.value) (without gone (trees_in table) leaf.id) None) mode ∙ ap (without gone (trees_in table)) id)) ∙ k)
          where
            found : (item : Item) → named next (items kind g) ≡ Some item → files_of_entry (without gone (trees_in table)) rest (leaf_of item) ≡ Some end → Ends end
            found item e h = later item.name (leaf_of item)
                (of_all (λ (x : Item). names_only kind folders x.name (leaf_of x) ≡ true) (items kind g) (items_have kind folders g (inner g i).map (deeper g i)) item (named_is next (items kind g) item e).1) h

            by_item : (o : Option Item) → named next (items kind g) ≡ o → through o (λ item. files_of_entry (without gone (trees_in table)) rest (leaf_of item)) ≡ Some end → Ends end
            by_item None e h = none_is_some end h
            by_item (Some item) e h = found item e h

            by_gone : (b : Bool) → id_eq (folder_id kind g) gone ≡ b
                → through (cond (id_eq (folder_id kind g) gone) None (trees_in table (folder_id kind g))) (λ all. through (named next all) (λ item. files_of_entry (without gone (trees_in table)) rest (leaf_of item))) ≡ Some end → Ends end
            by_gone true e h = none_is_some end (sym (ap (λ b. through (cond b None (trees_in table (folder_id kind g))) (λ all. through (named next all) (λ item. files_of_entry (without gone (trees_in table)) rest (leaf_of item)))) e) ∙ h)
            by_gone false e h = by_item (named next (items kind g)) refl
                (sym (ap (λ b. through (cond b None (trees_in table (folder_id kind g))) (λ all. through (named next all) (λ item. files_of_entry (without gone (trees_in table)) rest (leaf_of item)))) e
                ∙ ap (λ o. through o (λ all. through (named next all) (λ item. files_of_entry (without gone (trees_in table)) rest (leaf_of item)))) (tree_there kind table (trees_in table) (has_stored table) g (inner g i).map (inner g i).has.itself)) ∙ h)

    module _ (slots : Slots) (each : EachHas (names_only kind folders) slots) where
      node_ends : (path : Path) (i : ℕ) (end : Leaf) → files_of_node some slots i path ≡ Some end → Ends end
      unfolding some
      node_ends [] i end e = cc
      node_ends (name ∷ rest) i end e = go (slots i name) refl e (λ j k. node_ends rest j end k)
        where
          go : (o : Option Slot) → slots i name ≡ o → through o (files_of_slot (without gone (trees_in table)) slots rest) ≡ Some end
              → ((j : ℕ) → files_of_node (without gone (trees_in table)) slots j rest ≡ Some end → Ends end) → Ends end
          go None at k later = none_is_some end k
          go (Some s) at k later = by_child s.child refl (sym (split rest) ∙ k)
            where
              split : (r : Path) → files_of_slot (without gone (trees_in table)) slots r s ≡ child_or s.child (λ c. files_of_node (without gone (trees_in table)) slots c r) (files_of_entry (without gone (trees_in table)) r (leaf_in s))
              split [] = refl
              split (m ∷ more) = refl

              by_child : (child : Option NodeId) → s.child ≡ child
                  → child_or s.child (λ c. files_of_node (without gone (trees_in table)) slots c rest) (files_of_entry (without gone (trees_in table)) rest (leaf_in s)) ≡ Some end → Ends end
              by_child None closed h = entry_ends rest name (leaf_in s) end (each i name s at)
                  (sym (ap (λ o. child_or o (λ c. files_of_node (without gone (trees_in table)) slots c rest) (files_of_entry (without gone (trees_in table)) rest (leaf_in s))) closed) ∙ h)
              by_child (Some c) opened h = later c.0
                  (sym (ap (λ o. child_or o (λ d. files_of_node (without gone (trees_in table)) slots d rest) (files_of_entry (without gone (trees_in table)) rest (leaf_in s))) opened) ∙ h)

      -- if an entry names the missing tree, that is the tree of one of the folders
      named_folder : (o : Option Leaf) → IsTreeNamed gone o → ((leaf : Leaf) → o ≡ Some leaf → Ends leaf) → (g : FileMap) × In g folders × (gone ≡ folder_id kind g)
      named_folder None h ends = absurd h
      named_folder (Some leaf) (id, tree) ends = go (ends leaf refl)
        where
          go : Ends leaf → (g : FileMap) × In g folders × (gone ≡ folder_id kind g)
          go (inl file, n) = clash tree (file_no_tree leaf.mode file)
          go (inr (mode, inl null), n) = clash null n
          go (inr (mode, inr (g, i, same)), n) = (g, i, sym id ∙ same)

      gone_none : some gone ≡ None
      unfolding some
      gone_none = ap (λ b. cond b None (trees_in table gone)) (id_itself gone)

      pub led_into : (path : Path) → LeadsInto (λ trees. files_of_node trees slots 0) path gone → (g : FileMap) × In g folders × (gone ≡ folder_id kind g)
      led_into path (front, rest, e, over) = named_folder (files_of_node some slots 0 front) (over some gone_none) (λ leaf k. node_ends front 0 leaf k)

      pub led_through : (path : Path) → LeadsThrough (λ trees. files_of_node trees slots 0) path gone → (g : FileMap) × In g folders × (gone ≡ folder_id kind g)
      led_through path (front, name, rest, e, over) = named_folder (files_of_node some slots 0 front) (over some gone_none) (λ leaf k. node_ends front 0 leaf k)

  -- ---- no entry names a tree without files

  pub all_filled : (slots : Slots) → EachHas (names_only kind folders) slots → AreFilled (trees_in table) slots
  all_filled slots each i name s at closed nonnull = go (names_one kind folders name (leaf_in s) (each i name s at)).1
    where
      go : NamesOne kind folders (leaf_in s) → HasEntryFile (trees_in table) (leaf_in s)
      go (inl file) = (
        [],
        leaf_in s,
        ap (λ b. cond b None (unless_tree (tree_under (trees_in table) (leaf_in s)) (leaf_in s))) nonnull
            ∙ ap (λ b. unless_tree (cond b (trees_in table (leaf_in s).id) None) (leaf_in s)) (file_no_tree (leaf_in s).mode file),
      )
      go (inr (mode, inl null)) = clash null nonnull
      go (inr (mode, inr (g, j, id))) =
          let in_g = inner g j in
          let parts = some_parts in_g.some.0 in
          let unfolds = root_unfolds kind table (trees_in table) (has_stored table) g in_g.map (all_values (IsInTable table kind) g in_g.has) in (
            parts.0 ∷ parts.1,
            file_leaf kind in_g.some.1,
            folder_files kind table (trees_in table) (has_stored table) folders g in_g (leaf_in s) mode nonnull id parts.0 parts.1
                ∙ ap (files_of_tree (trees_in table) (items kind g)) (sym parts.2)
                ∙ unfolds.at in_g.some.0
                ∙ ap (option_map (file_leaf kind)) in_g.some.2,
          )

  -- ---- why an edit isn't made

  -- a tree in the table: its text and its entries
  record Standing (id : Id) : Type 0 where
    content : List ℕ
    all : List Item
    stands : Stands table id objects.Tree content
    spelled : SpellsTree id.kind content all
    well : IsWellFormed all

  folder_stands : (id : Id) → (g : FileMap) × In g folders × (id ≡ folder_id kind g) → Standing id
  folder_stands id (g, i, same) =
      let in_g = inner g i in
      let spelled = items_spelled kind g (plain_map g in_g.map) in
      subst Standing (sym same) (record {
        content = root kind g;
        all = items kind g;
        stands = in_g.has.itself.stands;
        spelled = subst (λ k. SpellsTree k (root kind g) (items kind g)) (sym (digest_kind kind _)) spelled;
        well = root_well_formed kind g in_g.map (items kind g) spelled;
      })

  one_content : (id : Id) (a b : List ℕ) → Stands table id objects.Tree a → Stands table id objects.Tree b → a ≡ b
  one_content id a b h k = ap (λ (x : Object). x.content) (same_Some _ _ (sym h ∙ k))

  module _ (honest may_fail : Type 0) (answers : honest) (files : FileMap) (made : List model.Edit) where
    -- a folder's tree is read
    unread_fault : (id : Id) → Standing id → (error : existing.Error) → TreeIsUnread honest may_fail table id error → MakingFault may_fail files made (as_unread error)
    unread_fault id there (not_given.Find looked_up.Failed) h = h
    unread_fault id there (not_given.Find looked_up.Memory) h = tt
    unread_fault id there (not_given.Decode oid source) (told, (content, stands, fault, whole)) =
        by_source source (whole there.all (subst (λ t. SpellsTree id.kind t there.all) (one_content id there.content content there.stands (stands answers)) there.spelled))
      where
        by_source : (s : decode.Error) → s ≡ unread.Memory → MakingFault may_fail files made (unless_memory s (Broken oid))
        by_source unread.FieldName e = cc
        by_source unread.HexDigits e = cc
        by_source unread.LineEnd e = cc
        by_source unread.InvalidActor e = cc
        by_source unread.InvalidTime e = cc
        by_source unread.Memory e = tt
    unread_fault id there (not_given.NotFound oid) (told, none) = none_is_some _ (sym (none answers) ∙ there.stands)
    unread_fault id there (not_given.ObjectKind oid actual expected) (told, is, other, at) =
        absurd (other (sym (same_Some objects.Tree actual (sym (ap (option_map (λ (x : Object). x.kind)) there.stands) ∙ at answers)) ∙ sym_is))
      where
        sym_is : objects.Tree ≡ objects.Tree
        sym_is = refl

    malformed_fault : (id : Id) → Standing id → (oid : Id) → TreeIsMalformed honest table id oid → ⊥
    malformed_fault id there oid (told, (content, all, stands, spelled, not)) =
        let same = one_content id there.content content there.stands (stands answers) in
        not (subst IsWellFormed (one_tree id.kind content there.all all (subst (λ t. SpellsTree id.kind t there.all) same there.spelled) spelled) there.well)

    -- of a path whose names aren't empty, if each tree that it leads through is a folder's
    pub edit_fault : (path : Path) (Through : Id → Type 0) → NamesAreFull path → ((id : Id) → Through id → (g : FileMap) × In g folders × (id ≡ folder_id kind g)) → (error : editor.Error)
        → EditFault honest may_fail table path Through error → MakingFault may_fail files made (as_edited error)
    edit_fault path Through full leads refused.EmptyPathComponent h = absurd (h full)
    edit_fault path Through full leads (refused.FindExistingObject error) (id, through_it, h) = unread_fault id (folder_stands id (leads id through_it)) error h
    edit_fault path Through full leads (refused.CannotRemoveNonLeaf filename) h = absurd h
    edit_fault path Through full leads (refused.MalformedTree oid) (id, through_it, h) = absurd (malformed_fault id (folder_stands id (leads id through_it)) (id_of oid) h)
    edit_fault path Through full leads refused.EmptyTree h = absurd h
    edit_fault path Through full leads refused.Memory h = tt

    pub leaf_fault : (path : Path) (Into : Id → Type 0) (Folder : Type 0) → NamesAreFull path → ((id : Id) → Into id → (g : FileMap) × In g folders × (id ≡ folder_id kind g)) → (Folder → some_refused files made ≡ true)
        → (error : editor.Error) → LeafFault honest may_fail table path Into Folder error → MakingFault may_fail files made (as_edited error)
    leaf_fault path Into Folder full leads folder refused.EmptyPathComponent h = absurd (h full)
    leaf_fault path Into Folder full leads folder (refused.FindExistingObject error) (id, into_it, h) = unread_fault id (folder_stands id (leads id into_it)) error h
    leaf_fault path Into Folder full leads folder (refused.CannotRemoveNonLeaf filename) h = folder h.1
    leaf_fault path Into Folder full leads folder (refused.MalformedTree oid) (id, into_it, h) = absurd (malformed_fault id (folder_stands id (leads id into_it)) (id_of oid) h)
    leaf_fault path Into Folder full leads folder refused.EmptyTree h = absurd h
    leaf_fault path Into Folder full leads folder refused.Memory h = tt

-- ---- paths

pub full_path : (path : Bytes) → is_path path ≡ true → NamesAreFull (components path)
full_path path fine =
    let some = some_parts path in (
      λ e. cc (sym some.2 ∙ e),
      all_of (λ (name : Bytes). name ≢ []) (components path) (λ name i e. clash (part_name path name fine i) (ap is_filename e)),
    )

-- ---- an edit of an editor

module _ {S : Type 0} (honest may_fail : Type 0) (answers : honest) (kind : Kind) (table : Table) (stands : List FileMap) (files : FileMap) (made : List model.Edit) (old new : Editor S) (can : EditsFiles table kind stands files old)
    (each : EachEntryHas (names_only kind stands) new) (path : Bytes) (fine : is_path path ≡ true) (names : Path) (are : names ≡ components path) where
  inner_of : (g : FileMap) → In g stands → IsInner kind table stands g
  inner_of = stands_inner table kind stands can.standing

  deeper_of : (g : FileMap) → In g stands → (name : Bytes) → HasFile (inside name g) → In (inside name g) stands
  deeper_of = stands_deeper table kind stands can.standing

  full : NamesAreFull names
  full = subst NamesAreFull (sym are) (full_path path fine)

  pub put_fault : (error : editor.Error) → EditFault honest may_fail table names (LeadsThrough (λ trees. files_of trees new) names) error → MakingFault may_fail files made (as_edited error)
  put_fault error h =
      edit_fault kind table stands inner_of deeper_of honest may_fail answers files made names (LeadsThrough (λ trees. files_of trees new) names) full
      (λ id led. led_through kind table stands inner_of deeper_of id (slots_of new.nodes.items) each names led) error h

  -- what is grafted isn't the empty tree
  pub graft_fault : (id : Id) → (IsEmptyTree id → ⊥) → (error : editor.Error) → GraftFault honest may_fail table names id (LeadsThrough (λ trees. files_of trees new) names) error → MakingFault may_fail files made (as_edited error)
  graft_fault id some error h = elim h [ inl empty ↦ absurd (some empty.2) | inr other ↦ put_fault error other ]

  pub remove_fault : SameFiles (files_of (trees_in table) new) (files_of (trees_in table) old) → (has_below files path ≡ true → some_refused files made ≡ true) → (error : editor.Error)
      → LeafFault honest may_fail table names (LeadsInto (λ trees. files_of trees new) names) (IsFolder (λ trees. IsFilled trees new) (λ trees. files_of trees new) names) error → MakingFault may_fail files made (as_edited error)
  remove_fault same refused error h =
      leaf_fault kind table stands inner_of deeper_of honest may_fail answers files made names (LeadsInto (λ trees. files_of trees new) names)
      (IsFolder (λ trees. IsFilled trees new) (λ trees. files_of trees new) names) full
      (λ id led. led_into kind table stands inner_of deeper_of id (slots_of new.nodes.items) each names led) folder error h
    where
      folder : IsFolder (λ trees. IsFilled trees new) (λ trees. files_of trees new) names → some_refused files made ≡ true
      folder there =
          let found = there (trees_in table) (all_filled kind table stands inner_of deeper_of (slots_of new.nodes.items) each) in
          go (has_below files path) refl found.0 found.1 found.2 (ap (λ ps. files_of (trees_in table) old (ps ++ found.0 ∷ found.1)) (sym are) ∙ sym (same (names ++ found.0 ∷ found.1)) ∙ found.3)
        where
          go : (b : Bool) → has_below files path ≡ b → (name : Bytes) (rest : Path) (file : Leaf) → files_of (trees_in table) old (components path ++ name ∷ rest) ≡ Some file → some_refused files made ≡ true
          go true e name rest file at = refused e
          go false e name rest file at = none_is_some file (sym ((folders_agree kind files (files_of (trees_in table) old) path (can.unfolds (trees_in table) (has_stored table))).0 e name rest) ∙ at)
