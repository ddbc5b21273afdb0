-- Each tree that an editor hands out is that of a folder of the edited files.
use Rattle.std.proofs.Common.{◌≡◌, ◌≢◌, ℕ, zero, suc, Bool, true, false, cond, not, ◌&&◌, ◌||◌, List, [], ◌∷◌, ◌++◌, map, refl, sym, ◌∙◌, ap, subst, arith, tests, inl, inr, ◌⊎◌, Option, Some, None, option_map, ◌==◌}
use Rattle.std.specs.List.{All, list_any, before_first, after_first}
use Rattle.std.specs.FinMap.{entries, get}
use Rattle.gix_hash.specs.Id.{Id}
use Rattle.gix_hash.specs.Order.{id_eq}
use Rattle.gix_hash.specs.declared.kind.Kind.{Kind}
use Rattle.gix_object_tree.specs.Entry.{Item}
use Rattle.gix_object_tree.specs.Mode.{is_tree_value}
use Rattle.gix_object_tree.specs.ModeText.{Mode}
use Rattle.gix_object_tree.specs.WellFormed.{IsFilename, IsWellFormed}
use Rattle.gix_object_tree.specs.Writing as writing
use Rattle.gix_object_lookup.specs.Table.{Table}
use Rattle.gix_object_nodes.specs.declared.node.Slot.{Slot}
use Rattle.gix_object_editor.specs.Entries.{EachHas}
use Rattle.gix_object_nodes.specs.Files.{Path, Leaf, Trees, SameFiles, named, through, tree_under, unless_tree, files_of_entry, files_of_tree, leaf_of, is_null}
use Rattle.gix_object_editor.specs.Stored.{HasStored}
use Rattle.gix_object_nodes.specs.Nodes.{Slots, Way, LeadsTo, onto, child_of, leaf_in, files_of_node, files_of_slot}
use Rattle.gix_object_nodes.specs.Writing.{folder_item, folder_mode}
use Rattle.gix_object_nodes.specs.Written.{HandedOut, IsHandedOut, IsKnown, StandsUnopened, NamesFolder}
use Rattle.gix_object_nodes.proofs.Ways.{closed_files}
use Rattle.gix_object_nodes.proofs.WrittenFiles.{files_below}
use Rattle.history_model.specs.Bytes.{Bytes, has_byte, is_empty}
use Rattle.history_model.specs.FileMap.{FileMap, Content, IsFileMap, components, folders_of, inside}
use Rattle.history_model.specs.Objects.{FileEntry, FolderEntry, TreeEntry, tree_entries, digest, folder_id, root, tree_text}
use Rattle.history_model.proofs.IdLemmas.{one_id}
use Rattle.history_model.proofs.WholeLists.{In, clash, in_left, in_map, in_right, of_map, none_is_some, one_passes}
use Rattle.history_model.proofs.WholeItems.{Entry, leaf_in as entry_in}
use Rattle.history_model.proofs.WholePaths.{below_front, front_plain, has_parts}
use Rattle.history_model.proofs.WholeRoots.{HasAll, all_values, inside_inside}
use Rattle.history_model.proofs.WholeSteps.{contains_in, in_contains}
use Rattle.history_model.proofs.WholeStores.{get_in, in_get}
use Rattle.history_files.specs.Unfolding.{IsInTable, IsUnfolded, file_leaf}
use Rattle.history_files.specs.Editing.{HasTreeOf}
use Rattle.history_files.specs.Entries.{is_filename, is_file_mode, is_folder_mode, names_only}
use Rattle.history_files.proofs.Components.{one_part, parts_below}
use Rattle.history_files.proofs.InOrder.{root_well_formed}
use Rattle.history_files.proofs.Inside.{ArePlainNames, HasFile, among_inside, file_inside, folder_at, folder_below, folder_map, folder_unfolds, inside_among, inside_unfolds, same_file, same_folders, under}
use Rattle.history_files.proofs.Items.{all_of, file_item, folder_of, has_folder, has_leaf, item_of, items, items_root, items_spelled, name_of, named_in, name_plain}
use Rattle.history_files.proofs.OneList.{named_is, one_list}
use Rattle.history_files.proofs.OneRoot.{one_root}
use Rattle.history_files.proofs.Unfolded.{plain_map, root_unfolds, tree_there}
use Rattle.history_files.proofs.Walk.{tree_of}
use Rattle.std.proofs.lemmas.Bool.{eqb-true, and_parts, not-true, or_cases}
use Rattle.std.proofs.lemmas.Option.{same_Some}

-- ---- entries of a file map's tree, by their names

module _ (kind : Kind) (m : FileMap) (fits : IsFileMap m) (name : Bytes) (plain : has_byte 47 name ≡ false) where
  no_both : (rest : Bytes) (a b : Content) → get m name ≡ Some a → get m (name ++ 47 ∷ rest) ≡ Some b → ⊥
  no_both rest a b h k = clash (below_front name rest) (fits.apart name (name ++ 47 ∷ rest) (ap is_some h) (ap is_some k))
    where
      is_some : {X : Type 0} → Option X → Bool
      is_some None = false
      is_some (Some x) = true

  folder_is : (below : List Entry) → In (FolderEntry name below) (tree_entries (entries m)) → item_of kind (tree_of kind m) (FolderEntry name below) ≡ folder_item name (folder_id kind (inside name m))
  folder_is below i = ap (folder_item name) (folder_of kind m name below i).id

  pub folder_named : HasFile (inside name m) → named name (items kind m) ≡ Some (folder_item name (folder_id kind (inside name m)))
  folder_named (rest, content, e) = elim (named_in kind (tree_of kind m) name (tree_entries (entries m))) [
    | inl (none, others) ↦ let there = has_folder (entries m) name rest content (get_in m (name ++ 47 ∷ rest) content whole) plain in absurd (others (FolderEntry name there.0) there.1 refl)
    | inr (t, i, same, found) ↦ found ∙ by_entry t i same
  ]
    where
      whole : get m (name ++ 47 ∷ rest) ≡ Some content
      whole = file_inside m name rest content e

      by_entry : (t : TreeEntry) → In t (tree_entries (entries m)) → name_of t ≡ name → Some (item_of kind (tree_of kind m) t) ≡ Some (folder_item name (folder_id kind (inside name m)))
      by_entry (FileEntry path c) i same = absurd (no_both rest c content (ap (get m) (sym same) ∙ in_get m path c (entry_in (entries m) path c i)) whole)
      by_entry (FolderEntry other below) i same =
          ap (λ n. Some (item_of kind (tree_of kind m) (FolderEntry n below))) same
          ∙ ap (λ item. Some item) (folder_is below (subst (λ n. In (FolderEntry n below) (tree_entries (entries m))) same i))

  pub file_named : (content : Content) → get m name ≡ Some content → named name (items kind m) ≡ Some (file_item kind name content)
  file_named content e = elim (named_in kind (tree_of kind m) name (tree_entries (entries m))) [
    | inl (none, others) ↦ absurd (others (FileEntry name content) (has_leaf (entries m) name content plain (get_in m name content e)) refl)
    | inr (t, i, same, found) ↦ found ∙ by_entry t i same
  ]
    where
      by_entry : (t : TreeEntry) → In t (tree_entries (entries m)) → name_of t ≡ name → Some (item_of kind (tree_of kind m) t) ≡ Some (file_item kind name content)
      by_entry (FileEntry path c) i same =
          let here : get m name ≡ Some c = ap (get m) (sym same) ∙ in_get m path c (entry_in (entries m) path c i) in
          let one : c ≡ content = same_Some c content (sym here ∙ e) in
          λ k. Some (file_item kind (same k) (one k))
      by_entry (FolderEntry other below) i same =
          let folder = folder_of kind m other below i in
          let there : get m (name ++ 47 ∷ (folder.some.0).0) ≡ Some (folder.some.0).1 =
          ap (λ n. get m (n ++ 47 ∷ (folder.some.0).0)) (sym same) ∙ in_get m (other ++ 47 ∷ (folder.some.0).0) (folder.some.0).1 folder.some.1 in
          absurd (no_both (folder.some.0).0 content (folder.some.0).1 e there)

-- ---- what entries name

pub file_no_tree : (mode : Mode) → is_file_mode mode ≡ true → is_tree_value mode.value ≡ false
file_no_tree mode h = go (or_cases (mode.value == 33188 || mode.value == 33261) (mode.value == 40960) (and_parts (not mode.padded) (mode.value == 33188 || mode.value == 33261 || mode.value == 40960) h).1)
  where
    by_number : (n : ℕ) → (mode.value == n) ≡ true → is_tree_value n ≡ false → is_tree_value mode.value ≡ false
    by_number n e f = ap is_tree_value (eqb-true mode.value n e) ∙ f

    first : (mode.value == 33188 || mode.value == 33261) ≡ true → is_tree_value mode.value ≡ false
    first k = elim (or_cases (mode.value == 33188) (mode.value == 33261) k) [ inl e ↦ by_number 33188 e refl | inr e ↦ by_number 33261 e refl ]

    go : ((mode.value == 33188 || mode.value == 33261) ≡ true) ⊎ ((mode.value == 40960) ≡ true) → is_tree_value mode.value ≡ false
    go (inl k) = first k
    go (inr e) = by_number 40960 e refl

module _ (kind : Kind) (folders : List FileMap) where
  -- it names a file, nothing yet, or one of the folders
  abbrev pub NamesOne : Leaf → Type 0
  NamesOne leaf = (is_file_mode leaf.mode ≡ true) ⊎ ((leaf.mode ≡ folder_mode) × ((is_null leaf.id ≡ true) ⊎ ((g : FileMap) × In g folders × (leaf.id ≡ folder_id kind g))))

  pub names_one : (name : Bytes) (leaf : Leaf) → names_only kind folders name leaf ≡ true → (is_filename name ≡ true) × NamesOne leaf
  names_one name leaf h =
      let parts = and_parts (is_filename name) _ h in (
        parts.0,
        elim (or_cases (is_file_mode leaf.mode) _ parts.1) [
          | inl file ↦ inl file
          | inr folder ↦
              let both = and_parts (is_folder_mode leaf.mode) (is_null leaf.id || list_any (λ f. id_eq leaf.id (folder_id kind f)) folders) folder in
              let mode = and_parts (not leaf.mode.padded) (leaf.mode.value == 16384) both.0 in
              inr (
                same_mode (not-true leaf.mode.padded mode.0) (eqb-true leaf.mode.value 16384 mode.1),
                elim (or_cases (is_null leaf.id) (list_any (λ f. id_eq leaf.id (folder_id kind f)) folders) both.1) [
                  | inl null ↦ inl null
                  | inr among ↦ let one = one_passes (λ f. id_eq leaf.id (folder_id kind f)) folders among in inr (one.0, one.1, one_id leaf.id (folder_id kind one.0) one.2)
                ],
              )
        ],
      )
    where
      names_folder : Bool
      names_folder = is_folder_mode leaf.mode && (is_null leaf.id || list_any (λ f. id_eq leaf.id (folder_id kind f)) folders)

      same_mode : leaf.mode.padded ≡ false → leaf.mode.value ≡ 16384 → leaf.mode ≡ folder_mode
      same_mode p v = λ i. record { value = v i; padded = p i }

pub is_filename_of : (name : Bytes) → is_filename name ≡ true → IsFilename name
is_filename_of name h =
    let outer = and_parts (not (is_empty name) && not (has_byte 47 name)) (not (has_byte 0 name)) h in
    let inner = and_parts (not (is_empty name)) (not (has_byte 47 name)) outer.0 in
    record {
      some = λ e. clash (ap is_empty e) (not-true (is_empty name) inner.0);
      within_folder = not-true (has_byte 47 name) inner.1;
      endless = not-true (has_byte 0 name) outer.1;
    }

pub of_all : {X : Type 0} (P : X → Type 0) (xs : List X) → All P xs → (x : X) → In x xs → P x
of_all P [] all x i = absurd i
of_all P (y ∷ xs) all x (inl e) = subst P (sym e) (all zero y (omega arith))
of_all P (y ∷ xs) all x (inr i) = of_all P xs (λ k d within. all (suc k) d (omega arith)) x i

-- a tree with entries is that of a map with files
pub file_of_items : (kind : Kind) (g : FileMap) → (items kind g ≡ [] → ⊥) → HasFile g
file_of_items kind g differ = go (entries g) refl
  where
    go : (es : List Entry) → entries g ≡ es → HasFile g
    go [] e = absurd (differ (ap (λ xs. map (item_of kind (tree_of kind g)) (tree_entries xs)) e))
    go (x ∷ es) e = (x.0, x.1, in_get g x.0 x.1 (subst (In x) (sym e) (inl refl)))

-- ---- trees that are handed out

-- a folder that is in the table with all below it, and has a file
pub record IsInner (kind : Kind) (table : Table) (stands : List FileMap) (g : FileMap) : Type 0 where
  pub map : IsFileMap g
  pub has : HasAll (IsInTable table kind) g
  pub some : HasFile g
  pub within : (h : FileMap) → In h (folders_of g) → In h stands

-- files of an entry that names such a folder
pub folder_files : (kind : Kind) (table : Table) (trees : Trees) (stored : HasStored table trees) (stands : List FileMap) (g : FileMap) → IsInner kind table stands g → (leaf : Leaf) → leaf.mode ≡ folder_mode → is_null leaf.id ≡ false
    → leaf.id ≡ folder_id kind g → (name : Bytes) (rest : Path) → files_of_entry trees (name ∷ rest) leaf ≡ files_of_tree trees (items kind g) (name ∷ rest)
folder_files kind table trees stored stands g in_g leaf mode isnt_null id name rest =
    ap (λ b. cond b None (through (tree_under trees leaf) (λ found. through (named name found) (λ item. files_of_entry trees rest (leaf_of item))))) isnt_null
    ∙ ap (λ o. through o (λ found. through (named name found) (λ item. files_of_entry trees rest (leaf_of item))))
    (ap (λ (x : Mode). cond (is_tree_value x.value) (trees leaf.id) None) mode ∙ ap trees id ∙ tree_there kind table trees stored g in_g.map in_g.has.itself)

abbrev pub folder : FileMap → HandedOut → FileMap
folder m tree = folder_at m tree.path

-- the tree is that of its folder, each of whose own was handed out, or has a tree that exists
-- before
pub record IsTreeKnown (kind : Kind) (stands : List FileMap) (m : FileMap) (handed : List HandedOut) (tree : HandedOut) : Type 0 where
  pub items_are : tree.items ≡ items kind (folder m tree)
  pub id_is : tree.id ≡ folder_id kind (folder m tree)
  pub closed : (h : FileMap) → In h (folders_of (folder m tree)) → In h (map (folder m) handed) ⊎ HasTreeOf kind stands h

record IsFileItem (kind : Kind) (f : FileMap) (name : Bytes) (item : Item) : Type 0 where
  content : Content
  at : get f name ≡ Some content
  is : item ≡ file_item kind name content

record IsFolderItem (kind : Kind) (stands : List FileMap) (handed : List FileMap) (f : FileMap) (name : Bytes) (item : Item) : Type 0 where
  file : HasFile (inside name f)
  is : item ≡ folder_item name (folder_id kind (inside name f))
  closed : (h : FileMap) → In h (folders_of (inside name f)) → In h handed ⊎ HasTreeOf kind stands h

item_by : (item : Item) (mode : Mode) (id : Id) → item.mode ≡ mode → item.id ≡ id → item ≡ record { mode = mode; name = item.name; id = id }
item_by item mode id m d = λ i. record { mode = m i; name = item.name; id = d i }

module _ (kind : Kind) (table : Table) (trees : Trees) (stored : HasStored table trees) (folders stands : List FileMap) (inner : (g : FileMap) → In g folders → IsInner kind table stands g)
    (slots : Slots) (each : EachHas (names_only kind folders) slots) (m : FileMap) (fits : IsFileMap m) (is : IsUnfolded kind m (files_of_node trees slots 0)) where
  -- a name that leads down is plain
  way_plain : (way : Path) (j : ℕ) → Way slots way j → ArePlainNames way
  way_plain [] j w name i = absurd i
  way_plain (n ∷ way) j w name (inl e) = plain (slots w.0 n) refl w.2
    where
      plain : (o : Option Slot) → slots w.0 n ≡ o → child_of (slots w.0 n) ≡ Some j → has_byte 47 name ≡ false
      plain None f k = none_is_some j (sym (ap child_of f) ∙ k)
      plain (Some s) f k = ap (has_byte 47) e ∙ (is_filename_of n (names_one kind folders n (leaf_in s) (each w.0 n s f)).0).within_folder
  way_plain (n ∷ way) j w name (inr i) = way_plain way w.0 w.1 name i

  in_onto : (way rest : Path) (name : Bytes) → In name (onto way rest) → In name way ⊎ In name rest
  in_onto [] rest name i = inr i
  in_onto (n ∷ way) rest name i = elim (in_onto way (n ∷ rest) name i) [
    | inl j ↦ inl (inr j)
    | inr (inl e) ↦ inl (inl e)
    | inr (inr j) ↦ inr j
  ]

  leads_plain : (path : Path) (j : ℕ) → LeadsTo slots path j [] → ArePlainNames path
  leads_plain path j (way, w, e) name i = elim (in_onto way [] name (subst (In name) (sym e) i)) [
    | inl k ↦ way_plain way j w name k
    | inr k ↦ absurd k
  ]

  files_at : (path : Path) (j : ℕ) (n : Bytes) (rest : Path) (s : Slot) → LeadsTo slots path j [] → slots j n ≡ Some s → s.child ≡ None
      → files_of_node trees slots 0 (path ++ n ∷ rest) ≡ files_of_entry trees rest (leaf_in s)
  files_at path j n rest s leads at closed =
      sym (files_below trees slots path j (n ∷ rest) leads) ∙ ap (λ o. through o (files_of_slot trees slots rest)) at ∙ closed_files trees slots s closed rest

  module _ (before : List HandedOut) (known : (c : HandedOut) → In c before → IsTreeKnown kind stands m before c) (some : (c : HandedOut) → In c before → c.items ≢ []) (t : HandedOut)
      (out : IsHandedOut slots before t) where
    f : FileMap
    f = folder m t

    plain : ArePlainNames t.path
    plain = leads_plain t.path out.opened.0 out.opened.1

    unfolds : IsUnfolded kind (folder m t) (under (files_of_node trees slots 0) t.path)
    unfolds = folder_unfolds kind m (files_of_node trees slots 0) t.path plain is

    fit : IsFileMap (folder m t)
    fit = folder_map m t.path fits

    -- an entry that wasn't opened
    unopened_case : (item : Item) → is_null item.id ≡ false → StandsUnopened slots t.path item
        → IsFileItem kind (folder m t) item.name item ⊎ IsFolderItem kind stands (map (folder m) before) (folder m t) item.name item
    unopened_case item isnt_null (j, s, leads, at, closed, same) =
        let told = names_one kind folders item.name (leaf_in s) (each j item.name s at) in
        let named_well = is_filename_of item.name told.0 in
        let one : NamesOne kind folders (leaf_of item) = subst (NamesOne kind folders) same told.1 in
        go named_well.within_folder one
      where
        there : (rest : Path) → files_of_node trees slots 0 (t.path ++ item.name ∷ rest) ≡ files_of_entry trees rest (leaf_of item)
        there rest = files_at t.path j item.name rest s leads at closed ∙ ap (files_of_entry trees rest) same

        file_case : has_byte 47 item.name ≡ false → is_file_mode item.mode ≡ true → IsFileItem kind (folder m t) item.name item
        file_case flat file = by_content (get (folder m t) item.name) refl
            (sym (unfolds.at item.name) ∙ ap (under (files_of_node trees slots 0) t.path) (one_part item.name flat) ∙ there [] ∙ itself)
          where
            itself : files_of_entry trees [] (leaf_of item) ≡ Some (leaf_of item)
            itself =
                ap (λ b. cond b None (unless_tree (tree_under trees (leaf_of item)) (leaf_of item))) isnt_null
                ∙ ap (λ b. unless_tree (cond b (trees item.id) None) (leaf_of item)) (file_no_tree item.mode file)

            by_content : (o : Option Content) → get (folder m t) item.name ≡ o → option_map (file_leaf kind) (get (folder m t) item.name) ≡ Some (leaf_of item) → IsFileItem kind (folder m t) item.name item
            by_content None e k = none_is_some (leaf_of item) (sym (ap (option_map (file_leaf kind)) e) ∙ k)
            by_content (Some content) e k =
                let leaf : leaf_of item ≡ file_leaf kind content = sym (same_Some (file_leaf kind content) (leaf_of item) (sym (ap (option_map (file_leaf kind)) e) ∙ k)) in
                record { content = content; at = e; is = λ i. record { mode = (leaf i).mode; name = item.name; id = (leaf i).id } }

        folder_case : has_byte 47 item.name ≡ false → item.mode ≡ folder_mode → (g : FileMap) → IsInner kind table stands g → item.id ≡ folder_id kind g
            → IsFolderItem kind stands (map (folder m) before) (folder m t) item.name item
        folder_case flat mode g in_g id = record {
          file = same_file kind g (inside item.name (folder m t)) (files_of_tree trees (items kind g)) (under (under (files_of_node trees slots 0) t.path) (components item.name)) of_g of_inside same_files in_g.some;
          is = item_by item folder_mode (folder_id kind (inside item.name (folder m t))) mode (id ∙ ap (λ text. digest kind (tree_text text)) roots);
          closed = λ h i.
              let one = same_folders kind (inside item.name (folder m t)) g (under (under (files_of_node trees slots 0) t.path) (components item.name)) (files_of_tree trees (items kind g))
              of_inside of_g (λ q. sym (same_files q)) h i in
              inr (one.0, in_contains stands one.0 (in_g.within one.0 one.1), one.2);
        }
          where
            of_g : IsUnfolded kind g (files_of_tree trees (items kind g))
            of_g = root_unfolds kind table trees stored g in_g.map (all_values (IsInTable table kind) g in_g.has)

            of_inside : IsUnfolded kind (inside item.name (folder m t)) (under (under (files_of_node trees slots 0) t.path) (components item.name))
            of_inside = inside_unfolds kind (folder m t) (under (files_of_node trees slots 0) t.path) item.name unfolds

            same_files : SameFiles (files_of_tree trees (items kind g)) (under (under (files_of_node trees slots 0) t.path) (components item.name))
            same_files [] = refl
            same_files (n ∷ rest) = sym (
                ap (λ ps. under (under (files_of_node trees slots 0) t.path) ps (n ∷ rest)) (one_part item.name flat)
                ∙ there (n ∷ rest)
                ∙ folder_files kind table trees stored stands g in_g (leaf_of item) mode isnt_null id n rest)

            roots : root kind g ≡ root kind (inside item.name (folder m t))
            roots = one_root kind g (inside item.name (folder m t)) (files_of_tree trees (items kind g)) (under (under (files_of_node trees slots 0) t.path) (components item.name)) of_g of_inside same_files

        go : has_byte 47 item.name ≡ false → NamesOne kind folders (leaf_of item)
            → IsFileItem kind (folder m t) item.name item ⊎ IsFolderItem kind stands (map (folder m) before) (folder m t) item.name item
        go flat (inl file) = inl (file_case flat file)
        go flat (inr (mode, inl null)) = clash null isnt_null
        go flat (inr (mode, inr (g, i, id))) = inr (folder_case flat mode g (inner g i) id)

    -- an entry that names a tree that was handed out
    named_case : (item : Item) → NamesFolder before t.path item → IsFolderItem kind stands (map (folder m) before) (folder m t) item.name item
    named_case item (child, among, path, id, mode) =
        let i = contains_in before child among in
        let is_known = known child i in
        let same : folder m child ≡ inside item.name (folder m t) = ap (folder_at m) path ∙ folder_below m t.path item.name in
        record {
          file = subst HasFile same (file_of_items kind (folder m child) (λ e. some child i (is_known.items_are ∙ e)));
          is = item_by item folder_mode (folder_id kind (inside item.name (folder m t))) mode (sym id ∙ is_known.id_is ∙ ap (folder_id kind) same);
          closed = λ h j. is_known.closed h (subst (λ x. In h (folders_of x)) (sym same) j);
        }

    item_case : (item : Item) → In item t.items → IsFileItem kind (folder m t) item.name item ⊎ IsFolderItem kind stands (map (folder m) before) (folder m t) item.name item
    item_case item i = go (of_all (IsKnown slots before t.path) t.items out.known item i)
      where
        go : NamesFolder before t.path item ⊎ StandsUnopened slots t.path item
            → IsFileItem kind (folder m t) item.name item ⊎ IsFolderItem kind stands (map (folder m) before) (folder m t) item.name item
        go (inl named) = inr (named_case item named)
        go (inr unopened) = unopened_case item (of_all (λ (x : Item). is_null x.id ≡ false) t.items out.no_null item i) unopened

    item_name : (item : Item) → In item t.items → is_filename item.name ≡ true
    item_name item i =
        let (j, s, leads, at) = of_all (λ (x : Item). (j : ℕ) × (s : Slot) × LeadsTo slots t.path j [] × (slots j x.name ≡ Some s)) t.items out.stand item i in
        (names_one kind folders item.name (leaf_in s) (each j item.name s at)).0

    well : IsWellFormed t.items
    well = out.well_formed (all_of (λ (x : Item). IsFilename x.name) t.items (λ item i. is_filename_of item.name (item_name item i)))

    own_well : IsWellFormed (items kind (folder m t))
    own_well = root_well_formed kind (folder m t) fit (items kind (folder m t)) (items_spelled kind (folder m t) (plain_map (folder m t) fit))

    module _ (nonnull : (c : HandedOut) → In c before → is_null c.id ≡ false) where
      -- if the tree has no entry of the name, the folder's tree has none
      none_there : (name : Bytes) → named name t.items ≡ None → named name (items kind (folder m t)) ≡ None
      none_there name none = elim (named_in kind (tree_of kind (folder m t)) name (tree_entries (entries (folder m t)))) [
        | inl (nothing, others) ↦ nothing
        | inr (entry, i, same, found) ↦ absurd (by_entry entry i same)
      ]
        where
          nothing : (rest : Path) → files_of_node trees slots 0 (t.path ++ name ∷ rest) ≡ None
          nothing rest = out.complete (all_of (λ (c : HandedOut). is_null c.id ≡ false) before nonnull) name rest none trees

          there : (path : Bytes) (content : Content) → get (folder m t) path ≡ Some content → (rest : Path) → components path ≡ name ∷ rest → ⊥
          there path content e rest parts = none_is_some (file_leaf kind content)
              (sym (nothing rest) ∙ ap (under (files_of_node trees slots 0) t.path) (sym parts) ∙ unfolds.at path ∙ ap (option_map (file_leaf kind)) e)

          by_entry : (entry : TreeEntry) → In entry (tree_entries (entries (folder m t))) → name_of entry ≡ name → ⊥
          by_entry (FileEntry path c) i same =
              there path c (in_get (folder m t) path c (entry_in (entries (folder m t)) path c i)) []
              (one_part path (name_plain (entries (folder m t)) (FileEntry path c) i) ∙ ap (λ n. n ∷ []) same)
          by_entry (FolderEntry other below) i same =
              let one = folder_of kind (folder m t) other below i in
              there (other ++ 47 ∷ (one.some.0).0) (one.some.0).1 (in_get (folder m t) (other ++ 47 ∷ (one.some.0).0) (one.some.0).1 one.some.1) (components (one.some.0).0)
              (parts_below other (one.some.0).0
              ∙ ap (λ ps. ps ++ components (one.some.0).0) (one_part other (name_plain (entries (folder m t)) (FolderEntry other below) i))
              ∙ ap (λ n. n ∷ components (one.some.0).0) same)

      same_named : (name : Bytes) → named name t.items ≡ named name (items kind (folder m t))
      same_named name = go (named name t.items) refl
        where
          go : (o : Option Item) → named name t.items ≡ o → named name t.items ≡ named name (items kind (folder m t))
          go None e = e ∙ sym (none_there name e)
          go (Some item) e =
              let found = named_is name t.items item e in
              let flat = (is_filename_of item.name (item_name item found.1)).within_folder in
              e ∙ by_case flat (item_case item found.1) ∙ ap (λ n. named n (items kind (folder m t))) found.0
            where
              by_case : has_byte 47 item.name ≡ false → IsFileItem kind (folder m t) item.name item ⊎ IsFolderItem kind stands (map (folder m) before) (folder m t) item.name item
                  → Some item ≡ named item.name (items kind (folder m t))
              by_case flat (inl file) = sym (file_named kind (folder m t) fit item.name flat file.content file.at ∙ ap (λ x. Some x) (sym file.is))
              by_case flat (inr one) = sym (folder_named kind (folder m t) fit item.name flat one.file ∙ ap (λ x. Some x) (sym one.is))

      own_items : t.items ≡ items kind (folder m t)
      own_items = one_list t.items (items kind (folder m t)) well.ordered well.once own_well.ordered own_well.once same_named

      -- each folder in a name's was handed out, or has a tree that exists before
      name_closed : (name : Bytes) → has_byte 47 name ≡ false → HasFile (inside name (folder m t)) → (h : FileMap) → In h (folders_of (inside name (folder m t)))
          → In h (map (folder m) before) ⊎ HasTreeOf kind stands h
      name_closed name flat file h i =
          let item = folder_item name (folder_id kind (inside name (folder m t))) in
          let found = named_is name t.items item (same_named name ∙ folder_named kind (folder m t) fit name flat file) in
          by_case (item_case item found.1)
        where
          by_case : IsFileItem kind (folder m t) name (folder_item name (folder_id kind (inside name (folder m t))))
              ⊎ IsFolderItem kind stands (map (folder m) before) (folder m t) name (folder_item name (folder_id kind (inside name (folder m t))))
              → In h (map (folder m) before) ⊎ HasTreeOf kind stands h
          by_case (inl one) =
              absurd (no_both kind (folder m t) fit name flat file.0 one.content file.1 one.at (file_inside (folder m t) name file.0 file.1 file.2))
          by_case (inr one) = one.closed h i

      handed_closed : (h : FileMap) → In h (folders_of (folder m t)) → In h (map (folder m) (before ++ t ∷ [])) ⊎ HasTreeOf kind stands h
      handed_closed h i = go (among_inside (folder m t) h i)
        where
          widen : In h (map (folder m) before) ⊎ HasTreeOf kind stands h → In h (map (folder m) (before ++ t ∷ [])) ⊎ HasTreeOf kind stands h
          widen (inl j) = let from = of_map (folder m) h before j in inl (subst (λ x. In x (map (folder m) (before ++ t ∷ []))) (sym from.2) (in_map (folder m) from.0 (before ++ t ∷ []) (in_left from.0 before (t ∷ []) from.1)))
          widen (inr one) = inr one

          by_parts : (q : Bytes) → HasFile (inside q (folder m t)) → h ≡ inside q (folder m t) → In h (map (folder m) (before ++ t ∷ [])) ⊎ HasTreeOf kind stands h
          by_parts q file e = go_parts (has_byte 47 q) refl
            where
              name : Bytes
              name = before_first (λ b. b == 47) q

              rest : Bytes
              rest = after_first (λ b. b == 47) q

              go_parts : (b : Bool) → has_byte 47 q ≡ b → In h (map (folder m) (before ++ t ∷ [])) ⊎ HasTreeOf kind stands h
              go_parts false flat = widen (name_closed q flat file h (inl e))
              go_parts true slash =
                  let whole : name ++ 47 ∷ rest ≡ q = has_parts q slash in
                  let deeper : inside rest (inside name (folder m t)) ≡ inside q (folder m t) = inside_inside name rest (folder m t) ∙ ap (λ x. inside x (folder m t)) whole in
                  let inner_file : HasFile (inside rest (inside name (folder m t))) = subst HasFile (sym deeper) file in
                  let outer_file : HasFile (inside name (folder m t)) = (rest ++ 47 ∷ inner_file.0, inner_file.1, file_inside (inside name (folder m t)) rest inner_file.0 inner_file.1 inner_file.2) in
                  widen (name_closed name (front_plain q) outer_file h
                  (subst (λ x. In x (folders_of (inside name (folder m t)))) (sym (e ∙ sym deeper)) (inside_among (inside name (folder m t)) rest inner_file)))

          go : (h ≡ folder m t) ⊎ ((q : Bytes) × HasFile (inside q (folder m t)) × (h ≡ inside q (folder m t))) → In h (map (folder m) (before ++ t ∷ [])) ⊎ HasTreeOf kind stands h
          go (inl e) = inl (subst (λ x. In x (map (folder m) (before ++ t ∷ []))) (sym e) (in_map (folder m) t (before ++ t ∷ []) (in_right t before (t ∷ []) (inl refl))))
          go (inr (q, file, e)) = by_parts q file e

      pub next_known : t.id ≡ digest kind (tree_text (writing.tree_text t.items)) → IsTreeKnown kind stands m (before ++ t ∷ []) t
      next_known id = record {
        items_are = own_items;
        id_is = id ∙ ap (λ xs. digest kind (tree_text (writing.tree_text xs))) own_items ∙ ap (λ text. digest kind (tree_text text)) (items_root kind (folder m t));
        closed = handed_closed;
      }
