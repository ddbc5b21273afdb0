-- Entries of the trees of a file map name files and its folders alone.
use Rattle.std.proofs.Common.{◌≡◌, Bool, true, false, cond, not, ◌&&◌, ◌||◌, List, [], ◌∷◌, ◌++◌, refl, sym, ◌∙◌, ap, subst, inl, inr, ◌⊎◌, Some, None, ◌==◌}
use Rattle.std.specs.Prelude.{⊤}
use Rattle.std.specs.List.{AllByRecursion, flat_map, list_any, list_all, onto_first}
use Rattle.std.specs.FinMap.{entries, keys, get}
use Rattle.gix_hash.specs.Id.{Id, id_of, null_id}
use Rattle.gix_hash.specs.Order.{id_eq}
use Rattle.gix_hash.specs.declared.kind.Kind.{Kind}
use Rattle.gix_hash.specs.declared.kind.Kind.TheVariants.{Sha1}
use Rattle.gix_hash.specs.declared.object_id.ObjectId.{ObjectId}
use Rattle.gix_object_tree.specs.Entry.{Item, SpellsTree}
use Rattle.gix_object_tree.specs.Mode.{kind_value}
use Rattle.gix_object_tree.proofs.TreeLaws.{one_tree}
use Rattle.gix_object_lookup.specs.Table.{Table, Object}
use Rattle.gix_object_editor.specs.Editor.{leaf_of_kind}
use Rattle.gix_object_editor.specs.Entries.{ItemsHave, PassesDown, made_leaf}
use Rattle.gix_object_nodes.specs.Files.{Leaf, is_null, leaf_of}
use Rattle.history_model.specs.Bytes.{Bytes, has_byte, is_empty}
use Rattle.history_model.specs.FileMap as model
use Rattle.history_model.specs.FileMap.{FileMap, Content, IsFileMap, beginnings, components, folders_of, inside, is_path}
use Rattle.history_model.specs.laws.Trees.{edit_path}
use Rattle.history_model.specs.Objects.{FileEntry, FolderEntry, TreeEntry, digest, folder_id, root, tree_entries, tree_text}
use Rattle.history_model.specs.declared.FileKind.{FileKind}
use Rattle.history_model.specs.declared.FileKind.TheVariants.{File as PlainFile, Exec, Link}
use Rattle.history_model.proofs.IdLemmas.{id_itself}
use Rattle.history_model.proofs.WholeLists.{In, all_in, clash, in_all, none_passes, of_map, passes_one}
use Rattle.history_model.proofs.WholePaths.{is_beginning}
use Rattle.history_model.proofs.WholeRoots.{all_values, has_all, in_inside, inside_has, inside_inside}
use Rattle.history_model.proofs.WholeStores.{get_in, in_get}
use Rattle.history_files.specs.Unfolding.{IsInTable, HasTrees, entry_kind}
use Rattle.history_files.specs.Editing.{HavePaths, NameEdits, Names}
use Rattle.history_files.specs.Entries.{MayBeMade, MayPut, found_leaf, is_file_mode, is_filename, is_folder_mode, names_only, own_folders}
use Rattle.history_files.specs.declared.edits.Change.{Change}
use Rattle.history_files.specs.declared.edits.Change.TheVariants.{Put, Remove, RemoveFile, Graft}
use Rattle.history_files.specs.declared.edits.Edit.{Edit}
use Rattle.history_files.specs.declared.found.Found.TheVariants.{File, Folder}
use Rattle.history_files.proofs.AtNames.{parts_plain}
use Rattle.history_files.proofs.Components.{some_parts}
use Rattle.history_files.proofs.Handed.{IsInner, NamesOne, file_no_tree, names_one}
use Rattle.history_files.proofs.Inside.{HasFile, among_deeper, among_inside, file_inside, file_of_beginning, own_among}
use Rattle.history_files.proofs.Items.{all_of, digest_kind, folder_of, item_name, item_of, items, items_spelled, name_of, name_plain, no_zero}
use Rattle.history_files.proofs.Unfolded.{inside_map, plain_map}
use Rattle.history_files.proofs.Walk.{some_name, tree_of}
use Rattle.std.proofs.lemmas.Bool.{or_parts, and_from, and_parts, not-true, or_from, not_from_false}
use Rattle.std.proofs.lemmas.Option.{same_Some}
use Rattle.history_model.proofs.NameLemmas.{some_or}

-- ---- names

filename_by : (name : Bytes) → (name ≡ [] → ⊥) → has_byte 47 name ≡ false → has_byte 0 name ≡ false → is_filename name ≡ true
filename_by [] some plain zero = absurd (some refl)
filename_by (b ∷ name) some plain zero = and_from (not (has_byte 47 (b ∷ name))) (not (has_byte 0 (b ∷ name))) (not_from_false (has_byte 47 (b ∷ name)) plain) (not_from_false (has_byte 0 (b ∷ name)) zero)

parts_zero : (path name : Bytes) → has_byte 0 path ≡ false → In name (components path) → has_byte 0 name ≡ false
parts_zero [] name none (inl e) = ap (has_byte 0) e
parts_zero [] name none (inr i) = absurd i
parts_zero (b ∷ path) name none i =
    let parts = or_parts (b == 0) (has_byte 0 path) none in
    go (b == 47) (some_parts path) (λ n j. parts_zero path n parts.1 j) parts.0 i
  where
    go : (t : Bool) → ((c : Bytes) × (cs : List Bytes) × (components path ≡ c ∷ cs)) → ((n : Bytes) → In n (components path) → has_byte 0 n ≡ false) → (b == 0) ≡ false
        → In name (cond t ([] ∷ components path) (onto_first b (components path))) → has_byte 0 name ≡ false
    go true some rest first (inl k) = ap (has_byte 0) k
    go true some rest first (inr j) = rest name j
    go false (c, cs, parts) rest first j = onto (subst (λ ps. In name (onto_first b ps)) parts j)
      where
        onto : In name ((b ∷ c) ∷ cs) → has_byte 0 name ≡ false
        onto (inl k) = ap (has_byte 0) k ∙ or_from (b == 0) (has_byte 0 c) first (rest c (subst (In c) (sym parts) (inl refl)))
        onto (inr l) = rest name (subst (In name) (sym parts) (inr l))

pub part_name : (path name : Bytes) → is_path path ≡ true → In name (components path) → is_filename name ≡ true
part_name path name fine i =
    let both = and_parts (not (list_any is_empty (components path))) (not (has_byte 0 path)) fine in
    let some = none_passes is_empty (components path) (not-true (list_any is_empty (components path)) both.0) name i in
    filename_by name (λ e. clash (ap is_empty e) some) (parts_plain path name i) (parts_zero path name (not-true (has_byte 0 path) both.1) i)

-- ---- entries

module _ (kind : Kind) (folders : List FileMap) where
  file_mode : (k : FileKind) (id : ObjectId) → is_file_mode (leaf_of_kind (entry_kind k) id).mode ≡ true
  file_mode PlainFile id = refl
  file_mode Exec id = refl
  file_mode Link id = refl

  -- what an entry has that names a file, or one of the folders, or nothing yet
  file_has : (name : Bytes) (leaf : Leaf) → is_filename name ≡ true → is_file_mode leaf.mode ≡ true → names_only kind folders name leaf ≡ true
  file_has name leaf fine file =
      and_from (is_filename name) (is_file_mode leaf.mode || (is_folder_mode leaf.mode && (is_null leaf.id || list_any (λ f. id_eq leaf.id (folder_id kind f)) folders))) fine
      (some_or (is_file_mode leaf.mode) (is_folder_mode leaf.mode && (is_null leaf.id || list_any (λ f. id_eq leaf.id (folder_id kind f)) folders)) (inl file))

  folder_has : (name : Bytes) (leaf : Leaf) → is_filename name ≡ true → is_folder_mode leaf.mode ≡ true → (is_null leaf.id || list_any (λ f. id_eq leaf.id (folder_id kind f)) folders) ≡ true → names_only kind folders name leaf ≡ true
  folder_has name leaf fine folder id =
      and_from (is_filename name) (is_file_mode leaf.mode || (is_folder_mode leaf.mode && (is_null leaf.id || list_any (λ f. id_eq leaf.id (folder_id kind f)) folders))) fine
      (some_or (is_file_mode leaf.mode) (is_folder_mode leaf.mode && (is_null leaf.id || list_any (λ f. id_eq leaf.id (folder_id kind f)) folders))
      (inr (and_from (is_folder_mode leaf.mode) (is_null leaf.id || list_any (λ f. id_eq leaf.id (folder_id kind f)) folders) folder id)))

  file_leaf_has : (name : Bytes) (k : FileKind) (id : ObjectId) → is_filename name ≡ true → names_only kind folders name (leaf_of_kind (entry_kind k) id) ≡ true
  file_leaf_has name k id fine = file_has name (leaf_of_kind (entry_kind k) id) fine (file_mode k id)

  made_has : (name : Bytes) (k : Kind) → is_filename name ≡ true → names_only kind folders name (made_leaf k) ≡ true
  made_has name k fine = folder_has name (made_leaf k) fine refl
      (some_or (is_null (null_id k)) (list_any (λ f. id_eq (null_id k) (folder_id kind f)) folders) (inl (id_itself (null_id k))))

  -- a folder that is grafted is one of these
  abbrev pub GraftIn : Change → Type 0
  GraftIn (Graft (Some (Folder id))) = (g : FileMap) × In g folders × (id_of id ≡ folder_id kind g)
  GraftIn _ = ⊤

  pub may_put : (path : Bytes) (change : Change) → is_path path ≡ true → GraftIn change → MayPut (names_only kind folders) path change
  may_put path (Put k id) fine among = all_of (λ name. (names_only kind folders name (leaf_of_kind (entry_kind k) id) ≡ true) × (names_only kind folders name (made_leaf (id_of id).kind) ≡ true)) (components path)
      (λ name i. let named = part_name path name fine i in (file_leaf_has name k id named, made_has name (id_of id).kind named))
  may_put path Remove fine among = tt
  may_put path RemoveFile fine among = tt
  may_put path (Graft (Some (File k id))) fine among = all_of (λ name. (names_only kind folders name (leaf_of_kind (entry_kind k) id) ≡ true) × (names_only kind folders name (made_leaf (id_of id).kind) ≡ true)) (components path)
      (λ name i. let named = part_name path name fine i in (file_leaf_has name k id named, made_has name (id_of id).kind named))
  may_put path (Graft (Some (Folder id))) fine (g, among, same) =
      let leaf = found_leaf (Some (Folder id)) in
      all_of (λ name. (names_only kind folders name leaf ≡ true) × (names_only kind folders name (made_leaf (id_of id).kind) ≡ true)) (components path)
      (λ name i. let named = part_name path name fine i in (
        folder_has name leaf named refl (some_or (is_null (id_of id)) (list_any (λ f. id_eq (id_of id) (folder_id kind f)) folders)
            (inr (passes_one (λ f. id_eq (id_of id) (folder_id kind f)) folders g among (ap (λ x. id_eq x (folder_id kind g)) same ∙ id_itself (folder_id kind g))))),
        made_has name (id_of id).kind named,
      ))
  may_put path (Graft None) fine among = all_of (λ name. (names_only kind folders name (found_leaf None) ≡ true) × (names_only kind folders name (made_leaf (found_leaf None).id.kind) ≡ true)) (components path)
      (λ name i. let named = part_name path name fine i in (made_has name Sha1 named, made_has name Sha1 named))

  path_of : (table : Table) (path : Bytes) (change : Change) (made : model.Edit) → Names table kind path change made → edit_path made ≡ path
  path_of table path (Put k id) made (bytes, e, same) = ap edit_path e
  path_of table path Remove made e = ap edit_path e
  path_of table path RemoveFile made e = ap edit_path e
  path_of table path (Graft found) made (source, other, e, is) = ap edit_path e

  pub may_be_made : (table : Table) (edits : List Edit) (made : List model.Edit) → NameEdits table kind edits made → HavePaths made → ((change : Change) (path : Bytes) (one : model.Edit) → Names table kind path change one → In one made → GraftIn change)
      → MayBeMade (names_only kind folders) edits
  may_be_made table [] made named fine among = tt
  may_be_made table (edit ∷ edits) [] named fine among = absurd named
  may_be_made table (edit ∷ edits) (one ∷ more) named fine among =
      let both = and_parts (is_path (edit_path one)) (list_all (λ e. is_path (edit_path e)) more) fine in (
        may_put edit.path.now edit.change (ap is_path (sym (path_of table edit.path.now edit.change one named.0)) ∙ both.0) (among edit.change edit.path.now one named.0 (inl refl)),
        may_be_made table edits more named.1 both.1 (λ change path e n i. among change path e n (inr i)),
      )

  item_has : (g : FileMap) → IsFileMap g → ((name : Bytes) → HasFile (inside name g) → In (inside name g) folders) → (t : TreeEntry) → In t (tree_entries (entries g))
      → names_only kind folders (item_of kind (tree_of kind g) t).name (leaf_of (item_of kind (tree_of kind g) t)) ≡ true
  item_has g fits inner t i =
      let plain = name_plain (entries g) t i in
      let zero = no_zero kind g (plain_map g fits) t i in
      let named : is_filename (name_of t) ≡ true = filename_by (name_of t) (λ e. some_name_of t i e) plain zero in
      by_entry t i (ap is_filename (item_name kind (tree_of kind g) t) ∙ named)
    where
      some_name_of : (u : TreeEntry) → In u (tree_entries (entries g)) → name_of u ≡ [] → ⊥
      some_name_of u j e = some_name (λ id. None) kind g fits u j e

      kind_mode : (k : FileKind) → is_file_mode (record { value = kind_value (entry_kind k); padded = false }) ≡ true
      kind_mode PlainFile = refl
      kind_mode Exec = refl
      kind_mode Link = refl

      there : (n rest : Bytes) (content : Content) → In (n ++ 47 ∷ rest, content) (entries g) → get (inside n g) rest ≡ Some content
      there n rest content k = in_get (inside n g) rest content (in_inside n g rest content k)

      by_entry : (u : TreeEntry) → In u (tree_entries (entries g)) → is_filename (item_of kind (tree_of kind g) u).name ≡ true
          → names_only kind folders (item_of kind (tree_of kind g) u).name (leaf_of (item_of kind (tree_of kind g) u)) ≡ true
      by_entry (FileEntry path content) j named = file_has path (leaf_of (item_of kind (tree_of kind g) (FileEntry path content))) named (kind_mode content.kind)
      by_entry (FolderEntry name below) j named =
          let one = folder_of kind g name below j in
          let file : HasFile (inside name g) = ((one.some.0).0, (one.some.0).1, there name (one.some.0).0 (one.some.0).1 one.some.1) in
          let id : Id = digest kind (tree_text (tree_of kind g below)) in
          let same : id_eq id (folder_id kind (inside name g)) ≡ true = ap (λ x. id_eq x (folder_id kind (inside name g))) one.id ∙ id_itself (folder_id kind (inside name g)) in
          folder_has name (leaf_of (item_of kind (tree_of kind g) (FolderEntry name below))) named refl
          (some_or (is_null id) (list_any (λ f. id_eq id (folder_id kind f)) folders) (inr (passes_one (λ f. id_eq id (folder_id kind f)) folders (inside name g) (inner name file) same)))

  pub items_have : (g : FileMap) → IsFileMap g → ((name : Bytes) → HasFile (inside name g) → In (inside name g) folders) → ItemsHave (names_only kind folders) (items kind g)
  items_have g fits inner = all_of (λ (item : Item). names_only kind folders item.name (leaf_of item) ≡ true) (items kind g) (λ item i.
      let from = of_map (item_of kind (tree_of kind g)) item (tree_entries (entries g)) i in
      subst (λ (x : Item). names_only kind folders x.name (leaf_of x) ≡ true) (sym from.2) (item_has g fits inner from.0 from.1))

  pub passes_down : (table : Table) (stands : List FileMap) → ((g : FileMap) → In g folders → IsInner kind table stands g) → ((g : FileMap) → In g folders → (name : Bytes) → HasFile (inside name g) → In (inside name g) folders)
      → PassesDown table (names_only kind folders)
  passes_down table stands inner deeper name leaf content all has tree isnt_null there spelled well = go (names_one kind folders name leaf has).1
    where
      go : NamesOne kind folders leaf → ItemsHave (names_only kind folders) all
      go (inl file) = clash tree (file_no_tree leaf.mode file)
      go (inr (mode, inl null)) = clash null isnt_null
      go (inr (mode, inr (g, i, id))) =
          let in_g = inner g i in
          let text : content ≡ root kind g = ap (λ (x : Object). x.content) (same_Some _ _ (sym there ∙ ap table id ∙ in_g.has.itself.stands)) in
          let of_kind : leaf.id.kind ≡ kind = ap (λ (x : Id). x.kind) id ∙ digest_kind kind _ in
          let same : items kind g ≡ all = one_tree kind (root kind g) (items kind g) all (items_spelled kind g (plain_map g in_g.map)) (subst (λ t. SpellsTree kind t all) text (subst (λ k. SpellsTree k content all) of_kind spelled)) in
          subst (ItemsHave (names_only kind folders)) same (items_have g in_g.map (λ n file. deeper g i n file))

-- ---- the folders of a root

module _ (kind : Kind) (table : Table) (files : FileMap) (fits : IsFileMap files) (trees : HasTrees table kind files) where
  own_inside : (g : FileMap) → In g (own_folders files) → (folder : Bytes) × HasFile (inside folder files) × (g ≡ inside folder files)
  own_inside g i = go (in_folders i)
    where
      in_folders : In g (own_folders files) → (folder : Bytes) × In folder (flat_map beginnings (keys files)) × (g ≡ inside folder files)
      in_folders j = of_map (λ folder. inside folder files) g (flat_map beginnings (keys files)) j

      go : (folder : Bytes) × In folder (flat_map beginnings (keys files)) × (g ≡ inside folder files) → (folder : Bytes) × HasFile (inside folder files) × (g ≡ inside folder files)
      go (folder, j, e) = (folder, file_of_beginning files folder j, e)

  pub own_inner : (g : FileMap) → In g (own_folders files) → IsInner kind table (folders_of files) g
  own_inner g i = go (own_inside g i)
    where
      go : (folder : Bytes) × HasFile (inside folder files) × (g ≡ inside folder files) → IsInner kind table (folders_of files) g
      go (folder, file, e) = subst (IsInner kind table (folders_of files)) (sym e) (record {
        map = inside_map folder files fits;
        has = inside_has (IsInTable table kind) files (has_all (IsInTable table kind) files trees) (folder ++ 47 ∷ file.0) file.1 folder
            (get_in files (folder ++ 47 ∷ file.0) file.1 (file_inside files folder file.0 file.1 file.2)) (is_beginning folder file.0);
        some = file;
        within = λ h j. among_deeper files folder h file j;
      })

pub own_deeper : (files : FileMap) (g : FileMap) → In g (own_folders files) → (name : Bytes) → HasFile (inside name g) → In (inside name g) (own_folders files)
own_deeper files g i name file =
    let from = of_map (λ folder. inside folder files) g (flat_map beginnings (keys files)) i in
    let same : inside name g ≡ inside (from.0 ++ 47 ∷ name) files = ap (inside name) from.2 ∙ inside_inside from.0 name files in
    subst (λ x. In x (own_folders files)) (sym same) (own_among files (from.0 ++ 47 ∷ name) (subst HasFile same file))

-- ---- the folders of a base

pub base_inner : (kind : Kind) (table : Table) (files : FileMap) → IsFileMap files → AllByRecursion (HasTrees table kind) (own_folders files) → (g : FileMap) → In g (own_folders files) → IsInner kind table (own_folders files) g
base_inner kind table files fits trees g i =
    let from = of_map (λ folder. inside folder files) g (flat_map beginnings (keys files)) i in
    record {
      map = subst IsFileMap (sym from.2) (inside_map from.0 files fits);
      has = has_all (IsInTable table kind) g (all_in (HasTrees table kind) (own_folders files) trees g i);
      some = subst HasFile (sym from.2) (file_of_beginning files from.0 from.1);
      within = λ h j. within h (among_inside g h j);
    }
  where
    within : (h : FileMap) → (h ≡ g) ⊎ ((folder : Bytes) × HasFile (inside folder g) × (h ≡ inside folder g)) → In h (own_folders files)
    within h (inl e) = subst (λ x. In x (own_folders files)) (sym e) i
    within h (inr (folder, file, e)) = subst (λ x. In x (own_folders files)) (sym e) (own_deeper files g i folder file)

pub own_trees : (kind : Kind) (table : Table) (files : FileMap) → IsFileMap files → HasTrees table kind files → AllByRecursion (HasTrees table kind) (own_folders files)
own_trees kind table files fits trees = in_all (HasTrees table kind) (own_folders files) (λ g i. all_values (IsInTable table kind) g (own_inner kind table files fits trees g i).has)

-- ---- paths

pub same_paths : (table : Table) (kind : Kind) (edits : List Edit) (made : List model.Edit) → NameEdits table kind edits made → list_all (λ (edit : Edit). is_path edit.path.now) edits ≡ list_all (λ e. is_path (edit_path e)) made
same_paths table kind [] [] are = refl
same_paths table kind [] (one ∷ made) are = absurd are
same_paths table kind (edit ∷ edits) [] are = absurd are
same_paths table kind (edit ∷ edits) (one ∷ made) are =
    let path = sym (path_of kind [] table edit.path.now edit.change one are.0) in
    λ i. is_path (path i) && same_paths table kind edits made are.1 i
