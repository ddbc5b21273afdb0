-- The entries of a stored folder's tree: what each names, and that they are in written form.
use Rattle.std.proofs.Common.{◌≡◌, ◌≢◌, true, false, cond, ◌∷◌, ◌++◌, map, refl, sym, ◌∙◌, ap, subst, Some}
use Rattle.std.specs.List.{flat_map}
use Rattle.std.specs.Fmt.{digits}
use Rattle.std.specs.FinMap.{entries, empty, get, keys, values}
use Rattle.gix_hash.specs.declared.kind.Kind.{Kind}
use Rattle.gix_object_tree.specs.Entry.{Item, SpellsTree}
use Rattle.gix_object_tree.specs.Mode.{kind_of, kind_value, kind_word}
use Rattle.gix_object_tree.specs.ModeText.{mode_text}
use Rattle.gix_object_tree.specs.Order.{is_tree}
use Rattle.gix_object_tree.specs.declared.tree.mode.EntryKind.TheVariants as modes
use Rattle.gix_object_nodes.specs.Writing.{folder_mode}
use Rattle.gix_object_lines.specs.declared.kind.Kind.TheVariants as kinds
use Rattle.history_files.specs.Unfolding.{entry_kind as mode_kind}
use Rattle.history_files.proofs.InOrder.{root_well_formed}
use Rattle.history_files.proofs.Items.{all_of, folder_of, item_of, items, items_root, items_spelled}
use Rattle.history_files.proofs.Unfolded.{leaf_no_tree, plain_map}
use Rattle.history_files.proofs.Walk.{tree_of}
use Rattle.history_model.specs.Bytes.{Bytes}
use Rattle.history_model.specs.FileMap.{Content, FileMap, IsFileMap, beginnings, inside}
use Rattle.history_model.specs.Objects.{FileEntry, FolderEntry, StoredBytes, StoredFolder, TreeEntry, Value, blob_id, empty_tree_id, folder_id, id_of, object_kind, root, tree_entries}
use Rattle.history_model.specs.Repository.{IsStored, IsWholeStore, Values, named_ids}
use Rattle.history_model.specs.declared.FileKind.{FileKind}
use Rattle.history_model.specs.declared.FileKind.TheVariants.{File, Exec, Link}
use Rattle.history_model.proofs.WholeItems.{Entry, leaf_in}
use Rattle.history_model.proofs.WholeLists.{In, in_flat, in_left, in_map, in_right, of_map}
use Rattle.history_model.proofs.WholePaths.{is_beginning}
use Rattle.history_model.proofs.WholeRoots.{HasAll, in_inside}
use Rattle.history_texts.specs.Written.{IsWrittenEntry, IsWrittenMode, IsWrittenTree, entry_kind}
use Rattle.history_check_objects.specs.Opened.{store_of}
use Rattle.history_check_objects.proofs.Empties.{entries-empty}

pub same_files : (a b : FileMap) → StoredFolder a ≡ StoredFolder b → a ≡ b
same_files a b e = cc

-- ---- what an entry is

-- a file's entry, or that of a folder with a file in it
pub data IsItem (kind : Kind) (files : FileMap) (item : Item) : Type 0 where
  of_file : (content : Content) → In (item.name, content) (entries files) → item.id ≡ blob_id kind content.bytes → is_tree item ≡ false → IsItem kind files item
  of_folder : (rest : Bytes) (content : Content) → In (item.name ++ 47 ∷ rest, content) (entries files) → item.id ≡ folder_id kind (inside item.name files) → is_tree item ≡ true → IsItem kind files item

pub item_is : (kind : Kind) (files : FileMap) (item : Item) → In item (items kind files) → IsItem kind files item
item_is kind files item i =
    let from = of_map (item_of kind (tree_of kind files)) item (tree_entries (entries files)) i in
    subst (IsItem kind files) (sym from.2) (go from.0 from.1)
  where
    go : (t : TreeEntry) → In t (tree_entries (entries files)) → IsItem kind files (item_of kind (tree_of kind files) t)
    go (FileEntry path content) j = of_file content (leaf_in (entries files) path content j) refl (leaf_no_tree content.kind)
    go (FolderEntry name below) j =
        let folder = folder_of kind files name below j in
        of_folder (folder.some.0).0 (folder.some.0).1 folder.some.1 folder.id refl

-- ---- modes

leaf_digits : (k : FileKind) → mode_text (record { value = kind_value (mode_kind k); padded = false }) ≡ kind_word (kind_of (kind_value (mode_kind k)))
unfolding digits
leaf_digits File = refl
leaf_digits Exec = refl
leaf_digits Link = refl

leaf_no_commit : (k : FileKind) → kind_of (kind_value (mode_kind k)) ≢ modes.Commit
leaf_no_commit File = λ e. cc
leaf_no_commit Exec = λ e. cc
leaf_no_commit Link = λ e. cc

folder_digits : mode_text folder_mode ≡ kind_word (kind_of 16384)
unfolding digits
folder_digits = refl

written_mode : (kind : Kind) (files : FileMap) (t : TreeEntry) → IsWrittenMode (item_of kind (tree_of kind files) t).mode
written_mode kind files (FileEntry path content) = record { digits = leaf_digits content.kind; no_commit = leaf_no_commit content.kind }
written_mode kind files (FolderEntry name below) = record { digits = folder_digits; no_commit = λ e. cc }

-- ---- over a whole store

module _ (kind : Kind) (stored : Values) (whole : IsWholeStore (store_of kind stored)) (files : FileMap) (all : HasAll (IsStored (store_of kind stored)) files) where
  -- a file's bytes are stored, and so is each folder
  pub bytes_stored : (path : Bytes) (content : Content) → In (path, content) (entries files) → get stored (blob_id kind content.bytes) ≡ Some (StoredBytes content.bytes)
  bytes_stored path content i = all.bytes path content i

  pub folder_stored : (name rest : Bytes) (content : Content) → In (name ++ 47 ∷ rest, content) (entries files) → get stored (folder_id kind (inside name files)) ≡ Some (StoredFolder (inside name files))
  folder_stored name rest content i = all.folders (name ++ 47 ∷ rest) content name i (is_beginning name rest)

  -- an entry's value is stored, and the folder names it
  pub record IsEntryValue (item : Item) : Type 0 where
    pub value : Value
    pub at : get stored item.id ≡ Some value
    pub of_kind : object_kind value ≡ entry_kind item
    pub among : In item.id (named_ids kind (StoredFolder files))

  pub entry_value : (item : Item) → IsItem kind files item → IsEntryValue item
  entry_value item (of_file content i same plain) = record {
    value = StoredBytes content.bytes;
    at = ap (get stored) same ∙ bytes_stored item.name content i;
    of_kind = ap (λ b. cond b kinds.Tree kinds.Blob) (sym plain);
    among = subst (λ q. In q (named_ids kind (StoredFolder files))) (sym same)
        (in_map (id_of kind) (StoredBytes content.bytes) _ (in_right (StoredBytes content.bytes) (map StoredFolder (map (λ folder. inside folder files) (flat_map beginnings (keys files)))) _
        (in_map (λ (c : Content). StoredBytes c.bytes) content (values files) (in_map (λ (e : Entry). e.1) (item.name, content) (entries files) i))));
  }
  entry_value item (of_folder rest content i same tree) = record {
    value = StoredFolder (inside item.name files);
    at = ap (get stored) same ∙ folder_stored item.name rest content i;
    of_kind = ap (λ b. cond b kinds.Tree kinds.Blob) (sym tree);
    among = subst (λ q. In q (named_ids kind (StoredFolder files))) (sym same)
        (in_map (id_of kind) (StoredFolder (inside item.name files)) _ (in_left (StoredFolder (inside item.name files)) (map StoredFolder (map (λ folder. inside folder files) (flat_map beginnings (keys files)))) _
        (in_map StoredFolder (inside item.name files) (map (λ folder. inside folder files) (flat_map beginnings (keys files))) (in_map (λ folder. inside folder files) item.name (flat_map beginnings (keys files))
        (in_flat beginnings item.name (item.name ++ 47 ∷ rest) (keys files) (in_map (λ (e : Entry). e.0) (item.name ++ 47 ∷ rest, content) (entries files) i) (is_beginning item.name rest))))));
  }

  -- no entry names the empty tree
  no_empty : (item : Item) → IsItem kind files item → item.id ≢ empty_tree_id kind
  no_empty item (of_file content i same plain) e =
      let none = whole.empty_tree (StoredBytes content.bytes) (ap (get stored) (sym e ∙ same) ∙ bytes_stored item.name content i) in
      absurd (cc none)
  no_empty item (of_folder rest content i same tree) e =
      let none : StoredFolder (inside item.name files) ≡ StoredFolder empty = whole.empty_tree (StoredFolder (inside item.name files)) (ap (get stored) (sym e ∙ same) ∙ folder_stored item.name rest content i) in
      let none_inside = same_files (inside item.name files) empty none in
      subst (In (rest, content)) (ap entries none_inside ∙ entries-empty) (in_inside item.name files rest content i)

  module _ (fits : IsFileMap files) where
    pub are_written : IsWrittenTree kind (root kind files) (items kind files)
    are_written = (
      spelled,
      record {
        text = sym (items_root kind files);
        well_formed = root_well_formed kind files fits (items kind files) spelled;
        entries = all_of (IsWrittenEntry kind) (items kind files) (λ item i.
            let from = of_map (item_of kind (tree_of kind files)) item (tree_entries (entries files)) i in
            record { mode = subst (λ (x : Item). IsWrittenMode x.mode) (sym from.2) (written_mode kind files from.0); some = no_empty item (item_is kind files item i) });
      },
    )
      where
        spelled : SpellsTree kind (root kind files) (items kind files)
        spelled = items_spelled kind files (plain_map files fits)
