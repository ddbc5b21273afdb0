-- What the entry of a graft's source leads to.
use Rattle.std.proofs.Common.{◌≡◌, ℕ, Bool, true, false, cond, List, [], ◌∷◌, ◌++◌, refl, sym, ◌∙◌, ap, subst, inl, inr, Option, Some, None, is_some, option_map, codes, get_or, arith}
use Rattle.std.specs.FinMap.{entries, keys, get}
use Rattle.gix_hash.specs.Id.{Id, id_of, null_id}
use Rattle.gix_hash.specs.declared.kind.Kind.{Kind}
use Rattle.gix_hash.specs.declared.kind.Kind.TheVariants.{Sha1}
use Rattle.gix_hash.specs.declared.object_id.ObjectId.{ObjectId}
use Rattle.gix_object_tree.specs.Mode.{kind_value}
use Rattle.gix_object_lookup.specs.Table.{Table}
use Rattle.gix_object_nodes.specs.Files.{Path, Leaf, Trees, files_of_entry, files_of_tree, is_null, leaf_of, named, through, tree_under, unless_tree}
use Rattle.gix_object_editor.specs.Stored.{HasStored}
use Rattle.history_model.specs.Bytes.{Bytes, is_empty}
use Rattle.history_model.specs.FileMap.{FileMap, Content, IsFileMap, components, has_below, inside}
use Rattle.history_model.specs.Objects.{StoredFolder, Value, blob_id, folder_id, mode_of}
use Rattle.history_model.specs.declared.FileKind.{FileKind}
use Rattle.history_model.specs.declared.FileKind.TheVariants.{File as PlainFile, Exec, Link}
use Rattle.history_model.proofs.IdLemmas.{id_itself}
use Rattle.history_model.proofs.WholeItems.{Entry}
use Rattle.history_model.proofs.WholeLists.{In, clash, in_map, none_is_some, of_map}
use Rattle.history_model.proofs.WholePaths.{below_front, is_beginning}
use Rattle.history_model.proofs.WholeRoots.{HasAll, all_values, has_all, inside_has}
use Rattle.history_model.proofs.WholeStores.{get_in, in_get}
use Rattle.history_files.specs.Edits.{IsSource, source_entry}
use Rattle.history_files.specs.Entries.{found_leaf}
use Rattle.history_files.specs.Reading.{entry_of}
use Rattle.history_files.specs.Unfolding.{IsInTable, IsUnfolded, entry_kind, file_leaf}
use Rattle.history_files.specs.declared.found.Found.{Found}
use Rattle.history_files.specs.declared.found.Found.TheVariants.{File, Folder}
use Rattle.history_files.proofs.AtNames.{below_some, some_below}
use Rattle.history_files.proofs.Components.{some_parts}
use Rattle.history_files.proofs.Grafted.{LeafHas, source_file, source_files}
use Rattle.history_files.proofs.Inside.{HasFile}
use Rattle.history_files.proofs.Items.{items}
use Rattle.history_files.proofs.Unfolded.{get_inside, inside_map, leaf_below, leaf_itself, none_if, root_unfolds, tree_there}
use Rattle.std.proofs.lemmas.Option.{same_Some}

-- ---- entries without files

null_none : (trees : Trees) (names : Path) → files_of_entry trees names (found_leaf None) ≡ None
null_none trees [] = ap (λ b. cond b None (unless_tree (tree_under trees (found_leaf None)) (found_leaf None))) (id_itself (null_id Sha1))
null_none trees (name ∷ rest) =
    ap (λ b. cond b None (through (tree_under trees (found_leaf None)) (λ found. through (named name found) (λ item. files_of_entry trees rest (leaf_of item))))) (id_itself (null_id Sha1))

pub no_keys : (m : FileMap) → is_empty (keys m) ≡ true → (q : Bytes) → get m q ≡ None
no_keys m h q = none_if (get m q) (λ c e. go (keys m) h (in_map (λ (x : Entry). x.0) (q, c) (entries m) (get_in m q c e)))
  where
    go : (ks : List Bytes) → is_empty ks ≡ true → In q ks → ⊥
    go [] e i = absurd i
    go (k ∷ ks) e i = cc

-- ---- what a source's entry says

-- the source is a folder with files, or a file, or nothing
pub data Source (kind : Kind) (source : Bytes) (other : FileMap) (found : Option Found) : Type 0 where
  Nothing : found ≡ None → source_file source other ≡ None → ((q : Bytes) → get (source_files source other) q ≡ None) → Source kind source other found
  AFile : (file : FileKind) (id : ObjectId) (content : Content) → found ≡ Some (File file id) → file ≡ content.kind → id_of id ≡ blob_id kind content.bytes → get other source ≡ Some content
      → source_file source other ≡ Some content → ((q : Bytes) → get (source_files source other) q ≡ None) → Source kind source other found
  AFolder : (id : ObjectId) → found ≡ Some (Folder id) → id_of id ≡ folder_id kind (source_files source other) → source_file source other ≡ None → HasFile (source_files source other) → Source kind source other found

none_found : (found : Option Found) → option_map entry_of found ≡ None → found ≡ None
none_found None e = refl
none_found (Some f) e = cc

folder_found : (found : Option Found) (id : Id) → option_map entry_of found ≡ Some (codes "40000", id) → (x : ObjectId) × (found ≡ Some (Folder x)) × (id_of x ≡ id)
folder_found None id e = cc
folder_found (Some (Folder x)) id e = (x, refl, ap (λ (p : Bytes × Id). p.1) (same_Some (codes "40000", id_of x) (codes "40000", id) e))
folder_found (Some (File PlainFile x)) id e = let bad = ap (λ (p : Bytes × Id). p.0) (same_Some (codes "100644", id_of x) (codes "40000", id) e) in cc
folder_found (Some (File Exec x)) id e = let bad = ap (λ (p : Bytes × Id). p.0) (same_Some (codes "100755", id_of x) (codes "40000", id) e) in cc
folder_found (Some (File Link x)) id e = let bad = ap (λ (p : Bytes × Id). p.0) (same_Some (codes "120000", id_of x) (codes "40000", id) e) in cc

-- the modes of two kinds differ in a byte
same_at : (i a b : ℕ) (x y : Bytes) → x ≡ y → get_or x i 0 ≡ a → get_or y i 0 ≡ b → a ≡ b
same_at i a b x y e at_x at_y = sym at_x ∙ ap (λ m. get_or m i 0) e ∙ at_y

no_exec : ◌≡◌ {A = ℕ} 54 55 → ⊥
no_exec e = absurd (omega arith)

no_link : ◌≡◌ {A = ℕ} 48 50 → ⊥
no_link e = cc

same_mode : (a b : FileKind) → mode_of a ≡ mode_of b → a ≡ b
same_mode PlainFile PlainFile e = refl
same_mode PlainFile Exec e = absurd (no_exec (same_at 3 54 55 (mode_of PlainFile) (mode_of Exec) e refl refl))
same_mode PlainFile Link e = absurd (no_link (same_at 1 48 50 (mode_of PlainFile) (mode_of Link) e refl refl))
same_mode Exec PlainFile e = absurd (no_exec (same_at 3 54 55 (mode_of PlainFile) (mode_of Exec) (sym e) refl refl))
same_mode Exec Exec e = refl
same_mode Exec Link e = absurd (no_link (same_at 1 48 50 (mode_of Exec) (mode_of Link) e refl refl))
same_mode Link PlainFile e = absurd (no_link (same_at 1 48 50 (mode_of PlainFile) (mode_of Link) (sym e) refl refl))
same_mode Link Exec e = absurd (no_link (same_at 1 48 50 (mode_of Exec) (mode_of Link) (sym e) refl refl))
same_mode Link Link e = refl

no_folder_mode : (k : FileKind) → codes "40000" ≡ mode_of k → ⊥
no_folder_mode PlainFile e = cc
no_folder_mode Exec e = cc
no_folder_mode Link e = cc

file_found : (found : Option Found) (k : FileKind) (id : Id) → option_map entry_of found ≡ Some (mode_of k, id) → (file : FileKind) × (x : ObjectId) × (found ≡ Some (File file x)) × (file ≡ k) × (id_of x ≡ id)
file_found None k id e = cc
file_found (Some (Folder x)) k id e = absurd (no_folder_mode k (ap (λ (p : Bytes × Id). p.0) (same_Some (codes "40000", id_of x) (mode_of k, id) e)))
file_found (Some (File file x)) k id e =
    let same = same_Some (mode_of file, id_of x) (mode_of k, id) e in
    (file, x, refl, same_mode file k (ap (λ (p : Bytes × Id). p.0) same), ap (λ (p : Bytes × Id). p.1) same)

pub some_file : (m : FileMap) → is_empty (keys m) ≡ false → HasFile m
some_file m h =
    let one = some_key (keys m) h in
    let from = of_map (λ (x : Entry). x.0) one.0 (entries m) one.1 in
    ((from.0).0, (from.0).1, in_get m (from.0).0 (from.0).1 from.1)
  where
    some_key : (ks : List Bytes) → is_empty ks ≡ false → (k : Bytes) × In k ks
    some_key [] e = cc
    some_key (k ∷ ks) e = (k, inl refl)

pub by_entry : (kind : Kind) (source : Bytes) (other : FileMap) → IsFileMap other → (found : Option Found) → option_map entry_of found ≡ source_entry kind other source → Source kind source other found
by_entry kind [] other map found e = go (is_empty (keys other)) refl e
  where
    go : (b : Bool) → is_empty (keys other) ≡ b → option_map entry_of found ≡ cond b None (Some (codes "40000", folder_id kind other)) → Source kind [] other found
    go true h k = Nothing (none_found found k) refl (no_keys other h)
    go false h k = let one = folder_found found (folder_id kind other) k in AFolder one.0 one.1 one.2 refl (some_file other h)
by_entry kind (b ∷ s) other map found e = go (has_below other (b ∷ s)) refl e
  where
    in_folder : (h : has_below other (b ∷ s) ≡ true) → (found : Option Found) → (x : ObjectId) × (found ≡ Some (Folder x)) × (id_of x ≡ folder_id kind (inside (b ∷ s) other)) → Source kind (b ∷ s) other found
    in_folder h f (x, is, id) =
        let below = below_some other (b ∷ s) h in
        AFolder x is id
        (none_if (get other (b ∷ s)) (λ c g. clash (below_front (b ∷ s) below.0) (map.apart (b ∷ s) ((b ∷ s) ++ 47 ∷ below.0) (ap is_some g) (ap is_some below.2))))
        (below.0, below.1, get_inside (b ∷ s) other below.0 ∙ below.2)

    none_in : has_below other (b ∷ s) ≡ false → (q : Bytes) → get (inside (b ∷ s) other) q ≡ None
    none_in h q = get_inside (b ∷ s) other q ∙ none_if (get other ((b ∷ s) ++ 47 ∷ q)) (λ c g. clash (some_below other (b ∷ s) q c g) h)

    one_file : has_below other (b ∷ s) ≡ false → (o : Option Content) → get other (b ∷ s) ≡ o → option_map entry_of found ≡ option_map (λ content. (mode_of content.kind, blob_id kind content.bytes)) o → Source kind (b ∷ s) other found
    one_file h None g k = Nothing (none_found found k) g (none_in h)
    one_file h (Some content) g k =
        let one = file_found found content.kind (blob_id kind content.bytes) k in
        AFile one.0 one.1 content one.2 one.3 one.4 g g (none_in h)

    go : (t : Bool) → has_below other (b ∷ s) ≡ t
        → option_map entry_of found ≡ cond t (Some (codes "40000", folder_id kind (inside (b ∷ s) other))) (option_map (λ content. (mode_of content.kind, blob_id kind content.bytes)) (get other (b ∷ s)))
        → Source kind (b ∷ s) other found
    go true h k = in_folder h found (folder_found found (folder_id kind (inside (b ∷ s) other)) k)
    go false h k = one_file h (get other (b ∷ s)) refl k

pub source_of : (table : Table) (kind : Kind) (source : Bytes) (other : FileMap) (found : Option Found) → IsSource table kind source other found → Source kind source other found
source_of table kind source other found is = by_entry kind source other is.map found is.is

-- ---- the files that the entry has

-- a source that is a folder: its files, whose values are in the table
pub record FolderStands (table : Table) (kind : Kind) (below : FileMap) : Type 0 where
  pub map : IsFileMap below
  pub has : HasAll (IsInTable table kind) below

pub folder_stands : (table : Table) (kind : Kind) (source : Bytes) (other : FileMap) → IsFileMap other → HasAll (IsInTable table kind) other → HasFile (source_files source other) → FolderStands table kind (source_files source other)
folder_stands table kind [] other map has file = record { map = map; has = has }
folder_stands table kind (b ∷ s) other map has (rest, content, at) = record {
  map = inside_map (b ∷ s) other map;
  has = inside_has (IsInTable table kind) other has ((b ∷ s) ++ 47 ∷ rest) content (b ∷ s) (get_in other ((b ∷ s) ++ 47 ∷ rest) content (sym (get_inside (b ∷ s) other rest) ∙ at)) (is_beginning (b ∷ s) rest);
}

-- if all of the files have a property, so has the folder that the source is
pub folder_stored : (P : Value → Type 0) (source : Bytes) (other : FileMap) → HasAll P other → HasFile (source_files source other) → P (StoredFolder (source_files source other))
folder_stored P [] other has file = has.itself
folder_stored P (b ∷ s) other has (rest, content, at) =
    has.folders ((b ∷ s) ++ 47 ∷ rest) content (b ∷ s) (get_in other ((b ∷ s) ++ 47 ∷ rest) content (sym (get_inside (b ∷ s) other rest) ∙ at)) (is_beginning (b ∷ s) rest)

module _ (table : Table) (kind : Kind) (trees : Trees) (stored : HasStored table trees) where
  abbrev folder_leaf : ObjectId → Leaf
  folder_leaf id = found_leaf (Some (Folder id))

  folder_has : (id : ObjectId) (below : FileMap) → FolderStands table kind below → id_of id ≡ folder_id kind below → LeafHas kind trees (found_leaf (Some (Folder id))) None below
  folder_has id below stands same = record {
    itself = ap (λ b. cond b None (unless_tree (tree_under trees (folder_leaf id)) (folder_leaf id))) isnt_null ∙ ap (λ o. unless_tree o (folder_leaf id)) leads;
    inside_it = λ r. let some = some_parts r in
        ap (λ ps. files_of_entry trees ps (folder_leaf id)) some.2 ∙ into some.0 some.1 ∙ ap (files_of_tree trees (items kind below)) (sym some.2) ∙ unfolds.at r;
    only = λ name rest found e. unfolds.only (name ∷ rest) found (sym (into name rest) ∙ e);
  }
    where
      unfolds : IsUnfolded kind below (files_of_tree trees (items kind below))
      unfolds = root_unfolds kind table trees stored below stands.map (all_values (IsInTable table kind) below stands.has)

      isnt_null : is_null (id_of id) ≡ false
      isnt_null = ap is_null same ∙ (stands.has).itself.isnt_null

      leads : tree_under trees (folder_leaf id) ≡ Some (items kind below)
      leads = ap trees same ∙ tree_there kind table trees stored below stands.map (stands.has).itself

      into : (name : Bytes) (rest : Path) → files_of_entry trees (name ∷ rest) (folder_leaf id) ≡ files_of_tree trees (items kind below) (name ∷ rest)
      into name rest =
          ap (λ b. cond b None (through (tree_under trees (folder_leaf id)) (λ found. through (named name found) (λ item. files_of_entry trees rest (leaf_of item))))) isnt_null
          ∙ ap (λ o. through o (λ found. through (named name found) (λ item. files_of_entry trees rest (leaf_of item)))) leads

  file_has : (content : Content) (below : FileMap) → is_null (blob_id kind content.bytes) ≡ false → ((q : Bytes) → get below q ≡ None) → LeafHas kind trees (file_leaf kind content) (Some content) below
  file_has content below isnt_null none = record {
    itself = leaf_itself trees kind content isnt_null;
    inside_it = λ r. let some = some_parts r in
        ap (λ ps. files_of_entry trees ps (file_leaf kind content)) some.2 ∙ leaf_below trees kind content some.0 some.1 ∙ sym (ap (option_map (file_leaf kind)) (none r));
    only = λ name rest found e. none_is_some found (sym (leaf_below trees kind content name rest) ∙ e);
  }

  nothing_has : (below : FileMap) → ((q : Bytes) → get below q ≡ None) → LeafHas kind trees (found_leaf None) None below
  nothing_has below none = record {
    itself = null_none trees [];
    inside_it = λ r. null_none trees (components r) ∙ sym (ap (option_map (file_leaf kind)) (none r));
    only = λ name rest found e. none_is_some found (sym (null_none trees (name ∷ rest)) ∙ e);
  }

  pub leaf_has : (source : Bytes) (other : FileMap) (found : Option Found) → IsSource table kind source other found → LeafHas kind trees (found_leaf found) (source_file source other) (source_files source other)
  leaf_has source other found is = go (source_of table kind source other found is)
    where
      whole : HasAll (IsInTable table kind) other
      whole = has_all (IsInTable table kind) other is.trees

      go : Source kind source other found → LeafHas kind trees (found_leaf found) (source_file source other) (source_files source other)
      go (Nothing e file none) =
          subst (λ x. LeafHas kind trees (found_leaf x) (source_file source other) (source_files source other)) (sym e)
          (subst (λ o. LeafHas kind trees (found_leaf None) o (source_files source other)) (sym file) (nothing_has (source_files source other) none))
      go (AFile k id content e file_kind same at file none) =
          let leaf : found_leaf (Some (File k id)) ≡ file_leaf kind content = λ i. record { mode = record { value = kind_value (entry_kind (file_kind i)); padded = false }; id = same i } in
          subst (λ x. LeafHas kind trees (found_leaf x) (source_file source other) (source_files source other)) (sym e)
          (subst (λ l. LeafHas kind trees l (source_file source other) (source_files source other)) (sym leaf)
          (subst (λ o. LeafHas kind trees (file_leaf kind content) o (source_files source other)) (sym file)
          (file_has content (source_files source other) (whole.bytes source content (get_in other source content at)).isnt_null none)))
      go (AFolder id e same file some) =
          subst (λ x. LeafHas kind trees (found_leaf x) (source_file source other) (source_files source other)) (sym e)
          (subst (λ o. LeafHas kind trees (found_leaf (Some (Folder id))) o (source_files source other)) (sym file)
          (folder_has id (source_files source other) (folder_stands table kind source other is.map whole some) same))
