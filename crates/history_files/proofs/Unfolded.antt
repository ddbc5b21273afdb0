-- What a file map's tree unfolds to, over trees that have it and its folders.
use Rattle.std.proofs.Common.{◌≡◌, ℕ, zero, suc, ◌<◌, Bool, true, false, cond, not, List, [], ◌∷◌, ◌++◌, length, refl, sym, ◌∙◌, ap, subst, arith, inl, inr, Option, Some, None, is_some, option_map, length-append, ◌==◌}
use Rattle.std.specs.List.{before_first, after_first}
use Rattle.std.specs.FinMap.{entries, keys, get, contains_key}
use Rattle.gix_hash.specs.declared.kind.Kind.{Kind}
use Rattle.gix_object_tree.specs.Entry.{Item}
use Rattle.gix_object_tree.specs.Mode.{kind_value, is_tree_value}
use Rattle.gix_object_lookup.specs.Table.{Table}
use Rattle.gix_object_nodes.specs.Files.{Path, Leaf, Trees, named, through, tree_under, unless_tree, files_of_entry, files_of_tree, is_null, leaf_of}
use Rattle.gix_object_editor.specs.Stored.{HasStored}
use Rattle.gix_object_nodes.specs.Written.{files_under}
use Rattle.history_model.specs.Bytes.{Bytes, has_byte}
use Rattle.history_model.specs.FileMap.{FileMap, Content, IsFileMap, components, is_path, inside}
use Rattle.history_model.specs.Objects.{FileEntry, FolderEntry, TreeEntry, tree_entries, Value, StoredFolder, folder_id, blob_id, root_within, longest, digest, tree_text}
use Rattle.history_model.specs.declared.FileKind.{FileKind}
use Rattle.history_model.specs.declared.FileKind.TheVariants.{File, Exec, Link}
use Rattle.history_model.proofs.WholeLists.{In, clash}
use Rattle.history_model.proofs.WholePaths.{below_front, inner_below, has_parts, front_plain, is_beginning}
use Rattle.history_model.proofs.WholeItems.{Entry, leaf_in}
use Rattle.history_model.proofs.WholeRoots.{HasAll, has_all, inside_has, ArePlain, of_inside, in_inside}
use Rattle.history_model.proofs.WholeStores.{get_in, in_get}
use Rattle.history_files.specs.Unfolding.{entry_kind, file_leaf, IsUnfolded, IsInTable, HasTrees}
use Rattle.history_files.proofs.Components.{some_parts, one_part, parts_below}
use Rattle.history_files.proofs.Items.{items, items_spelled, item_of, name_of, named_in, name_plain, has_leaf, has_folder, folder_of}
use Rattle.history_model.proofs.RecoveredLemmas.{some_is}
use Rattle.history_model.proofs.WholeForms.{zero_after, path_after, below_there}
use Rattle.std.proofs.lemmas.Bool.{and_from, and_parts, not-true, not_from_false}

-- ---- file maps and their folders

pub inside_map : (folder : Bytes) (m : FileMap) → IsFileMap m → IsFileMap (inside folder m)
inside_map folder m map = record {
  paths = λ p h. path_after folder p (map.paths (folder ++ 47 ∷ p) (below_there folder m p h));
  apart = λ p q h k. sym (inner_below folder p q) ∙ map.apart (folder ++ 47 ∷ p) (folder ++ 47 ∷ q) (below_there folder m p h) (below_there folder m q k);
}

pub plain_map : (m : FileMap) → IsFileMap m → ArePlain (entries m)
plain_map m map e i =
    not-true (has_byte 0 e.0) (and_parts _ _ (map.paths e.0 (ap is_some (in_get m e.0 e.1 i)))).1

same_option : {X : Type 0} (a b : Option X) → ((x : X) → a ≡ Some x → b ≡ Some x) → ((x : X) → b ≡ Some x → a ≡ Some x) → a ≡ b
same_option None None f g = refl
same_option None (Some x) f g = g x refl
same_option (Some x) b f g = sym (f x refl)

-- what is inside a folder
pub get_inside : (folder : Bytes) (m : FileMap) (q : Bytes) → get (inside folder m) q ≡ get m (folder ++ 47 ∷ q)
get_inside folder m q = same_option (get (inside folder m) q) (get m (folder ++ 47 ∷ q))
    (λ x e. in_get m (folder ++ 47 ∷ q) x (of_inside folder m q x (get_in (inside folder m) q x e)))
    (λ x e. in_get (inside folder m) q x (in_inside folder m q x (get_in m (folder ++ 47 ∷ q) x e)))

pub none_if : {X : Type 0} (o : Option X) → ((x : X) → o ≡ Some x → ⊥) → o ≡ None
none_if None f = refl
none_if (Some x) f = absurd (f x refl)

-- ---- files are no trees

pub leaf_no_tree : (k : FileKind) → is_tree_value (kind_value (entry_kind k)) ≡ false
leaf_no_tree File = refl
leaf_no_tree Exec = refl
leaf_no_tree Link = refl

no_tree_under : (trees : Trees) (kind : Kind) (content : Content) → tree_under trees (file_leaf kind content) ≡ None
no_tree_under trees kind content = ap (λ b. cond b (trees (blob_id kind content.bytes)) None) (leaf_no_tree content.kind)

pub leaf_itself : (trees : Trees) (kind : Kind) (content : Content) → is_null (blob_id kind content.bytes) ≡ false → files_of_entry trees [] (file_leaf kind content) ≡ Some (file_leaf kind content)
leaf_itself trees kind content h =
    ap (λ b. cond b None (unless_tree (tree_under trees (file_leaf kind content)) (file_leaf kind content))) h
    ∙ ap (λ o. unless_tree o (file_leaf kind content)) (no_tree_under trees kind content)

either_none : {X : Type 0} (b : Bool) → cond {A = Option X} b None None ≡ None
either_none true = refl
either_none false = refl

pub leaf_below : (trees : Trees) (kind : Kind) (content : Content) (name : Bytes) (rest : Path) → files_of_entry trees (name ∷ rest) (file_leaf kind content) ≡ None
leaf_below trees kind content name rest =
    ap (λ o. cond (is_null (blob_id kind content.bytes)) None (through o (λ found. through (named name found) (λ item. files_of_entry trees rest (leaf_of item))))) (no_tree_under trees kind content)
    ∙ either_none (is_null (blob_id kind content.bytes))

-- ---- trees that have the folders

module _ (kind : Kind) (table : Table) (trees : Trees) (stored : HasStored table trees) where
  -- the tree of a folder
  pub tree_there : (m : FileMap) → IsFileMap m → IsInTable table kind (StoredFolder m) → trees (folder_id kind m) ≡ Some (items kind m)
  unfolding digest
  tree_there m map has = stored (folder_id kind m) _ (items kind m) has.stands (items_spelled kind m (plain_map m map))

  abbrev P : Value → Type 0
  P value = IsInTable table kind value

  -- what a folder's entry leads to
  record LeadsInside (m : FileMap) (name : Bytes) (below : List Entry) : Type 0 where
    map : IsFileMap (inside name m)
    has : HasAll P (inside name m)
    some : (rest : Bytes) × (content : Content) × (get m (name ++ 47 ∷ rest) ≡ Some content)
    leads : tree_under trees (leaf_of (item_of kind (λ below. root_within (longest (keys m)) kind below) (FolderEntry name below))) ≡ Some (items kind (inside name m))
    isnt_null : is_null (digest kind (tree_text (root_within (longest (keys m)) kind below))) ≡ false

  leads_inside : (m : FileMap) → IsFileMap m → HasAll P m → (name : Bytes) (below : List Entry) → In (FolderEntry name below) (tree_entries (entries m)) → LeadsInside m name below
  leads_inside m map has name below i =
      let folder = folder_of kind m name below i in
      let rest = (folder.some.0).0 in
      let content = (folder.some.0).1 in
      let begins = is_beginning name rest in
      let inner = inside_has P m has (name ++ 47 ∷ rest) content name folder.some.1 begins in
      record {
        map = inside_map name m map;
        has = inner;
        some = (rest, content, in_get m (name ++ 47 ∷ rest) content folder.some.1);
        leads = ap trees folder.id ∙ tree_there (inside name m) (inside_map name m map) inner.itself;
        isnt_null = ap is_null folder.id ∙ inner.itself.isnt_null;
      }

  -- a folder's entry has the files inside the folder
  into : (m : FileMap) (name : Bytes) (below : List Entry) → LeadsInside m name below → (next : Bytes) (rest : Path)
      → files_of_entry trees (next ∷ rest) (leaf_of (item_of kind (λ below. root_within (longest (keys m)) kind below) (FolderEntry name below))) ≡ files_of_tree trees (items kind (inside name m)) (next ∷ rest)
  into m name below h next rest =
      ap (λ b. cond b None (through (tree_under trees (leaf_of (item_of kind (λ below. root_within (longest (keys m)) kind below) (FolderEntry name below))))
      (λ found. through (named next found) (λ item. files_of_entry trees rest (leaf_of item))))) h.isnt_null
      ∙ ap (λ o. through o (λ found. through (named next found) (λ item. files_of_entry trees rest (leaf_of item)))) h.leads

  folder_itself : (m : FileMap) (name : Bytes) (below : List Entry) → LeadsInside m name below
      → files_of_entry trees [] (leaf_of (item_of kind (λ below. root_within (longest (keys m)) kind below) (FolderEntry name below))) ≡ None
  folder_itself m name below h =
      ap (λ b. cond b None (unless_tree (tree_under trees leaf) leaf)) h.isnt_null
      ∙ ap (λ o. unless_tree o leaf) h.leads
    where
      leaf : Leaf
      leaf = leaf_of (item_of kind (λ below. root_within (longest (keys m)) kind below) (FolderEntry name below))

  -- no file is at a path and another below it
  apart : (m : FileMap) → IsFileMap m → (name rest : Bytes) (a b : Content) → get m name ≡ Some a → get m (name ++ 47 ∷ rest) ≡ Some b → ⊥
  apart m map name rest a b h k = clash (below_front name rest) (map.apart name (name ++ 47 ∷ rest) (ap is_some h) (ap is_some k))

  -- at a first component alone
  at_name : (m : FileMap) → IsFileMap m → HasAll P m → (name : Bytes) → has_byte 47 name ≡ false → files_of_tree trees (items kind m) (name ∷ []) ≡ option_map (file_leaf kind) (get m name)
  at_name m map has name plain = elim (named_in kind tree_of name (tree_entries (entries m))) [
    | inl (none, others) ↦
        ap (λ o. through o (λ item. files_of_entry trees [] (leaf_of item))) none
        ∙ sym (ap (option_map (file_leaf kind)) (none_if (get m name) (λ c e. others (FileEntry name c) (has_leaf (entries m) name c plain (get_in m name c e)) refl)))
    | inr (t, i, same, found) ↦ ap (λ o. through o (λ item. files_of_entry trees [] (leaf_of item))) found ∙ by_entry t i same
  ]
    where
      tree_of : List Entry → Bytes
      tree_of below = root_within (longest (keys m)) kind below

      by_entry : (t : TreeEntry) → In t (tree_entries (entries m)) → name_of t ≡ name → files_of_entry trees [] (leaf_of (item_of kind tree_of t)) ≡ option_map (file_leaf kind) (get m name)
      by_entry (FileEntry path content) i same =
          let member = leaf_in (entries m) path content i in
          leaf_itself trees kind content (has.bytes path content member).isnt_null
          ∙ sym (ap (option_map (file_leaf kind)) (ap (get m) (sym same) ∙ in_get m path content member))
      by_entry (FolderEntry folder below) i same =
          let inner = leads_inside m map has folder below i in
          folder_itself m folder below inner
          ∙ sym (ap (option_map (file_leaf kind)) (none_if (get m name)
          (λ c e. apart m map folder (inner.some).0 c (inner.some).1 (ap (get m) same ∙ e) (inner.some).2)))

  -- below a first component, if this holds of the files of all folders
  at_below : (m : FileMap) → IsFileMap m → HasAll P m → (name rest : Bytes) → has_byte 47 name ≡ false
      → (IsFileMap (inside name m) → HasAll P (inside name m) → files_of_tree trees (items kind (inside name m)) (components rest) ≡ option_map (file_leaf kind) (get (inside name m) rest))
      → files_of_tree trees (items kind m) (name ∷ components rest) ≡ option_map (file_leaf kind) (get m (name ++ 47 ∷ rest))
  at_below m map has name rest plain deeper = elim (named_in kind tree_of name (tree_entries (entries m))) [
    | inl (none, others) ↦
        ap (λ o. through o (λ item. files_of_entry trees (components rest) (leaf_of item))) none
        ∙ sym (ap (option_map (file_leaf kind)) (none_if (get m (name ++ 47 ∷ rest))
        (λ c e. let folder = has_folder (entries m) name rest c (get_in m (name ++ 47 ∷ rest) c e) plain in others (FolderEntry name folder.0) folder.1 refl)))
    | inr (t, i, same, found) ↦ ap (λ o. through o (λ item. files_of_entry trees (components rest) (leaf_of item))) found ∙ by_entry t i same (some_parts rest)
  ]
    where
      tree_of : List Entry → Bytes
      tree_of below = root_within (longest (keys m)) kind below

      by_entry : (t : TreeEntry) → In t (tree_entries (entries m)) → name_of t ≡ name → ((c : Bytes) × (cs : List Bytes) × (components rest ≡ c ∷ cs))
          → files_of_entry trees (components rest) (leaf_of (item_of kind tree_of t)) ≡ option_map (file_leaf kind) (get m (name ++ 47 ∷ rest))
      by_entry (FileEntry path content) i same (c, cs, e) =
          let member = leaf_in (entries m) path content i in
          ap (λ ps. files_of_entry trees ps (file_leaf kind content)) e ∙ leaf_below trees kind content c cs
          ∙ sym (ap (option_map (file_leaf kind)) (none_if (get m (name ++ 47 ∷ rest))
          (λ d k. apart m map name rest content d (ap (get m) (sym same) ∙ in_get m path content member) k)))
      by_entry (FolderEntry folder below) i same (c, cs, e) =
          let inner = leads_inside m map has folder below i in
          ap (λ ps. files_of_entry trees ps (leaf_of (item_of kind tree_of (FolderEntry folder below)))) e
          ∙ into m folder below inner c cs
          ∙ (λ j. files_of_tree trees (items kind (inside (same j) m)) (sym e j))
          ∙ deeper (subst (λ n. IsFileMap (inside n m)) same inner.map) (subst (λ n. HasAll P (inside n m)) same inner.has)
          ∙ ap (option_map (file_leaf kind)) (get_inside name m rest)

  at_path : (n : ℕ) (m : FileMap) → IsFileMap m → HasAll P m → (path : Bytes) → length path < n → files_of_tree trees (items kind m) (components path) ≡ option_map (file_leaf kind) (get m path)
  at_path zero m map has path less = absurd (omega arith)
  at_path (suc n) m map has path less = go (λ m map has path less. at_path n m map has path less) (has_byte 47 path) refl
    where
      name : Bytes
      name = before_first (λ b. b == 47) path

      rest : Bytes
      rest = after_first (λ b. b == 47) path

      go : ((m : FileMap) → IsFileMap m → HasAll P m → (path : Bytes) → length path < n → files_of_tree trees (items kind m) (components path) ≡ option_map (file_leaf kind) (get m path))
          → (b : Bool) → has_byte 47 path ≡ b → files_of_tree trees (items kind m) (components path) ≡ option_map (file_leaf kind) (get m path)
      go deeper false h = ap (files_of_tree trees (items kind m)) (one_part path h) ∙ at_name m map has path h
      go deeper true h =
          let whole : name ++ 47 ∷ rest ≡ path = has_parts path h in
          let len = length-append name (47 ∷ rest) in
          let same = ap length whole in
          let shorter : length rest < n = omega arith in
          ap (λ p. files_of_tree trees (items kind m) (components p)) (sym whole)
          ∙ ap (files_of_tree trees (items kind m)) (parts_below name rest ∙ ap (λ ps. ps ++ components rest) (one_part name (front_plain path)))
          ∙ at_below m map has name rest (front_plain path) (λ inner_map inner_has. deeper (inside name m) inner_map inner_has rest shorter)
          ∙ ap (λ p. option_map (file_leaf kind) (get m p)) whole

  only_paths : (m : FileMap) → IsFileMap m → HasAll P m → (names : Path) (leaf : Leaf) → files_of_tree trees (items kind m) names ≡ Some leaf → (path : Bytes) × (components path ≡ names)
  only_paths m map has [] leaf e = cc
  only_paths m map has (name ∷ []) leaf e = elim (named_in kind tree_of name (tree_entries (entries m))) [
    | inl (none, others) ↦ let bad = sym (ap (λ o. through o (λ item. files_of_entry trees [] (leaf_of item))) none) ∙ e in cc
    | inr (t, i, same, found) ↦ (name, one_part name (ap (has_byte 47) (sym same) ∙ name_plain (entries m) t i))
  ]
    where
      tree_of : List Entry → Bytes
      tree_of below = root_within (longest (keys m)) kind below
  only_paths m map has (name ∷ next ∷ names) leaf e = elim (named_in kind tree_of name (tree_entries (entries m))) [
    | inl (none, others) ↦ let bad = sym (ap (λ o. through o (λ item. files_of_entry trees (next ∷ names) (leaf_of item))) none) ∙ e in cc
    | inr (t, i, same, found) ↦ by_entry (λ m map has leaf e. only_paths m map has (next ∷ names) leaf e) t i same (sym (ap (λ o. through o (λ item. files_of_entry trees (next ∷ names) (leaf_of item))) found) ∙ e)
  ]
    where
      tree_of : List Entry → Bytes
      tree_of below = root_within (longest (keys m)) kind below

      by_entry : ((m : FileMap) → IsFileMap m → HasAll P m → (leaf : Leaf) → files_of_tree trees (items kind m) (next ∷ names) ≡ Some leaf → (path : Bytes) × (components path ≡ next ∷ names))
          → (t : TreeEntry) → In t (tree_entries (entries m)) → name_of t ≡ name → files_of_entry trees (next ∷ names) (leaf_of (item_of kind tree_of t)) ≡ Some leaf → (path : Bytes) × (components path ≡ name ∷ next ∷ names)
      by_entry deeper (FileEntry path content) i same k = let bad = sym (leaf_below trees kind content next names) ∙ k in cc
      by_entry deeper (FolderEntry folder below) i same k =
          let inner = leads_inside m map has folder below i in
          let rest = deeper (inside folder m) inner.map inner.has leaf (sym (into m folder below inner next names) ∙ k) in
          let plain = name_plain (entries m) (FolderEntry folder below) i in
          (folder ++ 47 ∷ rest.0, parts_below folder rest.0 ∙ (λ j. one_part folder plain j ++ rest.1 j) ∙ ap (λ n. n ∷ next ∷ names) same)

  -- the root unfolds to the files
  pub root_unfolds : (m : FileMap) → IsFileMap m → HasTrees table kind m → IsUnfolded kind m (files_of_tree trees (items kind m))
  root_unfolds m map has = record {
    at = λ path. at_path (suc (length path)) m map all path (omega arith);
    only = λ names leaf e. only_paths m map all names leaf e;
  }
    where
      all : HasAll P m
      all = has_all P m has

  pub id_unfolds : (m : FileMap) → IsFileMap m → HasTrees table kind m → IsUnfolded kind m (files_under trees (folder_id kind m))
  id_unfolds m map has =
      subst (λ (o : Option (List Item)). IsUnfolded kind m (λ names. through o (λ found. files_of_tree trees found names)))
      (sym (tree_there m map (has_all P m has).itself)) (root_unfolds m map has)
