-- The entries of a file map's tree, as readers of trees have them.
use Rattle.std.proofs.Common.{◌≡◌, ◌⊎◌, ℕ, zero, suc, Bool, true, false, cond, List, [], ◌∷◌, ◌++◌, map, refl, sym, ◌∙◌, ap, subst, arith, inl, inr, Some, None, bytes_eq, ◌==◌, append_assoc, codes, length-append}
use Rattle.std.specs.List.{All, list_any, flat_map, before_first, after_first}
use Rattle.std.specs.Fmt.{digits}
use Rattle.std.specs.FinMap.{entries, keys}
use Rattle.gix_hash.specs.Id.{raw_bytes}
use Rattle.gix_hash.specs.Kind.{byte_len}
use Rattle.gix_hash.specs.Views.{IsBytesOf}
use Rattle.gix_hash.specs.declared.kind.Kind.{Kind}
use Rattle.gix_object_tree.specs.Entry.{Item, SpellsTree}
use Rattle.gix_object_tree.specs.Mode.{kind_value}
use Rattle.gix_object_tree.specs.ModeText.{mode_text, SpellsMode}
use Rattle.gix_object_tree.specs.Writing.{entry_text as item_text, tree_text as items_text, has_zero, tree_refusal, HasIds, IsToldAgain}
use Rattle.gix_object_tree.proofs.TreeLaws.{tree_back, mode_back}
use Rattle.gix_object_tree.proofs.Written.{no_refusal}
use Rattle.gix_object_nodes.specs.Files.{named}
use Rattle.gix_object_nodes.specs.Writing.{folder_mode, folder_item}
use Rattle.history_model.specs.Bytes.{Bytes, has_byte, is_empty}
use Rattle.history_model.specs.FileMap.{FileMap, Content, inside}
use Rattle.history_model.specs.Objects.{digest, TreeEntry, FileEntry, FolderEntry, into_folder, tree_entries, mode_of, tree_entry_text, root_within, longest, root, folder_id, blob_id, tree_text}
use Rattle.history_model.specs.declared.FileKind.{FileKind}
use Rattle.history_model.specs.declared.FileKind.TheVariants.{File, Exec, Link}
use Rattle.history_model.proofs.IdLemmas.{digest_is_id, has_kind, length-raw_bytes, digits_of-raw_bytes}
use Rattle.history_model.proofs.WholeLists.{In, of_map, of_flat, clash, same_text, texts_differ}
use Rattle.history_model.proofs.WholePaths.{front_plain}
use Rattle.history_model.proofs.PartLemmas.{one_is_in, split_at}
use Rattle.history_model.proofs.WholeItems.{Entry, files_of, items_files, leaf_in, folder_in, folder_fits, sorted_entries, entries_inside}
use Rattle.history_model.proofs.WholeRoots.{AreShorter, are_shorter, root_at, ArePlain, some_entry, no_zero_before}
use Rattle.history_files.specs.Unfolding.{entry_kind, file_leaf}
use Rattle.std.proofs.lemmas.Bool.{or_parts, or_from}

-- ---- entries

abbrev pub file_item : Kind → Bytes → Content → Item
file_item kind name content = record { mode = (file_leaf kind content).mode; name = name; id = (file_leaf kind content).id }

abbrev pub item_of : Kind → (List Entry → Bytes) → TreeEntry → Item
item_of kind tree_of (FileEntry name content) = file_item kind name content
item_of kind tree_of (FolderEntry name files) = folder_item name (digest kind (tree_text (tree_of files)))

abbrev pub name_of : TreeEntry → Bytes
name_of (FileEntry name content) = name
name_of (FolderEntry name files) = name

-- the entries of a folder's tree, if folders nest at most so deep
abbrev pub items_within : ℕ → Kind → List Entry → List Item
items_within depth kind es = map (item_of kind (λ below. root_within depth kind below)) (tree_entries es)

-- the entries of a file map's tree
abbrev pub items : Kind → FileMap → List Item
items kind files = items_within (longest (keys files)) kind (entries files)

pub item_name : (kind : Kind) (tree_of : List Entry → Bytes) (entry : TreeEntry) → (item_of kind tree_of entry).name ≡ name_of entry
item_name kind tree_of (FileEntry name content) = refl
item_name kind tree_of (FolderEntry name files) = refl

-- ---- names

-- of entries with one name the first is found; else there is none
pub named_in : (kind : Kind) (tree_of : List Entry → Bytes) (name : Bytes) (ts : List TreeEntry)
    → ((named name (map (item_of kind tree_of) ts) ≡ None) × ((t : TreeEntry) → In t ts → name_of t ≡ name → ⊥))
    ⊎ ((t : TreeEntry) × In t ts × (name_of t ≡ name) × (named name (map (item_of kind tree_of) ts) ≡ Some (item_of kind tree_of t)))
named_in kind tree_of name [] = inl (refl, λ t i. absurd i)
named_in kind tree_of name (t ∷ ts) = go (bytes_eq name (item_of kind tree_of t).name) refl (named_in kind tree_of name ts)
  where
    items_after : List Item
    items_after = map (item_of kind tree_of) ts

    go : (b : Bool) → bytes_eq name (item_of kind tree_of t).name ≡ b
        → ((named name items_after ≡ None) × ((u : TreeEntry) → In u ts → name_of u ≡ name → ⊥))
        ⊎ ((u : TreeEntry) × In u ts × (name_of u ≡ name) × (named name items_after ≡ Some (item_of kind tree_of u)))
        → ((cond b (Some (item_of kind tree_of t)) (named name items_after) ≡ None) × ((u : TreeEntry) → In u (t ∷ ts) → name_of u ≡ name → ⊥))
        ⊎ ((u : TreeEntry) × In u (t ∷ ts) × (name_of u ≡ name) × (cond b (Some (item_of kind tree_of t)) (named name items_after) ≡ Some (item_of kind tree_of u)))
    go true e rest = inr (t, inl refl, sym (same_text name (item_of kind tree_of t).name e ∙ item_name kind tree_of t), refl)
    go false e (inl (none, apart)) = inl (none, λ u i same. differs u i same)
      where
        differs : (u : TreeEntry) → In u (t ∷ ts) → name_of u ≡ name → ⊥
        differs u (inl k) same = texts_differ name (item_of kind tree_of t).name e (sym same ∙ ap name_of k ∙ sym (item_name kind tree_of t))
        differs u (inr i) same = apart u i same
    go false e (inr (u, i, same, found)) = inr (u, inr i, same, found)

into_plain : (name : Bytes) (file : Entry) (ts : List TreeEntry) → has_byte 47 name ≡ false → ((t : TreeEntry) → In t ts → has_byte 47 (name_of t) ≡ false)
    → (t : TreeEntry) → In t (into_folder name file ts) → has_byte 47 (name_of t) ≡ false
into_plain name file [] h rest t (inl e) = ap (λ u. has_byte 47 (name_of u)) e ∙ h
into_plain name file [] h rest t (inr i) = absurd i
into_plain name file (FileEntry other content ∷ ts) h rest t (inl e) = ap (λ u. has_byte 47 (name_of u)) e ∙ h
into_plain name file (FileEntry other content ∷ ts) h rest t (inr i) = rest t i
into_plain name file (FolderEntry other files ∷ ts) h rest t i = go (bytes_eq name other) i
  where
    go : (b : Bool) → In t (cond b (FolderEntry name (file ∷ files) ∷ ts) (FolderEntry name (file ∷ []) ∷ FolderEntry other files ∷ ts)) → has_byte 47 (name_of t) ≡ false
    go true (inl e) = ap (λ u. has_byte 47 (name_of u)) e ∙ h
    go true (inr j) = rest t (inr j)
    go false (inl e) = ap (λ u. has_byte 47 (name_of u)) e ∙ h
    go false (inr j) = rest t j

-- no entry's name has a slash
pub name_plain : (es : List Entry) (t : TreeEntry) → In t (tree_entries es) → has_byte 47 (name_of t) ≡ false
name_plain [] t i = absurd i
name_plain (e ∷ es) t i = go (has_byte 47 e.0) refl (λ u k. name_plain es u k) i
  where
    go : (b : Bool) → has_byte 47 e.0 ≡ b → ((u : TreeEntry) → In u (tree_entries es) → has_byte 47 (name_of u) ≡ false)
        → In t (cond b (into_folder (before_first (λ b. b == 47) e.0) (after_first (λ b. b == 47) e.0, e.1) (tree_entries es)) (FileEntry e.0 e.1 ∷ tree_entries es))
        → has_byte 47 (name_of t) ≡ false
    go true h rest j = into_plain (before_first (λ b. b == 47) e.0) (after_first (λ b. b == 47) e.0, e.1) (tree_entries es) (front_plain e.0) rest t j
    go false h rest (inl k) = ap (λ u. has_byte 47 (name_of u)) k ∙ h
    go false h rest (inr j) = rest t j

-- each file without a slash has its entry
pub has_leaf : (es : List Entry) (path : Bytes) (content : Content) → has_byte 47 path ≡ false → In (path, content) es → In (FileEntry path content) (tree_entries es)
has_leaf es path content plain i =
    let from = of_flat files_of (path, content) (tree_entries es) (subst (In (path, content)) (sym (items_files es)) i) in
    go from.0 from.1 from.2
  where
    go : (t : TreeEntry) → In t (tree_entries es) → In (path, content) (files_of t) → In (FileEntry path content) (tree_entries es)
    go (FileEntry p c) j (inl e) = subst (λ (x : Entry). In (FileEntry x.0 x.1) (tree_entries es)) (sym e) j
    go (FileEntry p c) j (inr k) = absurd k
    go (FolderEntry name files) j k =
        let inner = of_map (λ (x : Entry). (name ++ 47 ∷ x.0, x.1)) (path, content) files k in
        clash (ap (λ (x : Entry). has_byte 47 x.0) inner.2 ∙ one_is_in 47 name (inner.0).0) plain

-- and each first component with a slash after it
pub has_folder : (es : List Entry) (name rest : Bytes) (content : Content) → In (name ++ 47 ∷ rest, content) es
    → has_byte 47 name ≡ false → (files : List Entry) × In (FolderEntry name files) (tree_entries es)
has_folder es name rest content i plain =
    let from = of_flat files_of (name ++ 47 ∷ rest, content) (tree_entries es) (subst (In (name ++ 47 ∷ rest, content)) (sym (items_files es)) i) in
    go from.0 from.1 from.2
  where
    go : (t : TreeEntry) → In t (tree_entries es) → In (name ++ 47 ∷ rest, content) (files_of t) → (files : List Entry) × In (FolderEntry name files) (tree_entries es)
    go (FileEntry p c) j (inl e) = clash (sym (ap (λ (x : Entry). has_byte 47 x.0) e) ∙ one_is_in 47 name rest) (name_plain es (FileEntry p c) j)
    go (FileEntry p c) j (inr k) = absurd k
    go (FolderEntry other files) j k =
        let inner = of_map (λ (x : Entry). (other ++ 47 ∷ x.0, x.1)) (name ++ 47 ∷ rest, content) files k in
        let same : name ≡ other = (split_at 47 name other rest (inner.0).0 plain (name_plain es (FolderEntry other files) j) (ap (λ (x : Entry). x.0) inner.2)).0 in
        (files, subst (λ n. In (FolderEntry n files) (tree_entries es)) (sym same) j)

-- what a folder's entry is made of
pub record IsFolderOf (kind : Kind) (files : FileMap) (name : Bytes) (below : List Entry) : Type 0 where
  pub entries_are : entries (inside name files) ≡ below
  pub some : (e : Entry) × In (name ++ 47 ∷ e.0, e.1) (entries files)
  pub id : digest kind (tree_text (root_within (longest (keys files)) kind below)) ≡ folder_id kind (inside name files)

pub folder_of : (kind : Kind) (files : FileMap) (name : Bytes) (below : List Entry) → In (FolderEntry name below) (tree_entries (entries files)) → IsFolderOf kind files name below
folder_of kind files name below i =
    let fits = folder_fits (entries files) (sorted_entries files) name below i in
    let deeper : entries (inside name files) ≡ below = entries_inside name files ∙ sym fits.0 in
    let one = some_entry below fits.1 in
    record {
      entries_are = deeper;
      some = (one.0, folder_in (entries files) name below i one.0 one.1);
      id = ap (λ t. digest kind (tree_text t))
          (ap (root_within n kind) (sym deeper) ∙ sym (root_at kind n (inside name files) (subst (AreShorter n) (sym deeper) shorter)));
    }
  where
    n : ℕ
    n = longest (keys files)

    shorter : AreShorter n below
    shorter e j =
        let least = are_shorter files (name ++ 47 ∷ e.0, e.1) (folder_in (entries files) name below i e j) in
        let len = length-append name (47 ∷ e.0) in
        omega arith

-- ---- texts

leaf_mode : (k : FileKind) → mode_text (record { value = kind_value (entry_kind k); padded = false }) ≡ mode_of k
unfolding digits
leaf_mode File = refl
leaf_mode Exec = refl
leaf_mode Link = refl

tree_mode : mode_text folder_mode ≡ codes "40000"
unfolding digits
tree_mode = refl

entry_is : (kind : Kind) (tree_of : List Entry → Bytes) (t : TreeEntry) → item_text (item_of kind tree_of t) ≡ tree_entry_text kind tree_of t
entry_is kind tree_of (FileEntry name content) =
    ap (λ m. m ++ 32 ∷ (name ++ 0 ∷ raw_bytes (blob_id kind content.bytes))) (leaf_mode content.kind)
    ∙ sym (append_assoc (mode_of content.kind) (32 ∷ name) (0 ∷ raw_bytes (blob_id kind content.bytes)))
entry_is kind tree_of (FolderEntry name files) =
    let id = digest kind (tree_text (tree_of files)) in
    ap (λ m. m ++ 32 ∷ (name ++ 0 ∷ raw_bytes id)) tree_mode
    ∙ sym (append_assoc (codes "40000") (32 ∷ name) (0 ∷ raw_bytes id))

entries_are : (kind : Kind) (tree_of : List Entry → Bytes) (ts : List TreeEntry) → items_text (map (item_of kind tree_of) ts) ≡ flat_map (tree_entry_text kind tree_of) ts
entries_are kind tree_of [] = refl
entries_are kind tree_of (t ∷ ts) = λ i. entry_is kind tree_of t i ++ entries_are kind tree_of ts i

-- the text of the entries is that of the tree
pub items_root : (kind : Kind) (files : FileMap) → items_text (items kind files) ≡ root kind files
unfolding root root_within
items_root kind files = entries_are kind (λ below. root_within (longest (keys files)) kind below) (tree_entries (entries files))

pub all_of : {X : Type 0} (P : X → Type 0) (xs : List X) → ((x : X) → In x xs → P x) → All P xs
all_of P [] f = λ k d within. absurd (omega arith)
all_of P (x ∷ xs) f = more (all_of P xs (λ y i. f y (inr i)))
  where
    more : All P xs → All P (x ∷ xs)
    more rest zero d within = f x (inl refl)
    more rest (suc k) d within = rest k d (omega arith)

leaf_told : (k : FileKind) → SpellsMode (mode_text (record { value = kind_value (entry_kind k); padded = false })) (record { value = kind_value (entry_kind k); padded = false })
unfolding digits
leaf_told File = mode_back (record { value = 33188; padded = false }) (omega arith) (λ e. cc) (omega arith)
leaf_told Exec = mode_back (record { value = 33261; padded = false }) (omega arith) (λ e. cc) (omega arith)
leaf_told Link = mode_back (record { value = 40960; padded = false }) (omega arith) (λ e. cc) (omega arith)

folder_told : SpellsMode (mode_text folder_mode) folder_mode
unfolding digits
folder_told = mode_back folder_mode (omega arith) (λ e. cc) (omega arith)

pub digest_kind : (kind : Kind) (text : Bytes) → (digest kind text).kind ≡ kind
digest_kind kind text = (has_kind kind (digest kind text) (digest_is_id kind text)).of_kind

digest_bytes : (kind : Kind) (text : Bytes) → IsBytesOf (raw_bytes (digest kind text)) (digest kind text)
digest_bytes kind text = record {
  whole = length-raw_bytes kind (digest kind text) (digest_is_id kind text) ∙ ap byte_len (sym (digest_kind kind text));
  digits = digits_of-raw_bytes kind (digest kind text) (digest_is_id kind text);
}

told : (kind : Kind) (tree_of : List Entry → Bytes) (t : TreeEntry) → IsToldAgain (item_of kind tree_of t)
told kind tree_of (FileEntry name content) = record { mode = leaf_told content.kind; id = digest_bytes kind _ }
told kind tree_of (FolderEntry name files) = record { mode = folder_told; id = digest_bytes kind _ }

of_kind : (kind : Kind) (tree_of : List Entry → Bytes) (t : TreeEntry) → (item_of kind tree_of t).id.kind ≡ kind
of_kind kind tree_of (FileEntry name content) = digest_kind kind _
of_kind kind tree_of (FolderEntry name files) = digest_kind kind _

-- no name has a zero byte
pub no_zero : (kind : Kind) (files : FileMap) → ArePlain (entries files) → (t : TreeEntry) → In t (tree_entries (entries files)) → has_byte 0 (name_of t) ≡ false
no_zero kind files plain (FileEntry path content) i = plain (path, content) (leaf_in (entries files) path content i)
no_zero kind files plain (FolderEntry name below) i =
    let folder = folder_of kind files name below i in
    no_zero_before name (47 ∷ (folder.some.0).0) (plain (name ++ 47 ∷ (folder.some.0).0, (folder.some.0).1) folder.some.1)

none_zero : (kind : Kind) (tree_of : List Entry → Bytes) (ts : List TreeEntry) → ((t : TreeEntry) → In t ts → has_byte 0 (name_of t) ≡ false)
    → list_any has_zero (map (item_of kind tree_of) ts) ≡ false
none_zero kind tree_of [] f = refl
none_zero kind tree_of (t ∷ ts) f =
    or_from (has_zero (item_of kind tree_of t)) (list_any has_zero (map (item_of kind tree_of) ts))
    (ap (has_byte 0) (item_name kind tree_of t) ∙ f t (inl refl)) (none_zero kind tree_of ts (λ u i. f u (inr i)))

-- the root's text spells the entries
pub items_spelled : (kind : Kind) (files : FileMap) → ArePlain (entries files) → SpellsTree kind (root kind files) (items kind files)
items_spelled kind files plain = subst (λ t. SpellsTree kind t (items kind files)) (items_root kind files) (tree_back kind (items kind files) all_told none all_kind)
  where
    tree_of : List Entry → Bytes
    tree_of below = root_within (longest (keys files)) kind below

    all_told : All IsToldAgain (items kind files)
    all_told = all_of IsToldAgain (items kind files) (λ item i. let from = of_map (item_of kind tree_of) item (tree_entries (entries files)) i in subst IsToldAgain (sym from.2) (told kind tree_of from.0))

    all_kind : HasIds kind (items kind files)
    all_kind = all_of (λ (item : Item). item.id.kind ≡ kind) (items kind files)
        (λ item i. let from = of_map (item_of kind tree_of) item (tree_entries (entries files)) i in ap (λ (x : Item). x.id.kind) from.2 ∙ of_kind kind tree_of from.0)

    none : tree_refusal (items kind files) ≡ None
    none = no_refusal (items kind files) (none_zero kind tree_of (tree_entries (entries files)) (no_zero kind files plain))
