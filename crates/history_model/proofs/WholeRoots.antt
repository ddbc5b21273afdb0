-- If equal ids are of equal texts, one root is that of one file map.
use Rattle.std.proofs.Common.{◌≡◌, ℕ, zero, suc, ◌+◌, ◌<◌, ◌≤◌, ◌⊎◌, Bool, true, false, cond, List, [], ◌∷◌, ◌++◌, map, length, refl, sym, ◌∙◌, ap, subst, arith, inl, inr, Some, None, ◌==◌, append_assoc, drop, max, fold, length-append, codes, drop-drop, ap₂}
use Rattle.std.specs.List.{flat_map, cons_option, AllByRecursion}
use Rattle.std.specs.FinMap.{entries, keys, values, same_entries_map}
use Rattle.history_model.specs.Bytes.{Bytes, has_byte, is_empty}
use Rattle.history_model.specs.FileMap.{FileMap, Content, is_below, inside, beginnings, folders_of}
use Rattle.history_model.specs.Objects.{digest, TreeEntry, FileEntry, FolderEntry, tree_entries, mode_of, entry_text, tree_entry_text, root_within, longest, root, blob_text, tree_text, Value, StoredBytes, StoredFolder, value_text, id_of}
use Rattle.history_model.specs.Repository.{file_values}
use Rattle.history_model.specs.Forms.{is_id}
use Rattle.gix_hash.specs.Id.{Id, raw_bytes}
use Rattle.gix_hash.specs.declared.kind.Kind.{Kind}
use Rattle.history_model.specs.declared.FileKind.{FileKind}
use Rattle.history_model.specs.declared.FileKind.TheVariants.{File, Exec, Link}
use Rattle.history_model.proofs.PartLemmas.{split_at}
use Rattle.history_model.proofs.WholeLists.{In, all_in, in_all, in_left, in_right, in_either, in_flat, of_flat, in_map, of_map, clash, either, texts_differ}
use Rattle.history_model.proofs.WholePaths.{below_below, beginning_parts, is_beginning, below_front, below_parts, inner_below}
use Rattle.history_model.proofs.WholeTexts.{text_same, cut_same}
use Rattle.history_model.proofs.IdLemmas.{digest_is_id, length-raw_bytes, raw_bytes_tell}
use Rattle.history_model.proofs.WholeItems.{Entry, below, below_entry, files_of, items_files, leaf_in, folder_in, folder_fits, sorted_entries, entries_inside, of_below, in_below}
use Rattle.history_model.proofs.EntryLemmas.{same_mode}
use Rattle.std.proofs.lemmas.Bool.{or_parts, or_from}

-- ---- how deep folders nest

-- each path has fewer bytes
abbrev pub AreShorter : ℕ → List Entry → Type 0
AreShorter n es = (e : Entry) → In e es → length e.0 < n

-- so the folders in it have shorter paths
folder_shorter : (n : ℕ) (es : List Entry) → AreShorter (suc n) es → (name : Bytes) (files : List Entry) → In (FolderEntry name files) (tree_entries es) → AreShorter n files
folder_shorter n es short name files i e j =
    let whole = short (name ++ 47 ∷ e.0, e.1) (folder_in es name files i e j) in
    let len = length-append name (47 ∷ e.0) in
    omega arith

longest_from : (n : ℕ) (paths : List Bytes) → (n ≤ fold (λ n path. max n (length path)) n paths) × ((path : Bytes) → In path paths → length path ≤ fold (λ n path. max n (length path)) n paths)
longest_from n [] = (omega arith, λ path i. absurd i)
longest_from n (p ∷ paths) =
    let rest = longest_from (max n (length p)) paths in
    let first = rest.0 in
    (omega arith, λ path i. here first rest.1 path i)
  where
    here : max n (length p) ≤ fold (λ n path. max n (length path)) (max n (length p)) paths
        → ((path : Bytes) → In path paths → length path ≤ fold (λ n path. max n (length path)) (max n (length p)) paths)
        → (path : Bytes) → (path ≡ p) ⊎ In path paths → length path ≤ fold (λ n path. max n (length path)) (max n (length p)) paths
    here first rest path (inl e) = let same = ap length e in omega arith
    here first rest path (inr i) = rest path i

pub are_shorter : (files : FileMap) → AreShorter (suc (longest (keys files))) (entries files)
are_shorter files e i = let least = (longest_from 0 (keys files)).1 e.0 (in_map (λ (f : Entry). f.0) e (entries files) i) in omega arith

-- deeper than all paths, the depth changes nothing
no_files : (es : List Entry) → AreShorter 0 es → es ≡ []
no_files [] short = refl
no_files (e ∷ es) short = let bad = short e (inl refl) in absurd (omega arith)

same_items : (f g : TreeEntry → Bytes) (items : List TreeEntry) → ((item : TreeEntry) → In item items → f item ≡ g item) → flat_map f items ≡ flat_map g items
same_items f g [] h = refl
same_items f g (item ∷ items) h = λ i. h item (inl refl) i ++ same_items f g items (λ other j. h other (inr j)) i

root_depth : (kind : Kind) (m n : ℕ) (es : List Entry) → AreShorter m es → AreShorter n es → root_within m kind es ≡ root_within n kind es
unfolding root_within
root_depth kind zero zero es h k = refl
root_depth kind zero (suc n) es h k = rw (no_files es h) refl
root_depth kind (suc m) zero es h k = rw (no_files es k) refl
root_depth kind (suc m) (suc n) es h k = same_items (tree_entry_text kind (λ below. root_within m kind below)) (tree_entry_text kind (λ below. root_within n kind below)) (tree_entries es)
    (λ item i. same item i (λ files. root_depth kind m n files))
  where
    same : (item : TreeEntry) → In item (tree_entries es) → ((files : List Entry) → AreShorter m files → AreShorter n files → root_within m kind files ≡ root_within n kind files)
        → tree_entry_text kind (λ below. root_within m kind below) item ≡ tree_entry_text kind (λ below. root_within n kind below) item
    same (FileEntry path content) i rest = refl
    same (FolderEntry name files) i rest = ap (λ t. entry_text (codes "40000") name (digest kind (tree_text t))) (rest files (folder_shorter m es h name files i) (folder_shorter n es k name files i))

-- a file map's root, at any depth that is enough
pub root_at : (kind : Kind) (n : ℕ) (files : FileMap) → AreShorter n (entries files) → root kind files ≡ root_within n kind (entries files)
unfolding root
root_at kind n files short = root_depth kind (suc (longest (keys files))) n (entries files) (are_shorter files) short

-- ---- the values of a file map

-- P holds of the file map, of each folder in it and of the bytes of each file
pub record HasAll (P : Value → Type 0) (files : FileMap) : Type 0 where
  pub itself : P (StoredFolder files)
  pub folders : (path : Bytes) (content : Content) (folder : Bytes) → In (path, content) (entries files) → In folder (beginnings path) → P (StoredFolder (inside folder files))
  pub bytes : (path : Bytes) (content : Content) → In (path, content) (entries files) → P (StoredBytes content.bytes)

pub has_all : (P : Value → Type 0) (files : FileMap) → AllByRecursion P (file_values files) → HasAll P files
has_all P files h = record {
  itself = at (StoredFolder files) (in_left (StoredFolder files) (map StoredFolder (folders_of files)) blobs (inl refl));
  folders = λ path content folder i j. at (StoredFolder (inside folder files)) (in_left (StoredFolder (inside folder files)) (map StoredFolder (folders_of files)) blobs
      (inr (in_map StoredFolder (inside folder files) (map (λ folder. inside folder files) (flat_map beginnings (keys files)))
      (in_map (λ folder. inside folder files) folder (flat_map beginnings (keys files))
      (in_flat beginnings folder path (keys files) (in_map (λ (e : Entry). e.0) (path, content) (entries files) i) j)))));
  bytes = λ path content i. at (StoredBytes content.bytes) (in_right (StoredBytes content.bytes) (map StoredFolder (folders_of files)) blobs
      (in_map (λ (content : Content). StoredBytes content.bytes) content (values files) (in_map (λ (e : Entry). e.1) (path, content) (entries files) i)));
}
  where
    blobs : List Value
    blobs = map (λ content. StoredBytes content.bytes) (values files)

    at : (v : Value) → In v (file_values files) → P v
    at v i = all_in P (file_values files) h v i

-- a folder of the file map, or the map itself
pub of_folders : (P : Value → Type 0) (files : FileMap) → HasAll P files → (v : Value) → In v (map StoredFolder (folders_of files)) → P v
of_folders P files h v (inl e) = subst P (sym e) h.itself
of_folders P files h v (inr i) =
    let as_value = of_map StoredFolder v (map (λ folder. inside folder files) (flat_map beginnings (keys files))) i in
    let as_folder = of_map (λ folder. inside folder files) as_value.0 (flat_map beginnings (keys files)) as_value.1 in
    let as_path = of_flat beginnings as_folder.0 (keys files) as_folder.1 in
    let as_entry = of_map (λ (e : Entry). e.0) as_path.0 (entries files) as_path.1 in
    subst P (sym (as_value.2 ∙ ap StoredFolder as_folder.2)) (h.folders (as_entry.0).0 (as_entry.0).1 as_folder.0 as_entry.1 (subst (λ p. In as_folder.0 (beginnings p)) as_entry.2 as_path.2))

pub all_values : (P : Value → Type 0) (files : FileMap) → HasAll P files → AllByRecursion P (file_values files)
all_values P files h = in_all P (file_values files) (λ v i. at v (in_either v (map StoredFolder (folders_of files)) (map (λ content. StoredBytes content.bytes) (values files)) i))
  where
    at : (v : Value) → In v (map StoredFolder (folders_of files)) ⊎ In v (map (λ content. StoredBytes content.bytes) (values files)) → P v
    at v (inl i) = of_folders P files h v i
    at v (inr i) =
        let as_content = of_map (λ (content : Content). StoredBytes content.bytes) v (values files) i in
        let as_entry = of_map (λ (e : Entry). e.1) as_content.0 (entries files) as_content.1 in
        subst P (sym (as_content.2 ∙ ap (λ (content : Content). StoredBytes content.bytes) as_entry.2)) (h.bytes (as_entry.0).0 (as_entry.0).1 as_entry.1)

-- a file inside a folder is one of the file map
pub of_inside : (folder : Bytes) (files : FileMap) (path : Bytes) (content : Content) → In (path, content) (entries (inside folder files)) → In (folder ++ 47 ∷ path, content) (entries files)
of_inside folder files path content i = of_below folder (entries files) (path, content) (subst (In (path, content)) (entries_inside folder files) i)

pub in_inside : (folder : Bytes) (files : FileMap) (path : Bytes) (content : Content) → In (folder ++ 47 ∷ path, content) (entries files) → In (path, content) (entries (inside folder files))
in_inside folder files path content i = subst (In (path, content)) (sym (entries_inside folder files)) (in_below folder (entries files) path content i)

-- what is below a folder in a folder
below_twice : (a b : Bytes) (es : List Entry) → below b (below a es) ≡ below (a ++ 47 ∷ b) es
below_twice a b [] = refl
below_twice a b (e ∷ es) = go (is_below a e.0) refl (below_twice a b es)
  where
    rest : Bytes
    rest = drop (length a + 1) e.0

    deeper : is_below a e.0 ≡ true → drop (length (a ++ 47 ∷ b) + 1) e.0 ≡ drop (length b + 1) rest
    deeper h =
        let len = length-append a (47 ∷ b) in
        ap (λ n. drop n e.0) (the_sum (length (a ++ 47 ∷ b)) (length a) (length b) len) ∙ sym (drop-drop (length b + 1) (length a + 1) e.0)
      where
        the_sum : (n m k : ℕ) → n ≡ m + suc k → n + 1 ≡ (m + 1) + (k + 1)
        the_sum n m k h = omega arith

    go : (t : Bool) → is_below a e.0 ≡ t → below b (below a es) ≡ below (a ++ 47 ∷ b) es
        → below b (cons_option (cond t (Some (rest, e.1)) None) (below a es)) ≡ cons_option (below_entry (a ++ 47 ∷ b) e) (below (a ++ 47 ∷ b) es)
    go false h more = more ∙ sym (ap (λ t. cons_option (cond t (Some (drop (length (a ++ 47 ∷ b) + 1) e.0, e.1)) None) (below (a ++ 47 ∷ b) es)) not_deeper)
      where
        not_deeper : is_below (a ++ 47 ∷ b) e.0 ≡ false
        not_deeper = elim (either (is_below (a ++ 47 ∷ b) e.0)) [
          | inl k ↦
              let last = drop (length (a ++ 47 ∷ b) + 1) e.0 in
              clash (ap (is_below a) (below_parts (a ++ 47 ∷ b) e.0 k ∙ below_below a b last) ∙ below_front a (b ++ 47 ∷ last)) h
          | inr k ↦ k
        ]
    go true h more =
        ap₂ (λ t l. cons_option (cond t (Some (drop (length b + 1) rest, e.1)) None) l) (sym (inner_below a b rest) ∙ ap (is_below (a ++ 47 ∷ b)) (sym (below_parts a e.0 h))) more
        ∙ ap (λ p. cons_option (cond (is_below (a ++ 47 ∷ b) e.0) (Some (p, e.1)) None) (below (a ++ 47 ∷ b) es)) (sym (deeper h))

pub inside_inside : (a b : Bytes) (files : FileMap) → inside b (inside a files) ≡ inside (a ++ 47 ∷ b) files
inside_inside a b files = same_entries_map (inside b (inside a files)) (inside (a ++ 47 ∷ b) files)
    (entries_inside b (inside a files) ∙ ap (below b) (entries_inside a files) ∙ below_twice a b (entries files) ∙ sym (entries_inside (a ++ 47 ∷ b) files))

-- a folder of the file map has all of it
pub inside_has : (P : Value → Type 0) (files : FileMap) → HasAll P files → (path : Bytes) (content : Content) (folder : Bytes) → In (path, content) (entries files) → In folder (beginnings path)
    → HasAll P (inside folder files)
inside_has P files h path content folder i j = record {
  itself = h.folders path content folder i j;
  folders = λ q d deeper k l.
      let rest = beginning_parts q deeper l in
      let whole : In (folder ++ 47 ∷ q, d) (entries files) = of_inside folder files q d k in
      let begins : In (folder ++ 47 ∷ deeper) (beginnings (folder ++ 47 ∷ q)) =
      subst (λ p. In (folder ++ 47 ∷ deeper) (beginnings p)) (below_below folder deeper rest.0 ∙ ap (λ p. folder ++ 47 ∷ p) (sym rest.1)) (is_beginning (folder ++ 47 ∷ deeper) rest.0) in
      subst (λ m. P (StoredFolder m)) (sym (inside_inside folder deeper files)) (h.folders (folder ++ 47 ∷ q) d (folder ++ 47 ∷ deeper) whole begins);
  bytes = λ q d k. h.bytes (folder ++ 47 ∷ q) d (of_inside folder files q d k);
}

-- ---- one root

-- no path has a zero byte
abbrev pub ArePlain : List Entry → Type 0
ArePlain es = (e : Entry) → In e es → has_byte 0 e.0 ≡ false

no_leaf : {A : Type 0} (x : FileKind) → mode_of x ≡ codes "40000" → A
no_leaf File e = texts_differ _ _ refl e
no_leaf Exec e = texts_differ _ _ refl e
no_leaf Link e = texts_differ _ _ refl e

mode_plain : (x : FileKind) → has_byte 32 (mode_of x) ≡ false
mode_plain File = refl
mode_plain Exec = refl
mode_plain Link = refl

regrouped : (mode name : Bytes) (id : Id) (x : Bytes) → entry_text mode name id ++ x ≡ mode ++ 32 ∷ (name ++ 0 ∷ (raw_bytes id ++ x))
regrouped mode name id x = append_assoc (mode ++ 32 ∷ name) (0 ∷ raw_bytes id) x ∙ append_assoc mode (32 ∷ name) (0 ∷ (raw_bytes id ++ x))

entry_same : (kind : Kind) (m n : Bytes) (i : Id) (k l : Bytes) (j : Id) (x y : Bytes) → has_byte 32 m ≡ false → has_byte 32 k ≡ false → has_byte 0 n ≡ false → has_byte 0 l ≡ false
    → is_id kind i ≡ true → is_id kind j ≡ true → entry_text m n i ++ x ≡ entry_text k l j ++ y → (m ≡ k) × (n ≡ l) × (i ≡ j) × (x ≡ y)
entry_same kind m n i k l j x y hm hk hn hl hi hj e =
    let modes = split_at 32 m k (n ++ 0 ∷ (raw_bytes i ++ x)) (l ++ 0 ∷ (raw_bytes j ++ y)) hm hk (sym (regrouped m n i x) ∙ e ∙ regrouped k l j y) in
    let names = split_at 0 n l (raw_bytes i ++ x) (raw_bytes j ++ y) hn hl modes.1 in
    let ids = cut_same (raw_bytes i) (raw_bytes j) x y (length-raw_bytes kind i hi ∙ sym (length-raw_bytes kind j hj)) names.1 in
    (modes.0, names.0, raw_bytes_tell kind i j hi hj ids.0, ids.1)

no_entry : {A : Type 0} (mode name : Bytes) (id : Id) (x : Bytes) → [] ≡ entry_text mode name id ++ x → A
no_entry mode name id x e = go mode (e ∙ regrouped mode name id x)
  where
    go : {A : Type 0} (m : Bytes) → [] ≡ m ++ 32 ∷ (name ++ 0 ∷ (raw_bytes id ++ x)) → A
    go [] h = cc
    go (b ∷ m) h = cc

pub some_entry : (es : List Entry) → is_empty es ≡ false → (e : Entry) × In e es
some_entry [] h = cc
some_entry (e ∷ es) h = (e, inl refl)

pub no_zero_before : (name rest : Bytes) → has_byte 0 (name ++ rest) ≡ false → has_byte 0 name ≡ false
no_zero_before [] rest h = refl
no_zero_before (b ∷ name) rest h = let parts = or_parts (b == 0) (has_byte 0 (name ++ rest)) h in or_from (b == 0) (has_byte 0 name) parts.0 (no_zero_before name rest parts.1)

no_zero_after : (name rest : Bytes) → has_byte 0 (name ++ rest) ≡ false → has_byte 0 rest ≡ false
no_zero_after [] rest h = h
no_zero_after (b ∷ name) rest h = no_zero_after name rest (or_parts (b == 0) (has_byte 0 (name ++ rest)) h).1

pub plain_inside : (folder : Bytes) (m : FileMap) → ArePlain (entries m) → ArePlain (entries (inside folder m))
plain_inside folder m plain e i = (or_parts (47 == 0) (has_byte 0 e.0) (no_zero_after folder (47 ∷ e.0) (plain (folder ++ 47 ∷ e.0, e.1) (of_inside folder m e.0 e.1 i)))).1

module _ (kind : Kind) (P : Value → Type 0) (same : (v w : Value) → P v → P w → id_of kind v ≡ id_of kind w → value_text kind v ≡ value_text kind w) where
  -- P holds of the values of the items, folders nested at most so deep
  abbrev ItemGood : ℕ → (List Entry → Type 0) → TreeEntry → Type 0
  ItemGood n good (FileEntry path content) = (has_byte 0 path ≡ false) × P (StoredBytes content.bytes)
  ItemGood n good (FolderEntry name files) = (has_byte 0 name ≡ false) × ((m : FileMap) × (entries m ≡ files) × P (StoredFolder m)) × AreShorter n files × good files

  abbrev Good : ℕ → List Entry → Type 0
  Good zero es = es ≡ []
  Good (suc n) es = (item : TreeEntry) → In item (tree_entries es) → ItemGood n (λ files. Good n files) item

  abbrev entry_of : ℕ → TreeEntry → Bytes
  entry_of n item = tree_entry_text kind (λ below. root_within n kind below) item

  item_same : (n : ℕ) → ((fs gs : List Entry) → Good n fs → Good n gs → root_within n kind fs ≡ root_within n kind gs → fs ≡ gs)
      → (a b : TreeEntry) (x y : Bytes) → ItemGood n (λ files. Good n files) a → ItemGood n (λ files. Good n files) b → entry_of n a ++ x ≡ entry_of n b ++ y → (a ≡ b) × (x ≡ y)
  item_same n rest (FileEntry p c) (FileEntry q d) x y g h e =
      let parts = entry_same kind (mode_of c.kind) p (digest kind (blob_text c.bytes)) (mode_of d.kind) q (digest kind (blob_text d.bytes)) x y (mode_plain c.kind) (mode_plain d.kind) g.0 h.0
      (digest_is_id kind (blob_text c.bytes)) (digest_is_id kind (blob_text d.bytes)) e in
      let texts = (text_same kind (StoredBytes c.bytes) (StoredBytes d.bytes) (same (StoredBytes c.bytes) (StoredBytes d.bytes) g.1 h.1 parts.2)).1 in
      (λ i. FileEntry (parts.1 i) (record { kind = same_mode c.kind d.kind parts.0 i; bytes = texts i }), parts.3)
  item_same n rest (FileEntry p c) (FolderEntry q gs) x y g h e =
      no_leaf c.kind (entry_same kind (mode_of c.kind) p (digest kind (blob_text c.bytes)) (codes "40000") q (digest kind (tree_text (root_within n kind gs))) x y (mode_plain c.kind) refl g.0 h.0
      (digest_is_id kind (blob_text c.bytes)) (digest_is_id kind (tree_text (root_within n kind gs))) e).0
  item_same n rest (FolderEntry p fs) (FileEntry q d) x y g h e =
      no_leaf d.kind (sym (entry_same kind (codes "40000") p (digest kind (tree_text (root_within n kind fs))) (mode_of d.kind) q (digest kind (blob_text d.bytes)) x y refl (mode_plain d.kind) g.0 h.0
      (digest_is_id kind (tree_text (root_within n kind fs))) (digest_is_id kind (blob_text d.bytes)) e).0)
  item_same n rest (FolderEntry p fs) (FolderEntry q gs) x y g h e =
      let parts = entry_same kind (codes "40000") p (digest kind (tree_text (root_within n kind fs))) (codes "40000") q (digest kind (tree_text (root_within n kind gs))) x y refl refl g.0 h.0
      (digest_is_id kind (tree_text (root_within n kind fs))) (digest_is_id kind (tree_text (root_within n kind gs))) e in
      let left : root kind (g.1).0 ≡ root_within n kind fs = at (g.1).0 fs (g.1).1 g.2 in
      let right : root kind (h.1).0 ≡ root_within n kind gs = at (h.1).0 gs (h.1).1 h.2 in
      let ids : id_of kind (StoredFolder (g.1).0) ≡ id_of kind (StoredFolder (h.1).0) = ap (λ t. digest kind (tree_text t)) left ∙ parts.2 ∙ sym (ap (λ t. digest kind (tree_text t)) right) in
      let roots : root kind (g.1).0 ≡ root kind (h.1).0 = (text_same kind (StoredFolder (g.1).0) (StoredFolder (h.1).0) (same (StoredFolder (g.1).0) (StoredFolder (h.1).0) (g.1).2 (h.1).2 ids)).1 in
      let files = rest fs gs g.3 h.3 (sym left ∙ roots ∙ right) in
      (λ i. FolderEntry (parts.1 i) (files i), parts.3)
    where
      at : (m : FileMap) (files : List Entry) → entries m ≡ files → AreShorter n files → root kind m ≡ root_within n kind files
      at m files e short = root_at kind n m (subst (AreShorter n) (sym e) short) ∙ ap (root_within n kind) e

  no_item : {A : Type 0} (n : ℕ) (b : TreeEntry) (y : Bytes) → [] ≡ entry_of n b ++ y → A
  no_item n (FileEntry q d) y e = no_entry (mode_of d.kind) q (digest kind (blob_text d.bytes)) y e
  no_item n (FolderEntry q gs) y e = no_entry (codes "40000") q (digest kind (tree_text (root_within n kind gs))) y e

  items_same : (n : ℕ) → ((fs gs : List Entry) → Good n fs → Good n gs → root_within n kind fs ≡ root_within n kind gs → fs ≡ gs)
      → (xs ys : List TreeEntry) → ((item : TreeEntry) → In item xs → ItemGood n (λ files. Good n files) item) → ((item : TreeEntry) → In item ys → ItemGood n (λ files. Good n files) item)
      → flat_map (entry_of n) xs ≡ flat_map (entry_of n) ys → xs ≡ ys
  items_same n rest [] [] g h e = refl
  items_same n rest [] (b ∷ ys) g h e = no_item n b (flat_map (entry_of n) ys) e
  items_same n rest (a ∷ xs) [] g h e = no_item n a (flat_map (entry_of n) xs) (sym e)
  items_same n rest (a ∷ xs) (b ∷ ys) g h e =
      let first = item_same n rest a b (flat_map (entry_of n) xs) (flat_map (entry_of n) ys) (g a (inl refl)) (h b (inl refl)) e in
      let others = items_same n rest xs ys (λ item i. g item (inr i)) (λ item i. h item (inr i)) first.1 in
      λ i. first.0 i ∷ others i

  roots_same : (n : ℕ) (es fs : List Entry) → Good n es → Good n fs → root_within n kind es ≡ root_within n kind fs → es ≡ fs
  unfolding root_within
  roots_same zero es fs g h e = g ∙ sym h
  roots_same (suc n) es fs g h e = sym (items_files es) ∙ ap (flat_map files_of) (items_same n (λ x y. roots_same n x y) (tree_entries es) (tree_entries fs) g h e) ∙ items_files fs

  good_files : (n : ℕ) (m : FileMap) → AreShorter n (entries m) → ArePlain (entries m) → HasAll P m → Good n (entries m)
  good_files zero m short plain h = no_files (entries m) short
  good_files (suc n) m short plain h = λ item i. at item i (λ deeper a b c. good_files n deeper a b c)
    where
      at : (item : TreeEntry) → In item (tree_entries (entries m)) → ((deeper : FileMap) → AreShorter n (entries deeper) → ArePlain (entries deeper) → HasAll P deeper → Good n (entries deeper))
          → ItemGood n (λ files. Good n files) item
      at (FileEntry path content) i rest = let member = leaf_in (entries m) path content i in (plain (path, content) member, h.bytes path content member)
      at (FolderEntry name files) i rest =
          let fits = folder_fits (entries m) (sorted_entries m) name files i in
          let deeper : entries (inside name m) ≡ files = entries_inside name m ∙ sym fits.0 in
          let one = some_entry files fits.1 in
          let member = folder_in (entries m) name files i one.0 one.1 in
          let begins = is_beginning name (one.0).0 in
          let shorter : AreShorter n files = folder_shorter n (entries m) short name files i in (
            no_zero_before name (47 ∷ (one.0).0) (plain (name ++ 47 ∷ (one.0).0, (one.0).1) member),
            (inside name m, deeper, h.folders (name ++ 47 ∷ (one.0).0) (one.0).1 name member begins),
            shorter,
            subst (λ es. Good n es) deeper (rest (inside name m) (subst (AreShorter n) (sym deeper) shorter) (plain_inside name m plain) (inside_has P m h (name ++ 47 ∷ (one.0).0) (one.0).1 name member begins)),
          )

  -- one root is that of one file map
  pub one_map : (a b : FileMap) → ArePlain (entries a) → ArePlain (entries b) → HasAll P a → HasAll P b → root kind a ≡ root kind b → a ≡ b
  one_map a b pa pb ha hb e =
      same_entries_map a b (roots_same n (entries a) (entries b) (good_files n a short_a pa ha) (good_files n b short_b pb hb) (sym (root_at kind n a short_a) ∙ e ∙ root_at kind n b short_b))
    where
      n : ℕ
      n = suc (longest (keys a)) + suc (longest (keys b))

      short_a : AreShorter n (entries a)
      short_a e i = let s = are_shorter a e i in omega arith

      short_b : AreShorter n (entries b)
      short_b e i = let s = are_shorter b e i in omega arith
