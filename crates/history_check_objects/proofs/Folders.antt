-- The folder that a tree's entries make of stored files and folders.
use Rattle.std.proofs.Common.{◌≡◌, ◌≢◌, ℕ, suc, ◌+◌, ◌<◌, ◌≤◌, ◌⊎◌, Bool, true, false, cond, not, List, [], ◌∷◌, ◌++◌, map, length, refl, sym, ◌∙◌, ap, subst, arith, inl, inr, Option, Some, None, is_some, ◌==◌, get_or, append_assoc, length-append, codes, drop, Less}
use Rattle.std.specs.List.{All, AllPairs, before_first, after_first, flat_map, list_any}
use Rattle.std.specs.Prelude.{IsTrue, ◌/◌, ◌%◌}
use Rattle.std.specs.FinMap.{entries, keys, get, contains_key, from_entries, empty, same_entries_map}
use Rattle.gix_hash.specs.Id.{Id, raw_bytes}
use Rattle.gix_hash.specs.declared.kind.Kind.{Kind}
use Rattle.gix_object_tree.specs.Entry.{Item}
use Rattle.gix_object_tree.specs.Mode.{kind_of, kind_word, is_tree_value}
use Rattle.gix_object_tree.specs.ModeText.{mode_text}
use Rattle.gix_object_tree.specs.Order.{is_tree, item_key}
use Rattle.gix_object_tree.specs.WellFormed.{ComesBefore, IsFilename, IsWellFormed}
use Rattle.gix_object_tree.specs.Writing.{entry_text as item_text, tree_text as items_text}
use Rattle.gix_object_tree.specs.declared.tree.mode.EntryKind.TheVariants as modes
use Rattle.gix_object_lines.specs.declared.kind.Kind.TheVariants as kinds
use Rattle.history_model.specs.Bytes.{Bytes, by_bytes, has_byte, is_empty}
use Rattle.history_model.specs.FileMap.{Content, FileMap, IsFileMap, beginnings, components, inside, is_below, is_path}
use Rattle.history_model.specs.Forms.{IsWrittenFiles, max_path}
use Rattle.history_model.specs.Objects.{TreeEntry, FileEntry, FolderEntry, Value, StoredCommit, StoredTag, StoredBytes, StoredFolder, blob_text, digest, empty_tree_id, longest, mode_of, object_kind, root, root_within, tree_entries, tree_entry_text, tree_text}
use Rattle.history_model.specs.Repository.{IsStored, Values}
use Rattle.history_model.specs.declared.FileKind.{FileKind}
use Rattle.history_model.specs.declared.FileKind.TheVariants.{File, Exec, Link}
use Rattle.history_model.proofs.PartLemmas.{split_at, one_is_in}
use Rattle.history_check_objects.proofs.Empties.{entries-empty, root-empty}
use Rattle.history_model.proofs.WholeGrowth.{Coming, has_stored}
use Rattle.history_model.proofs.WholeItems.{Entry, files_of, entries_from, entries_inside, folder_fits, folder_in, sorted_entries}
use Rattle.history_model.proofs.WholeLists.{In, clash, either, in_map, of_flat, of_map}
use Rattle.history_model.proofs.WholePaths.{below_below, below_parts, beginning_parts, front_plain, has_parts, inner_below, is_beginning, not_below}
use Rattle.history_model.proofs.WholeRoots.{AreShorter, HasAll, are_shorter, inside_inside, root_at}
use Rattle.history_model.proofs.WholeStores.{get_in, in_get, near_stored}
use Rattle.history_texts.specs.Written.{AreWritten, IsWrittenEntry, entry_kind}
use Rattle.history_check_objects.specs.Links.{IsReady, IsWithin, PathsWithin, link_by_item}
use Rattle.history_check_objects.specs.Opened.{IsSoundStore, store_of}
use Rattle.history_check_objects.proofs.Grouped.{AreInOrder, IsEntry, entries_again, files_ascend, in_folder, key, name_of, one_entry}
use Rattle.history_check_objects.proofs.Paths.{one_part, parts_below}
use Rattle.std.proofs.lemmas.Bool.{and_from, and_parts, not-true, or_from, or_parts}

-- ---- lists by their places

place_in : {X : Type 0} (x : X) (xs : List X) → In x xs → (k : ℕ) × (k < length xs) × ((d : X) → get_or xs k d ≡ x)
place_in x [] i = absurd i
place_in x (y ∷ ys) (inl e) = (0, omega arith, λ d. sym e)
place_in x (y ∷ ys) (inr i) = let rest = place_in x ys i in (suc rest.0, omega (arith, rest.1), λ d. rest.2 d)

pub of_all : {X : Type 0} (P : X → Type 0) (xs : List X) → All P xs → (x : X) → In x xs → P x
of_all P xs h x i = let at = place_in x xs i in subst P (at.2 x) (h at.0 x at.1)

pair_first : {X : Type 0} (R : X → X → Type 0) (x : X) (xs : List X) → AllPairs R (x ∷ xs) → (y : X) → In y xs → R x y
pair_first R x xs h y i = let at = place_in y xs i in subst (R x) (at.2 x) (h 0 (suc at.0) x (omega arith) (omega (arith, at.1)))

pair_later : {X : Type 0} (R : X → X → Type 0) (x : X) (xs : List X) → AllPairs R (x ∷ xs) → AllPairs R xs
pair_later R x xs h i j d less within = h (suc i) (suc j) d (omega (arith, less)) (omega (arith, within))

-- the folders in a list have shorter paths
folder_shorter : (n : ℕ) (es : List Entry) → AreShorter (suc n) es → (name : Bytes) (files : List Entry) → In (FolderEntry name files) (tree_entries es) → AreShorter n files
folder_shorter n es short name files i e j =
    let whole = short (name ++ 47 ∷ e.0, e.1) (folder_in es name files i e j) in
    let len = length-append name (47 ∷ e.0) in
    omega arith

-- ---- modes

folder_mode : (value : ℕ) → is_tree_value value ≡ true → kind_word (kind_of value) ≡ codes "40000"
folder_mode value h = ap (λ b. kind_word (cond b modes.Tree (cond (value / 4096 == 8) (cond (value / 64 % 2 == 1) modes.BlobExecutable modes.Blob) (cond (value / 4096 == 10) modes.Link modes.Commit)))) h

file_mode : (value : ℕ) → is_tree_value value ≡ false → kind_of value ≢ modes.Commit → (k : FileKind) × (kind_word (kind_of value) ≡ mode_of k)
file_mode value h differs = go (is_tree_value value) h (value / 4096 == 8) (value / 64 % 2 == 1) (value / 4096 == 10) differs
  where
    go : (a : Bool) → a ≡ false → (b c d : Bool) → (cond a modes.Tree (cond b (cond c modes.BlobExecutable modes.Blob) (cond d modes.Link modes.Commit)) ≢ modes.Commit)
        → (k : FileKind) × (kind_word (cond a modes.Tree (cond b (cond c modes.BlobExecutable modes.Blob) (cond d modes.Link modes.Commit))) ≡ mode_of k)
    go true e b c d differs = cc
    go false e true true d differs = (Exec, refl)
    go false e true false d differs = (File, refl)
    go false e false c true differs = (Link, refl)
    go false e false c false differs = absurd (differs refl)

-- ---- what entries name

pub data Part : Type 0 where
  FilePart : Bytes → Content → Part
  FolderPart : Bytes → FileMap → Part

abbrev pub entry_of : Part → TreeEntry
entry_of (FilePart name content) = FileEntry name content
entry_of (FolderPart name files) = FolderEntry name (entries files)

module _ (kind : Kind) (values : Values) (n : ℕ) where
  abbrev pub IsPartOf : Item → Part → Type 0
  IsPartOf item (FilePart name content) =
      (item.name ≡ name) × (is_tree item ≡ false) × (mode_text item.mode ≡ mode_of content.kind) × (get values item.id ≡ Some (StoredBytes content.bytes)) × (length name ≤ n)
  IsPartOf item (FolderPart name files) =
      (item.name ≡ name) × (is_tree item ≡ true) × (mode_text item.mode ≡ codes "40000") × (get values item.id ≡ Some (StoredFolder files))
      × ((path : Bytes) → IsTrue (contains_key files path) → length name + 1 + length path ≤ n) × (is_empty (entries files) ≡ false)

  abbrev pub ArePartsOf : List Item → List Part → Type 0
  ArePartsOf [] [] = Unit {0}
  ArePartsOf [] (p ∷ ps) = ⊥
  ArePartsOf (x ∷ xs) [] = ⊥
  ArePartsOf (x ∷ xs) (p ∷ ps) = IsPartOf x p × ArePartsOf xs ps

  of_part : (xs : List Item) (ps : List Part) → ArePartsOf xs ps → (p : Part) → In p ps → (x : Item) × In x xs × IsPartOf x p
  of_part [] [] are p i = absurd i
  of_part [] (q ∷ ps) are p i = absurd are
  of_part (x ∷ xs) [] are p i = absurd i
  of_part (x ∷ xs) (q ∷ ps) are p (inl e) = (x, inl refl, subst (IsPartOf x) (sym e) are.0)
  of_part (x ∷ xs) (q ∷ ps) are p (inr i) = let rest = of_part xs ps are.1 p i in (rest.0, inr rest.1, rest.2)

  key_is : (x : Item) (p : Part) → IsPartOf x p → item_key x ≡ key (entry_of p)
  key_is x (FilePart name content) is = λ i. cond (is.1 i) (is.0 i ++ 47 ∷ []) (is.0 i)
  key_is x (FolderPart name files) is = λ i. cond (is.1 i) (is.0 i ++ 47 ∷ []) (is.0 i)

  name_is : (x : Item) (p : Part) → IsPartOf x p → x.name ≡ name_of (entry_of p)
  name_is x (FilePart name content) is = is.0
  name_is x (FolderPart name files) is = is.0

  filled : (x : Item) (p : Part) → IsPartOf x p → has_byte 47 x.name ≡ false → IsEntry (entry_of p)
  filled x (FilePart name content) is plain = (ap (has_byte 47) (sym is.0) ∙ plain, tt)
  filled x (FolderPart name files) is plain = (ap (has_byte 47) (sym is.0) ∙ plain, (is.5, sorted_entries files))

  in_order : (xs : List Item) (ps : List Part) → ArePartsOf xs ps → ((x : Item) → In x xs → has_byte 47 x.name ≡ false) → AllPairs ComesBefore xs → AllPairs (λ (x y : Item). x.name ≢ y.name) xs
      → AreInOrder (map entry_of ps)
  in_order [] [] are plain ordered once = tt
  in_order [] (p ∷ ps) are plain ordered once = absurd are
  in_order (x ∷ xs) [] are plain ordered once = absurd are
  in_order (x ∷ xs) (p ∷ ps) are plain ordered once = (
    filled x p are.0 (plain x (inl refl)),
    λ u i.
        let from = of_map entry_of u ps i in
        let item = of_part xs ps are.1 from.0 from.1 in
        subst (λ t. (by_bytes (key (entry_of p)) (key t) ≡ Less) × (name_of (entry_of p) ≡ name_of t → ⊥)) (sym from.2) (
          (λ j. by_bytes (sym (key_is x p are.0) j) (sym (key_is item.0 from.0 item.2) j)) ∙ pair_first ComesBefore x xs ordered item.0 item.1,
          λ same. pair_first (λ (x y : Item). x.name ≢ y.name) x xs once item.0 item.1 (name_is x p are.0 ∙ same ∙ sym (name_is item.0 from.0 item.2)),
        ),
    in_order xs ps are.1 (λ y i. plain y (inr i)) (pair_later ComesBefore x xs ordered) (pair_later (λ (x y : Item). x.name ≢ y.name) x xs once),
  )

  -- ---- over a whole store

  module _ (sound : IsSoundStore kind values) where
    no_files : (files : FileMap) → is_empty (entries files) ≡ true → files ≡ empty
    no_files files h = same_entries_map files empty (none (entries files) h ∙ sym entries-empty)
      where
        none : (es : List Entry) → is_empty es ≡ true → es ≡ []
        none [] k = refl
        none (e ∷ es) k = cc

    some_files : (id : Id) (files : FileMap) → get values id ≡ Some (StoredFolder files) → id ≢ empty_tree_id kind → is_empty (entries files) ≡ false
    some_files id files at apart = elim (either (is_empty (entries files))) [
      | inl e ↦ absurd (apart ((sound.whole).own_ids id (StoredFolder files) at ∙ ap (λ m. digest kind (tree_text (root kind m))) (no_files files e) ∙ ap (λ t. digest kind (tree_text t)) (root-empty kind)))
      | inr e ↦ e
    ]

    part_of : (item : Item) → IsWrittenEntry kind item → IsReady values kinds.Tree n (link_by_item item) → (p : Part) × IsPartOf item p
    part_of item is ready = go (is_tree item) refl ready.value ready.stored ready.of_kind (ready.within refl)
      where
        go : (b : Bool) → is_tree item ≡ b → (v : Value) → get values item.id ≡ Some v → object_kind v ≡ entry_kind item → IsWithin n (length item.name) v → (p : Part) × IsPartOf item p
        go true e (StoredFolder files) at k within = (FolderPart item.name files, (refl, e, (is.mode).digits ∙ folder_mode item.mode.value e, at, within, some_files item.id files at is.some))
        go true e (StoredBytes bytes) at k within = cc (k ∙ ap (λ b. cond b kinds.Tree kinds.Blob) e)
        go true e (StoredCommit commit) at k within = cc (k ∙ ap (λ b. cond b kinds.Tree kinds.Blob) e)
        go true e (StoredTag tag) at k within = cc (k ∙ ap (λ b. cond b kinds.Tree kinds.Blob) e)
        go false e (StoredBytes bytes) at k within =
            let mode = file_mode item.mode.value e (is.mode).no_commit in
            (FilePart item.name (record { kind = mode.0; bytes = bytes }), (refl, e, (is.mode).digits ∙ mode.1, at, within))
        go false e (StoredFolder files) at k within = cc (k ∙ ap (λ b. cond b kinds.Tree kinds.Blob) e)
        go false e (StoredCommit commit) at k within = cc (k ∙ ap (λ b. cond b kinds.Tree kinds.Blob) e)
        go false e (StoredTag tag) at k within = cc (k ∙ ap (λ b. cond b kinds.Tree kinds.Blob) e)

    parts_of : (items : List Item) → ((item : Item) → In item items → IsWrittenEntry kind item × IsReady values kinds.Tree n (link_by_item item)) → (ps : List Part) × ArePartsOf items ps
    parts_of [] each = ([], tt)
    parts_of (item ∷ items) each =
        let here = each item (inl refl) in
        let part = part_of item here.0 here.1 in
        let rest = parts_of items (λ x i. each x (inr i)) in
        (part.0 ∷ rest.0, (part.1, rest.1))

    module _ (items : List Item) (ps : List Part) (are : ArePartsOf items ps) (formed : IsWellFormed items) where
      abbrev ts : List TreeEntry
      ts = map entry_of ps

      filename : (x : Item) → In x items → IsFilename x.name
      filename x i = of_all (λ (x : Item). IsFilename x.name) items formed.names x i

      order : AreInOrder ts
      order = in_order items ps are (λ x i. (filename x i).within_folder) formed.ordered formed.once

      -- the files
      abbrev pub made : FileMap
      made = from_entries (flat_map files_of ts)

      entries_are : entries made ≡ flat_map files_of ts
      entries_are = entries_from (flat_map files_of ts) (files_ascend ts order)

      tree_is : tree_entries (entries made) ≡ ts
      tree_is = ap tree_entries entries_are ∙ entries_again ts order

      folder_there : (name : Bytes) (files : FileMap) → In (FolderPart name files) ps → In (FolderEntry name (entries files)) (tree_entries (entries made))
      folder_there name files i = subst (In (FolderEntry name (entries files))) (sym tree_is) (in_map entry_of (FolderPart name files) ps i)

      -- ---- the text

      abbrev depth : ℕ
      depth = longest (keys made)

      below_is : (name : Bytes) (files : FileMap) → In (FolderPart name files) ps → root kind files ≡ root_within depth kind (entries files)
      below_is name files i = root_at kind depth files (folder_shorter depth (entries made) (are_shorter made) name (entries files) (folder_there name files i))

      text_of : (x : Item) (p : Part) → IsPartOf x p → ((name : Bytes) (files : FileMap) → p ≡ FolderPart name files → root kind files ≡ root_within depth kind (entries files))
          → tree_entry_text kind (λ below. root_within depth kind below) (entry_of p) ≡ item_text x
      text_of x (FilePart name content) is below =
          append_assoc (mode_of content.kind) (32 ∷ name) (0 ∷ raw_bytes (digest kind (blob_text content.bytes)))
          ∙ (λ i. sym is.2 i ++ 32 ∷ (sym is.0 i ++ 0 ∷ raw_bytes (sym ((sound.whole).own_ids x.id (StoredBytes content.bytes) is.3) i)))
      text_of x (FolderPart name files) is below =
          append_assoc (codes "40000") (32 ∷ name) (0 ∷ raw_bytes (digest kind (tree_text (root_within depth kind (entries files)))))
          ∙ ap (λ t. codes "40000" ++ 32 ∷ (name ++ 0 ∷ raw_bytes (digest kind (tree_text t)))) (sym (below name files refl))
          ∙ (λ i. sym is.2 i ++ 32 ∷ (sym is.0 i ++ 0 ∷ raw_bytes (sym ((sound.whole).own_ids x.id (StoredFolder files) is.3) i)))

      texts_of : (xs : List Item) (qs : List Part) → ArePartsOf xs qs → ((name : Bytes) (files : FileMap) → In (FolderPart name files) qs → root kind files ≡ root_within depth kind (entries files))
          → flat_map (tree_entry_text kind (λ below. root_within depth kind below)) (map entry_of qs) ≡ items_text xs
      texts_of [] [] are below = refl
      texts_of [] (q ∷ qs) are below = absurd are
      texts_of (x ∷ xs) [] are below = absurd are
      texts_of (x ∷ xs) (q ∷ qs) are below =
          λ i. text_of x q are.0 (λ name files e. below name files (inl (sym e))) i ++ texts_of xs qs are.1 (λ name files j. below name files (inr j)) i

      pub root_is : root kind made ≡ items_text items
      unfolding root_within
      root_is =
          root_at kind (suc depth) made (are_shorter made)
          ∙ ap (flat_map (tree_entry_text kind (λ below. root_within depth kind below))) tree_is
          ∙ texts_of items ps are below_is

      -- ---- each file

      abbrev IsFilePart : Entry → Type 0
      IsFilePart e = (name : Bytes) × (content : Content) × In (FilePart name content) ps × (e ≡ (name, content))

      abbrev IsInFolderPart : Entry → Type 0
      IsInFolderPart e = (name : Bytes) × (files : FileMap) × In (FolderPart name files) ps × (f : Entry) × In f (entries files) × (e ≡ in_folder name f)

      found : (e : Entry) → In e (entries made) → IsFilePart e ⊎ IsInFolderPart e
      found e i =
          let from = of_flat files_of e ts (subst (In e) entries_are i) in
          let part = of_map entry_of from.0 ps from.1 in
          go part.0 part.1 (subst (λ t. In e (files_of t)) part.2 from.2)
        where
          go : (p : Part) → In p ps → In e (files_of (entry_of p)) → IsFilePart e ⊎ IsInFolderPart e
          go (FilePart name content) j (inl same) = inl (name, content, j, same)
          go (FilePart name content) j (inr none) = absurd none
          go (FolderPart name files) j k = let inner = of_map (in_folder name) e (entries files) k in inr (name, files, j, inner.0, inner.1, inner.2)

      part_item : (p : Part) → In p ps → (x : Item) × In x items × IsPartOf x p
      part_item p i = of_part items ps are p i

      plain_name : (p : Part) → In p ps → has_byte 47 (name_of (entry_of p)) ≡ false
      plain_name p i = let item = part_item p i in ap (has_byte 47) (sym (name_is item.0 p item.2)) ∙ (filename item.0 item.1).within_folder

      endless_name : (p : Part) → In p ps → has_byte 0 (name_of (entry_of p)) ≡ false
      endless_name p i = let item = part_item p i in ap (has_byte 0) (sym (name_is item.0 p item.2)) ∙ (filename item.0 item.1).endless

      some_name : (p : Part) → In p ps → is_empty (name_of (entry_of p)) ≡ false
      some_name p i = let item = part_item p i in go (name_of (entry_of p)) (λ e. (filename item.0 item.1).some (name_is item.0 p item.2 ∙ e))
        where
          go : (name : Bytes) → (name ≡ [] → ⊥) → is_empty name ≡ false
          go [] h = absurd (h refl)
          go (b ∷ name) h = refl

      stored_folder : (name : Bytes) (files : FileMap) → In (FolderPart name files) ps → (id : Id) × (get values id ≡ Some (StoredFolder files))
      stored_folder name files i = let item = part_item (FolderPart name files) i in ((item.0).id, (item.2).3)

      folder_has : (name : Bytes) (files : FileMap) → In (FolderPart name files) ps → HasAll (IsStored (store_of kind values)) files
      folder_has name files i = let at = stored_folder name files i in has_stored (store_of kind values) sound.whole at.0 files at.1

      folder_written : (name : Bytes) (files : FileMap) → In (FolderPart name files) ps → IsWrittenFiles files
      folder_written name files i = let at = stored_folder name files i in (sound.written at.0 (StoredFolder files) at.1).0

      -- what is inside a folder of the files
      inside_is : (name : Bytes) (files : FileMap) → In (FolderPart name files) ps → inside name made ≡ files
      inside_is name files i = same_entries_map (inside name made) files
          (entries_inside name made ∙ sym (folder_fits (entries made) (sorted_entries made) name (entries files) (folder_there name files i)).0)

      -- ---- all of it is stored, or to be stored

      abbrev Comes : Value → Type 0
      Comes = Coming (store_of kind values) (StoredFolder made ∷ [])

      comes : (v : Value) → IsStored (store_of kind values) v → Comes v
      comes v at = inr (near_stored kind values v at)

      folder_comes : (e : Entry) (folder : Bytes) → In folder (beginnings e.0) → IsFilePart e ⊎ IsInFolderPart e → Comes (StoredFolder (inside folder made))
      folder_comes e folder j (inl (name, content, i, same)) =
          let rest = beginning_parts e.0 folder j in
          clash (ap (has_byte 47) (sym (ap (λ (x : Entry). x.0) same) ∙ rest.1) ∙ one_is_in 47 folder rest.0) (plain_name (FilePart name content) i)
      folder_comes e folder j (inr (name, files, i, f, k, same)) =
          let rest = beginning_parts e.0 folder j in
          go rest.0 (sym (ap (λ (x : Entry). x.0) same) ∙ rest.1) (has_byte 47 folder) refl
        where
          plain : has_byte 47 name ≡ false
          plain = plain_name (FolderPart name files) i

          go : (rest : Bytes) → name ++ 47 ∷ f.0 ≡ folder ++ 47 ∷ rest → (b : Bool) → has_byte 47 folder ≡ b → Comes (StoredFolder (inside folder made))
          go rest e false h =
              let cut = split_at 47 name folder f.0 rest plain h e in
              comes (StoredFolder (inside folder made))
              (subst (λ m. IsStored (store_of kind values) (StoredFolder m)) (sym (inside_is name files i) ∙ ap (λ q. inside q made) cut.0) (folder_has name files i).itself)
          go rest e true h =
              let before = before_first (λ b. b == 47) folder in
              let after = after_first (λ b. b == 47) folder in
              let whole : folder ≡ before ++ 47 ∷ after = sym (has_parts folder h) in
              let cut = split_at 47 name before f.0 (after ++ 47 ∷ rest) plain (front_plain folder) (e ∙ ap (λ q. q ++ 47 ∷ rest) whole ∙ below_below before after rest) in
              let same : inside folder made ≡ inside after files =
              ap (λ q. inside q made) whole ∙ sym (inside_inside before after made) ∙ ap (inside after) (ap (λ q. inside q made) (sym cut.0) ∙ inside_is name files i) in
              let begins : In after (beginnings f.0) = subst (λ p. In after (beginnings p)) (sym cut.1) (is_beginning after rest) in
              comes (StoredFolder (inside folder made))
              (subst (λ m. IsStored (store_of kind values) (StoredFolder m)) (sym same) ((folder_has name files i).folders f.0 f.1 after k begins))

      bytes_come : (e : Entry) → IsFilePart e ⊎ IsInFolderPart e → Comes (StoredBytes (e.1).bytes)
      bytes_come e (inl (name, content, i, same)) =
          let item = part_item (FilePart name content) i in
          let own = (sound.whole).own_ids (item.0).id (StoredBytes content.bytes) (item.2).3 in
          subst (λ (x : Entry). Comes (StoredBytes (x.1).bytes)) (sym same) (comes (StoredBytes content.bytes) (ap (get values) (sym own) ∙ (item.2).3))
      bytes_come e (inr (name, files, i, f, k, same)) =
          subst (λ (x : Entry). Comes (StoredBytes (x.1).bytes)) (sym same) (comes (StoredBytes (f.1).bytes) ((folder_has name files i).bytes f.0 f.1 k))

      pub all_comes : HasAll Comes made
      all_comes = record {
        itself = inl (inl refl);
        folders = λ path content folder i j. folder_comes (path, content) folder j (found (path, content) i);
        bytes = λ path content i. bytes_come (path, content) (found (path, content) i);
      }

      -- ---- its form

      none_both : (d : ℕ) (s t : Bytes) → has_byte d s ≡ false → has_byte d t ≡ false → has_byte d (s ++ t) ≡ false
      none_both d [] t h k = k
      none_both d (b ∷ s) t h k = let parts = or_parts (b == d) (has_byte d s) h in or_from (b == d) (has_byte d (s ++ t)) parts.0 (none_both d s t parts.1 k)

      none_of : (p : Bytes) → is_path p ≡ true → (list_any is_empty (components p) ≡ false) × (has_byte 0 p ≡ false)
      none_of p h =
          let both = and_parts (not (list_any is_empty (components p))) (not (has_byte 0 p)) h in
          (not-true (list_any is_empty (components p)) both.0, not-true (has_byte 0 p) both.1)

      path_from : (p : Bytes) → list_any is_empty (components p) ≡ false → has_byte 0 p ≡ false → is_path p ≡ true
      path_from p h k = and_from (not (list_any is_empty (components p))) (not (has_byte 0 p)) (ap not h) (ap not k)

      path_there : (files : FileMap) (f : Entry) → In f (entries files) → IsTrue (contains_key files f.0)
      path_there files f k = ap is_some (in_get files f.0 f.1 k)

      is_good : (e : Entry) → IsFilePart e ⊎ IsInFolderPart e → is_path e.0 ≡ true
      is_good e (inl (name, content, i, same)) = subst (λ (x : Entry). is_path x.0 ≡ true) (sym same)
          (path_from name (ap (list_any is_empty) (one_part name (plain_name (FilePart name content) i)) ∙ or_from (is_empty name) false (some_name (FilePart name content) i) refl) (endless_name (FilePart name content) i))
      is_good e (inr (name, files, i, f, k, same)) =
          let inner = none_of f.0 (((folder_written name files i).map).paths f.0 (path_there files f k)) in
          subst (λ (x : Entry). is_path x.0 ≡ true) (sym same)
          (path_from (name ++ 47 ∷ f.0)
          (ap (list_any is_empty) (parts_below name f.0 ∙ ap (λ c. c ++ components f.0) (one_part name (plain_name (FolderPart name files) i)))
          ∙ or_from (is_empty name) (list_any is_empty (components f.0)) (some_name (FolderPart name files) i) inner.0)
          (none_both 0 name (47 ∷ f.0) (endless_name (FolderPart name files) i) inner.1))

      is_short : (e : Entry) → IsFilePart e ⊎ IsInFolderPart e → length e.0 ≤ n
      is_short e (inl (name, content, i, same)) = subst (λ (x : Entry). length x.0 ≤ n) (sym same) ((part_item (FilePart name content) i).2).4
      is_short e (inr (name, files, i, f, k, same)) =
          let within = ((part_item (FolderPart name files) i).2).4 f.0 (path_there files f k) in
          let len = length-append name (47 ∷ f.0) in
          subst (λ (x : Entry). length x.0 ≤ n) (sym same) (omega arith)

      -- the first component of what is below a path is the path's
      below_parted : (a b x : Bytes) → has_byte 47 a ≡ false → has_byte 47 b ≡ false → (path : Bytes) → ((path ≡ a) ⊎ ((rest : Bytes) × (path ≡ a ++ 47 ∷ rest)))
          → is_below path (b ++ 47 ∷ x) ≡ true → a ≡ b
      below_parted a b x ha hb path (inl same) h =
          let rest = drop (length path + 1) (b ++ 47 ∷ x) in
          sym (split_at 47 b a x rest hb ha (below_parts path (b ++ 47 ∷ x) h ∙ ap (λ q. q ++ 47 ∷ rest) same)).0
      below_parted a b x ha hb path (inr (rest, same)) h =
          let later = drop (length path + 1) (b ++ 47 ∷ x) in
          sym (split_at 47 b a x (rest ++ 47 ∷ later) hb ha (below_parts path (b ++ 47 ∷ x) h ∙ ap (λ q. q ++ 47 ∷ later) same ∙ below_below a rest later)).0

      one_folder : (name other : Bytes) (files others : FileMap) → In (FolderPart name files) ps → In (FolderPart other others) ps → name ≡ other → files ≡ others
      one_folder name other files others i j same = same_entries_map files others (cc (one_entry ts order (FolderEntry name (entries files)) (FolderEntry other (entries others)) (in_map entry_of (FolderPart name files) ps i) (in_map entry_of (FolderPart other others) ps j) same))

      not_both : {A : Type 0} (name other : Bytes) (content : Content) (files : FileMap) → In (FilePart name content) ps → In (FolderPart other files) ps → name ≡ other → A
      not_both name other content files i j same = cc (one_entry ts order (FileEntry name content) (FolderEntry other (entries files)) (in_map entry_of (FilePart name content) ps i) (in_map entry_of (FolderPart other files) ps j) same)

      none_below : (e f : Entry) → IsFilePart e ⊎ IsInFolderPart e → IsFilePart f ⊎ IsInFolderPart f → is_below e.0 f.0 ≡ true → ⊥
      none_below e f from (inl (other, content, j, same)) h =
          clash h (subst (λ (x : Entry). is_below e.0 x.0 ≡ false) (sym same) (not_below e.0 other (plain_name (FilePart other content) j)))
      none_below e f (inl (name, content, i, one)) (inr (other, others, j, g, k, same)) h =
          not_both name other content others i j
          (below_parted name other g.0 (plain_name (FilePart name content) i) (plain_name (FolderPart other others) j) e.0 (inl (ap (λ (x : Entry). x.0) one)) (subst (λ (x : Entry). is_below e.0 x.0 ≡ true) same h))
      none_below e f (inr (name, files, i, d, l, one)) (inr (other, others, j, g, k, same)) h =
          let below : is_below (name ++ 47 ∷ d.0) (other ++ 47 ∷ g.0) ≡ true = subst (λ (x : Entry). is_below x.0 (other ++ 47 ∷ g.0) ≡ true) one (subst (λ (x : Entry). is_below e.0 x.0 ≡ true) same h) in
          let names : name ≡ other = below_parted name other g.0 (plain_name (FolderPart name files) i) (plain_name (FolderPart other others) j) (name ++ 47 ∷ d.0) (inr (d.0, refl)) below in
          let inner : is_below d.0 g.0 ≡ true = sym (inner_below name d.0 g.0) ∙ subst (λ o. is_below (name ++ 47 ∷ d.0) (o ++ 47 ∷ g.0) ≡ true) (sym names) below in
          let there : IsTrue (contains_key files g.0) = subst (λ m. IsTrue (contains_key m g.0)) (sym (one_folder name other files others i j names)) (path_there others g k) in
          clash inner (((folder_written name files i).map).apart d.0 g.0 (path_there files d l) there)

      entry_there : (path : Bytes) → IsTrue (contains_key made path) → (content : Content) × (IsFilePart (path, content) ⊎ IsInFolderPart (path, content))
      entry_there path h = go (get made path) refl h
        where
          go : (o : Option Content) → get made path ≡ o → is_some o ≡ true → (content : Content) × (IsFilePart (path, content) ⊎ IsInFolderPart (path, content))
          go None e k = cc
          go (Some content) e k = (content, found (path, content) (get_in made path content e))

      pub is_map : IsFileMap made
      is_map = record {
        paths = λ path h. let there = entry_there path h in is_good (path, there.0) there.1;
        apart = λ p q h k.
            let one = entry_there p h in
            let other = entry_there q k in
            elim (either (is_below p q)) [ inl e ↦ absurd (none_below (p, one.0) (q, other.0) one.1 other.1 e) | inr e ↦ e ];
      }

      pub are_within : PathsWithin n (StoredFolder made)
      are_within path h = let there = entry_there path h in is_short (path, there.0) there.1

      pub is_written : n ≤ max_path → IsWrittenFiles made
      is_written most = record { map = is_map; limit = λ path h. let short = are_within path h in omega arith }

    -- the folder of a tree's entries
    pub record IsFolderOf (content : Bytes) (files : FileMap) : Type 0 where
      pub text : root kind files ≡ content
      pub all : HasAll (Coming (store_of kind values) (StoredFolder files ∷ [])) files
      pub written : IsWrittenFiles files
      pub within : PathsWithin n (StoredFolder files)

    pub folder_made : (content : Bytes) (items : List Item) → AreWritten kind content items → ((item : Item) → In item items → IsReady values kinds.Tree n (link_by_item item)) → n ≤ max_path
        → (files : FileMap) × IsFolderOf content files
    folder_made content items is ready most =
        let parts = parts_of items (λ item i. (of_all (IsWrittenEntry kind) items is.entries item i, ready item i)) in (
          made items parts.0 parts.1 is.well_formed,
          record {
            text = root_is items parts.0 parts.1 is.well_formed ∙ sym is.text;
            all = all_comes items parts.0 parts.1 is.well_formed;
            written = is_written items parts.0 parts.1 is.well_formed most;
            within = are_within items parts.0 parts.1 is.well_formed;
          },
        )
