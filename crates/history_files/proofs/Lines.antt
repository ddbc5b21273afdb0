-- The files among the entries that a walk in depth order records.
use Rattle.std.proofs.Common.{◌≡◌, ℕ, zero, suc, ◌+◌, ◌<◌, length, take, get_or, option_to_list, arith, true, false, List, [], ◌∷◌, ◌++◌, map, refl, sym, ◌∙◌, ap, subst, inl, inr, Option, Some, None, is_some, append_assoc}
use Rattle.std.specs.List.{flat_map, filter_map, cons_option}
use Rattle.std.specs.FinMap.{entries}
use Rattle.gix_hash.specs.Id.{Id, id_of}
use Rattle.gix_hash.specs.declared.kind.Kind.{Kind}
use Rattle.gix_hash.specs.declared.object_id.ObjectId.{ObjectId}
use Rattle.gix_object_tree.specs.Entry.{Item, SpellsEntry, SpellsEntries, SpellsTree}
use Rattle.gix_object_tree.specs.Mode.{kind_value, kind_of}
use Rattle.gix_object_tree.specs.Order.{is_tree}
use Rattle.gix_object_tree.proofs.Spelled.{none_left}
use Rattle.gix_object_lookup.specs.Table.{Table, Object}
use Rattle.gix_traverse_tree.specs.Depth.{InDepth, before}
use Rattle.gix_traverse_tree.specs.Opened.{WalksIn, IsGood}
use Rattle.gix_traverse_tree.specs.Nodes.{MemoryOr}
use Rattle.gix_traverse_tree.specs.Orders as orders
use Rattle.gix_traverse_tree.specs.Orders.{InOrder, IsFresh, recorded_in}
use Rattle.gix_traverse_tree.specs.Recorder.{Recorded, Recording, Records, joined, recording_of, recorded_of}
use Rattle.gix_traverse_tree.specs.Trees.{End, whole, broken, failed}
use Rattle.gix_traverse_tree.specs.declared.error.Error.{Error}
use Rattle.gix_traverse_tree.specs.declared.error.Error.TheVariants as walked
use Rattle.gix_traverse_tree.specs.declared.recorder.Location.TheVariants.{Path}
use Rattle.gix_traverse_tree.specs.declared.recorder.Entry.{Entry as RecorderEntry}
use Rattle.gix_traverse_tree.specs.declared.recorder.Recorder.{Recorder}
use Rattle.gix_traverse_tree.proofs.Recording.{is_after}
use Rattle.gix_traverse_tree.proofs.RecordingInDepth.{records_in_depth}
use Rattle.gix_object_lookup.specs.declared.find.Error.TheVariants as looked_up
use Rattle.gix_object_lookup.specs.declared.find.existing_iter.Error.TheVariants as not_given
use Rattle.history_model.specs.Bytes.{Bytes}
use Rattle.history_model.specs.FileMap.{FileMap, Content, IsFileMap, is_path, inside}
use Rattle.history_model.specs.Objects.{TreeEntry, FileEntry, FolderEntry, tree_entries, blob_id}
use Rattle.history_model.specs.Replies.{FileLine}
use Rattle.history_model.specs.declared.FileKind.{FileKind}
use Rattle.history_model.specs.declared.FileKind.TheVariants.{File as PlainFile, Exec, Link}
use Rattle.history_model.proofs.WholeLists.{In, clash}
use Rattle.history_model.proofs.WholeItems.{Entry, files_of, items_files}
use Rattle.history_model.proofs.WholeRoots.{has_all}
use Rattle.history_model.proofs.WholeStores.{in_get}
use Rattle.history_files.specs.Unfolding.{IsInTable, entry_kind}
use Rattle.history_model.specs.Answers.{file_line}
use Rattle.history_files.specs.Reading.{IsRootOf, OwnFault, as_walked, line_named, line_recorded}
use Rattle.history_files.proofs.Items.{items, item_of, folder_of}
use Rattle.history_files.proofs.Walk.{tree_of, some_items, no_items, is_next, leaf_isnt_tree, IsThere, id_kind, stands_as, there_below, some_name, along, EndsWell}
use Rattle.history_files.proofs.GivenTrees.{map_both}
use Rattle.std.proofs.lemmas.Option.{same_Some}

-- ---- paths

joined_twice : (folder name rest : Bytes) → (name ≡ [] → ⊥) → (rest ≡ [] → ⊥) → joined (joined folder name) rest ≡ joined folder (name ++ 47 ∷ rest)
joined_twice folder [] rest some more = absurd (some refl)
joined_twice folder (b ∷ name) [] some more = absurd (more refl)
joined_twice [] (b ∷ name) (c ∷ rest) some more = refl
joined_twice (a ∷ folder) (b ∷ name) (c ∷ rest) some more = append_assoc (a ∷ folder) (47 ∷ b ∷ name) (47 ∷ c ∷ rest)

joined_root : (path : Bytes) → joined [] path ≡ path
joined_root [] = refl
joined_root (b ∷ path) = refl

-- ---- lines

filter_both : {A B : Type 0} (f : A → Option B) (xs ys : List A) → filter_map f (xs ++ ys) ≡ filter_map f xs ++ filter_map f ys
filter_both f [] ys = refl
filter_both {B = B} f (x ∷ xs) ys = go (f x) (filter_both f xs ys)
  where
    go : (o : Option B) → filter_map f (xs ++ ys) ≡ filter_map f xs ++ filter_map f ys → cons_option o (filter_map f (xs ++ ys)) ≡ cons_option o (filter_map f xs) ++ filter_map f ys
    go None e = e
    go (Some y) e = ap (λ ys. y ∷ ys) e

map_same : {A B : Type 0} (f g : A → B) (xs : List A) → ((x : A) → In x xs → f x ≡ g x) → map f xs ≡ map g xs
map_same f g [] h = refl
map_same f g (x ∷ xs) h = λ i. h x (inl refl) i ∷ map_same f g xs (λ y j. h y (inr j)) i

pub map_twice : {A B C : Type 0} (f : B → C) (g : A → B) (xs : List A) → map f (map g xs) ≡ map (λ x. f (g x)) xs
map_twice f g [] = refl
map_twice f g (x ∷ xs) = ap (λ zs. f (g x) ∷ zs) (map_twice f g xs)

-- the line of a file in a folder
abbrev line_in : Kind → Bytes → Entry → FileLine
line_in kind folder e = record { kind = (e.1).kind; id = blob_id kind (e.1).bytes; path = joined folder e.0 }

file_recorded : (kind : Kind) (folder : Bytes) (path : Bytes) (content : Content) → line_named (kind_of (kind_value (entry_kind content.kind))) (blob_id kind content.bytes) (joined folder path) ≡ Some (line_in kind folder (path, content))
file_recorded kind folder path content = go content.kind
  where
    go : (k : FileKind) → line_named (kind_of (kind_value (entry_kind k))) (blob_id kind content.bytes) (joined folder path) ≡ Some (record { kind = k; id = blob_id kind content.bytes; path = joined folder path })
    go PlainFile = refl
    go Exec = refl
    go Link = refl

some_path : (m : FileMap) → IsFileMap m → (e : Entry) → In e (entries m) → e.0 ≡ [] → ⊥
some_path m fits e i empty = clash (fits.paths e.0 (ap is_some (in_get m e.0 e.1 i))) (ap is_path empty)

module _ (table : Table) (kind : Kind) where
  -- the files of the entries that are left, in this folder
  abbrev lines : Bytes → List TreeEntry → List FileLine
  lines folder ts = map (line_in kind folder) (flat_map files_of ts)

  -- a folder's files
  folder_lines : (m : FileMap) (id : Id) → IsThere table kind m id → (folder name : Bytes) (below : List Entry) → In (FolderEntry name below) (tree_entries (entries m)) → (name ≡ [] → ⊥)
      → lines (joined folder name) (tree_entries (entries (inside name m))) ≡ map (line_in kind folder) (files_of (FolderEntry name below))
  folder_lines m id there folder name below i some =
      let inner = there_below table kind m id there name below i in
      let made = folder_of kind m name below i in
      ap (map (line_in kind (joined folder name))) (items_files (entries (inside name m)))
      ∙ map_same (line_in kind (joined folder name)) (λ (e : Entry). line_in kind folder (name ++ 47 ∷ e.0, e.1)) (entries (inside name m))
      (λ e j. ap (λ p. record { kind = (e.1).kind; id = blob_id kind (e.1).bytes; path = p }) (joined_twice folder name e.0 some (some_path (inside name m) inner.fits e j)))
      ∙ ap (map (λ (e : Entry). line_in kind folder (name ++ 47 ∷ e.0, e.1))) made.entries_are
      ∙ sym (map_twice (line_in kind folder) (λ (e : Entry). (name ++ 47 ∷ e.0, e.1)) below)

  -- one more file
  with_file : (m : FileMap) (id : Id) → (folder : Bytes) (item : Item) (found : List Recorded) (t : TreeEntry) (more : List TreeEntry) → item ≡ item_of kind (tree_of kind m) t → is_tree item ≡ false
      → filter_map line_recorded found ≡ lines folder more → filter_map line_recorded (recorded_in (Some Path) folder item ∷ found) ≡ lines folder (t ∷ more)
  with_file m id folder item found (FileEntry path c) more is flat others =
      ap (λ (x : Item). cons_option (line_recorded (recorded_in (Some Path) folder x)) (filter_map line_recorded found)) is
      ∙ (λ i. cons_option (file_recorded kind folder path c i) (others i))
  with_file m id folder item found (FolderEntry name below) more is flat others = clash (ap is_tree is) flat

  -- the files inside an entry that is a folder's
  abbrev inner_map : FileMap → TreeEntry → FileMap
  inner_map m (FileEntry path content) = m
  inner_map m (FolderEntry name below) = inside name m

  inner_there : (m : FileMap) (id : Id) → IsThere table kind m id → (item : Item) (t : TreeEntry) → In t (tree_entries (entries m)) → item ≡ item_of kind (tree_of kind m) t → is_tree item ≡ true
      → IsThere table kind (inner_map m t) item.id
  inner_there m id there item (FileEntry path content) i is tree = clash (sym (ap is_tree is) ∙ tree) (leaf_isnt_tree kind m path content)
  inner_there m id there item (FolderEntry name below) i is tree = subst (λ (x : Item). IsThere table kind (inside name m) x.id) (sym is) (there_below table kind m id there name below i)

  -- one more folder
  with_folder : (m : FileMap) (id : Id) → IsThere table kind m id → (folder : Bytes) (item : Item) (within found : List Recorded) (t : TreeEntry) (more : List TreeEntry) → In t (tree_entries (entries m))
      → item ≡ item_of kind (tree_of kind m) t → is_tree item ≡ true → filter_map line_recorded within ≡ lines (joined folder item.name) (tree_entries (entries (inner_map m t)))
      → filter_map line_recorded found ≡ lines folder more → filter_map line_recorded (recorded_in (Some Path) folder item ∷ (within ++ found)) ≡ lines folder (t ∷ more)
  with_folder m id there folder item within found (FileEntry path c) more i is tree inner others = clash (sym (ap is_tree is) ∙ tree) (leaf_isnt_tree kind m path c)
  with_folder m id there folder item within found (FolderEntry name below) more i is tree inner others =
      ap (λ (x : Item). cons_option (line_recorded (recorded_in (Some Path) folder x)) (filter_map line_recorded (within ++ found))) is
      ∙ filter_both line_recorded within found
      ∙ (λ j. (inner ∙ ap (λ (x : Item). lines (joined folder x.name) (tree_entries (entries (inside name m)))) is
      ∙ folder_lines m id there folder name below i (some_name table kind m there.fits (FolderEntry name below) i)) j ++ others j)
      ∙ sym (map_both (line_in kind folder) (files_of (FolderEntry name below)) (flat_map files_of more))

  in_order : {H : Type 0} → H → {ids : Kind} {folder content : Bytes} {found : List Recorded} → InOrder H table (Some Path) ids folder content found
      → ids ≡ kind → (m : FileMap) (id : Id) → IsThere table kind m id → (ts : List TreeEntry) → ((t : TreeEntry) → In t ts → In t (tree_entries (entries m)))
      → SpellsEntries kind content (some_items kind m ts) [] → filter_map line_recorded found ≡ lines folder ts
  in_order h {folder = folder} orders.none same m id there ts all spelled =
      ap (lines folder) (sym (no_items kind m ts (none_left kind (some_items kind m ts) spelled)))
  in_order h {folder = folder} {content = content} (orders.file {rest = rest} {item = item} {more = more} entry flat later) same m id there ts all spelled =
      let next = is_next kind m item content rest ts (subst (λ k. SpellsEntry k content item rest) same entry) spelled in
      let others = in_order h later same m id there next.more (λ t i. all t (subst (In t) (sym next.cut) (inr i))) next.spelled in
      with_file m id folder item more next.entry next.more next.is flat others ∙ ap (lines folder) (sym next.cut)
  in_order h {folder = folder} {content = content} (orders.tree {rest = rest} {below = below} {item = item} {inside = within} {more = more} entry tree stands deep later) same m id there ts all spelled =
      let next = is_next kind m item content rest ts (subst (λ k. SpellsEntry k content item rest) same entry) spelled in
      let member = all next.entry (subst (In next.entry) (sym next.cut) (inl refl)) in
      let inner = inner_there m id there item next.entry member next.is tree in
      let known = stands_as table kind (inner_map m next.entry) item.id inner in
      let text = ap (λ (x : Object). x.content) (same_Some _ _ (sym known.1 ∙ stands h)) in
      let of_kind = id_kind table kind (inner_map m next.entry) item.id inner in
      let whole = subst (λ k. SpellsTree k below (items kind (inner_map m next.entry))) of_kind (subst (λ c. SpellsTree item.id.kind c (items kind (inner_map m next.entry))) text known.2.spelled) in
      let deeper = in_order h deep of_kind (inner_map m next.entry) item.id inner (tree_entries (entries (inner_map m next.entry))) (λ t i. i) whole in
      let others = in_order h later same m id there next.more (λ t i. all t (subst (In t) (sym next.cut) (inr i))) next.spelled in
      with_folder m id there folder item within more next.entry next.more member next.is tree deeper others ∙ ap (lines folder) (sym next.cut)

  -- ---- a whole walk

  root_there : (files : FileMap) (id : Id) → IsRootOf table kind files id → IsThere table kind files id
  root_there files id is = record { fits = is.map; has = has_all (IsInTable table kind) files is.trees; id_is = is.id }

  -- what the walk has a new recorder record
  pub recorded_lines : {H M : Type 0} → H → (files : FileMap) (id : Id) → IsRootOf table kind files id → (old new : Recorder) → recording_of old ≡ record { location = Some Path; queue = []; path = []; entries = [] }
      → WalksIn Records H M table id old new IsGood → filter_map line_recorded (map recorded_of new.records.items) ≡ map (file_line kind) (entries files)
  recorded_lines {H} {M} h files id is old new fresh (calls, end, runs, walk, good) =
      let there = root_there files id is in
      let ran = is_after calls old new runs in
      let walk_is = along table kind h walk ran.1 (files, there, tt) in
      let whole_walk = ends_whole end walk walk_is.1 good in
      let made = records_in_depth H M table id calls old new whole_walk walk_is.0 (ap (λ (r : Recording). r.queue) fresh, ap (λ (r : Recording). r.path) fresh) runs in
      let known = stands_as table kind files id there in
      let of_kind = id_kind table kind files id there in
      let text = ap (λ (x : Object). x.content) (same_Some _ _ (sym known.1 ∙ made.2 h)) in
      let whole_text = subst (λ k. SpellsTree k made.0 (items kind files)) of_kind (subst (λ c. SpellsTree id.kind c (items kind files)) text known.2.spelled) in
      let order = subst (λ l. InOrder H table l id.kind [] made.0 made.1) (ap (λ (r : Recording). r.location) fresh) made.3 in
      ap (filter_map line_recorded) (made.4 ∙ ap (λ es. es ++ made.1) (ap (λ (r : Recording). r.entries) fresh))
      ∙ in_order h order of_kind files id there (tree_entries (entries files)) (λ t i. i) whole_text
      ∙ ap (map (line_in kind [])) (items_files (entries files))
      ∙ map_same (line_in kind []) (file_line kind) (entries files) (λ e i. ap (λ p. record { kind = (e.1).kind; id = blob_id kind (e.1).bytes; path = p }) (joined_root e.0))
    where
      ends_whole : (end : End) → InDepth H M table [] (before id) calls end → EndsWell table kind M end → IsGood end → InDepth H M table [] (before id) calls whole
      ends_whole whole walk well good = walk
      ends_whole broken walk well good = absurd well
      ends_whole (failed error) walk well good = absurd good

  -- why it ended early
  pub own_fault : {H M : Type 0} → H → (files : FileMap) (top : ObjectId) → IsRootOf table kind files (id_of top) → (old new : Recorder) (error : Error)
      → MemoryOr (λ e. WalksIn Records H M table (id_of top) old new (λ end. end ≡ failed e)) error → OwnFault M (as_walked top error)
  own_fault {H} {M} h files top is old new error (inl memory) = subst (λ e. OwnFault M (as_walked top e)) (sym memory) tt
  own_fault {H} {M} h files top is old new error (inr (calls, end, runs, walk, same)) =
      let ran = is_after calls old new runs in
      go error (subst (EndsWell table kind M) same (along table kind h walk ran.1 (files, root_there files (id_of top) is, tt)).1)
    where
      go : (error : Error) → EndsWell table kind M (failed error) → OwnFault M (as_walked top error)
      go (walked.Find (not_given.Find looked_up.Failed)) h = h
      go (walked.Find (not_given.Find looked_up.Memory)) h = tt
      go (walked.Find (not_given.NotFound oid)) h = h
      go (walked.Find (not_given.ObjectKind oid actual expected)) h = h
      go walked.Cancelled h = h
      go (walked.ObjectDecode e) h = h
      go walked.Cycle h = h
      go walked.Memory h = tt

-- ---- entries in a row

pub one_more : (xs : List RecorderEntry) (i : ℕ) (e : RecorderEntry) → i < length xs → e ≡ get_or xs i e
    → filter_map line_recorded (map recorded_of (take (i + 1) xs)) ≡ filter_map line_recorded (map recorded_of (take i xs)) ++ option_to_list (line_recorded (recorded_of e))
one_more xs i e within is =
    let next : suc i ≡ i + 1 = omega arith in
    ap (λ n. filter_map line_recorded (map recorded_of (take n xs))) (sym next)
    ∙ ap (λ ys. filter_map line_recorded (map recorded_of ys)) (take-suc xs i e within ∙ ap (λ x. take i xs ++ x ∷ []) (sym is))
    ∙ ap (filter_map line_recorded) (map_both recorded_of (take i xs) (e ∷ []))
    ∙ filter_both line_recorded (map recorded_of (take i xs)) (recorded_of e ∷ [])
    ∙ ap (λ l. filter_map line_recorded (map recorded_of (take i xs)) ++ l) (one (line_recorded (recorded_of e)))
  where
    one : (o : Option FileLine) → cons_option o [] ≡ option_to_list o
    one None = refl
    one (Some line) = refl

    take-suc : (xs : List RecorderEntry) (i : ℕ) (d : RecorderEntry) → i < length xs → take (suc i) xs ≡ take i xs ++ get_or xs i d ∷ []
    take-suc [] i d within = absurd (omega arith)
    take-suc (x ∷ xs) zero d within = refl
    take-suc (x ∷ xs) (suc i) d within = ap (λ ys. x ∷ ys) (take-suc xs i d (omega arith))
