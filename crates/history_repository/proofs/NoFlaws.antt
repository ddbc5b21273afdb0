-- A part that holds the values of a whole store, each in written form, has no flaw.
use Rattle.std.proofs.Common.{◌≡◌, true, not, ◌&&◌, [], ◌∷◌, ◌++◌, map, refl, sym, ◌∙◌, ap, subst, arith, inl, inr, Option, Some, None, is_some, option_map, append_assoc, append-nil, length-append}
use Rattle.std.specs.FinMap.{contains_key, empty, get}
use Rattle.gix_hash.specs.Id.{Id, id_of, null_id}
use Rattle.gix_hash.specs.Order.{id_eq}
use Rattle.gix_hash.specs.declared.kind.Kind.{Kind}
use Rattle.gix_object_tree.specs.Entry.{Item, SpellsTree}
use Rattle.gix_object_tree.proofs.TreeLaws.{one_tree}
use Rattle.gix_object_lines.specs.declared.kind.Kind.{Kind as ObjectKind}
use Rattle.gix_object_lines.specs.declared.kind.Kind.TheVariants as kinds
use Rattle.gix_ref_file.specs.Tree.{Tree}
use Rattle.history_files.proofs.Items.{items, items_spelled}
use Rattle.history_files.proofs.Unfolded.{get_inside, plain_map}
use Rattle.history_model.specs.Bytes.{Bytes}
use Rattle.history_model.specs.FileMap.{FileMap, inside}
use Rattle.history_model.specs.Forms.{HasForm, is_id}
use Rattle.history_model.specs.Objects.{StoredBytes, StoredCommit, StoredFolder, StoredTag, Value, content_of, digest, empty_tree_id, folder_id, object_kind, object_text, root, tree_text, value_text}
use Rattle.history_model.specs.Places.{file_at, object_place, unfinished_place}
use Rattle.history_model.specs.Repository.{HaveOwnIds, Reaches, Repository, Values, named_ids}
use Rattle.history_model.specs.Repository as repository
use Rattle.history_model.proofs.IdLemmas.{digest_is_id, has_kind, id_itself, one_id}
use Rattle.history_model.proofs.PlaceLemmas.{file_at_id, file_has_id}
use Rattle.history_model.proofs.RecoveredLemmas.{place_differs}
use Rattle.history_model.proofs.WholeGrowth.{has_stored}
use Rattle.history_model.proofs.WholeLists.{In, clash, none_is_some, passes_one}
use Rattle.history_model.proofs.WholeSteps.{contains_in}
use Rattle.history_model.proofs.WholeStores.{in_get}
use Rattle.history_model.proofs.WholeTexts.{object_same}
use Rattle.history_layout.specs.TreeHalves.{HoldsValues}
use Rattle.history_layout.specs.TreeReads.{HasObject}
use Rattle.history_texts.specs.ObjectTexts.{is_empty_tree}
use Rattle.history_texts.specs.Written.{IsMalformed, NamesObjects, named_by_commit, named_by_item}
use Rattle.history_texts.proofs.CommitTexts.{content_of_parts, value_parts}
use Rattle.history_texts.proofs.Malformeds.{before_malformed, of_other_malformed}
use Rattle.history_check_objects.specs.Flaws.{HasBadTag, HasBadTime, HasEntry, HasFile, HasMissing, HasPath, HasReserved, HasText, HasWrongKind, IsBadText, IsBadTree, IsObjectsFlaw, IsOther, IsStray, IsTooLong, Leads, Names, by_way_of, deep, deeper, entry, malformed, names, no_commit, no_object, no_tag, stray_file, stray_folder}
use Rattle.history_check_objects.specs.Opened.{IsSoundStore, store_of}
use Rattle.history_texts.specs.declared.open_error.NamedBy.TheVariants.{Object}
use Rattle.history_texts.specs.declared.open_error.OpenError.{OpenError}
use Rattle.history_texts.specs.declared.open_error.OpenError.TheVariants as flaws
use Rattle.history_check_objects.proofs.Empties.{root-empty}
use Rattle.history_repository.specs.Causes.{IsOpenFault}
use Rattle.history_repository.proofs.Items.{IsItem, are_written, bytes_stored, folder_stored, item_is, of_file, of_folder, same_files}
use Rattle.history_repository.proofs.Named.{IsNamed, named_value}
use Rattle.std.proofs.lemmas.Bool.{and_parts, or_cases}
use Rattle.std.proofs.lemmas.Option.{same_Some}

module _ (kind : Kind) (tree : Tree) (stored : Values) (holds : HoldsValues kind tree stored) (sound : IsSoundStore kind stored) where
  abbrev r : Repository
  r = store_of kind stored

  -- ---- what is at a place

  text_at : (id : Id) → is_id kind id ≡ true → file_at tree (object_place id) ≡ option_map (value_text kind) (get stored id)
  text_at id formed = holds.files (object_place id) ∙ file_at_id kind stored (sound.whole).own_ids id formed

  -- the value whose text is there
  text_value : (id : Id) (text : Bytes) → is_id kind id ≡ true → file_at tree (object_place id) ≡ Some text → (v : Value) × (get stored id ≡ Some v) × (text ≡ value_text kind v)
  text_value id text formed stands = go (get stored id) refl (sym (text_at id formed) ∙ stands)
    where
      go : (o : Option Value) → get stored id ≡ o → option_map (value_text kind) o ≡ Some text → (v : Value) × (get stored id ≡ Some v) × (text ≡ value_text kind v)
      go None e h = none_is_some text h
      go (Some v) e h = (v, e, sym (same_Some (value_text kind v) text h))

  file_value : (path : Bytes) (id : Id) (text : Bytes) → HasFile kind tree path id text → (v : Value) × (get stored id ≡ Some v) × (text ≡ value_text kind v)
  file_value path id text has = text_value id text has.formed (ap (file_at tree) (sym has.place) ∙ has.stands)

  record IsValueOf (id : Id) (object : ObjectKind) (content : Bytes) : Type 0 where
    value : Value
    at : get stored id ≡ Some value
    of_kind : object_kind value ≡ object
    of_content : content_of kind value ≡ content

  object_value : (id : Id) (object : ObjectKind) (content : Bytes) → HasObject kind tree id object content → IsValueOf id object content
  object_value id object content has =
      let found = text_value id (object_text object content) has.formed has.stands in
      let same = object_same (object_kind found.0) object (content_of kind found.0) content (sym found.2) in
      record { value = found.0; at = found.1; of_kind = same.0; of_content = same.1 }

  written : (id : Id) (v : Value) → get stored id ≡ Some v → HasForm kind v
  written id v at = (sound.written id v at).0

  folder_value : (id : Id) (content : Bytes) → HasObject kind tree id kinds.Tree content → (files : FileMap) × (get stored id ≡ Some (StoredFolder files)) × (root kind files ≡ content)
  folder_value id content has = let found = object_value id kinds.Tree content has in go found.value found.at found.of_kind found.of_content
    where
      go : (v : Value) → get stored id ≡ Some v → object_kind v ≡ kinds.Tree → content_of kind v ≡ content → (files : FileMap) × (get stored id ≡ Some (StoredFolder files)) × (root kind files ≡ content)
      go (StoredFolder files) at k c = (files, at, c)
      go (StoredCommit commit) at k c = cc
      go (StoredTag tag) at k c = cc
      go (StoredBytes bytes) at k c = cc

  -- ---- what objects name

  names_value : (by id : Id) (as_kind : ObjectKind) → Names kind tree by id as_kind → (v : Value) × (get stored by ≡ Some v) × IsNamed kind stored sound.whole v (id, as_kind)
  names_value by id as_kind n =
      let found = object_value by n.object n.content n.stands in
      let same : NamesObjects kind (object_kind found.value) (content_of kind found.value) n.named =
      subst (λ o. NamesObjects kind o (content_of kind found.value) n.named) (sym found.of_kind) (subst (λ c. NamesObjects kind n.object c n.named) (sym found.of_content) n.names) in
      (found.value, found.at, named_value kind stored sound.whole found.value (written by found.value found.at) by found.at n.named same (id, as_kind) (contains_in n.named (id, as_kind) n.among))

  no_missing : (id by : Id) → HasMissing kind tree id by → ⊥
  no_missing id by (as_kind, n, none) =
      let named = (names_value by id as_kind n).2 in
      none_is_some (value_text kind named.value) (sym none ∙ text_at id (formed id named.value named.at) ∙ ap (option_map (value_text kind)) named.at)
    where
      formed : (id : Id) (v : Value) → get stored id ≡ Some v → is_id kind id ≡ true
      formed id v at = ap (is_id kind) ((sound.whole).own_ids id v at) ∙ digest_is_id kind (value_text kind v)

  no_wrong_kind : (id by : Id) → HasWrongKind kind tree id by → ⊥
  no_wrong_kind id by (as_kind, other, content, n, has, differs) =
      let named = (names_value by id as_kind n).2 in
      let found = object_value id other content has in
      differs (sym found.of_kind ∙ ap object_kind (same_Some found.value named.value (sym found.at ∙ named.at)) ∙ named.of_kind)

  reaches : {a b : Id} → Leads kind tree a b → Reaches r a b
  reaches {a} {b} (names as_kind n) =
      let named = names_value a b as_kind n in
      repository.named named.0 named.1 (passes_one (id_eq b) (named_ids kind named.0) b (named.2).among (id_itself b))
  reaches (by_way_of mid first rest) = repository.by_way_of mid (reaches first) (reaches rest)

  -- ---- reserved ids

  no_reserved : HasReserved kind tree → ⊥
  no_reserved (id, object, content, has, reserved) =
      let found = object_value id object content has in
      let own = (has_kind kind id has.formed).of_kind in
      elim (or_cases (id_eq id (null_id id.kind)) (id_eq id (empty_tree_id id.kind) && not (is_empty_tree object content)) reserved) [
        | inl a ↦ none_is_some found.value (sym (sound.whole).null ∙ ap (get stored) (sym (one_id id (null_id id.kind) a ∙ ap null_id own)) ∙ found.at)
        | inr b ↦
            let both = and_parts (id_eq id (empty_tree_id id.kind)) (not (is_empty_tree object content)) b in
            let at = ap (get stored) (sym (one_id id (empty_tree_id id.kind) both.0 ∙ ap empty_tree_id own)) ∙ found.at in
            let same : found.value ≡ StoredFolder empty = (sound.whole).empty_tree found.value at in
            let of_kind : object ≡ kinds.Tree = sym found.of_kind ∙ ap object_kind same in
            let of_content : content ≡ [] = sym found.of_content ∙ ap (content_of kind) same ∙ root-empty kind in
            clash both.1 ((λ i. not (is_empty_tree (of_kind i) (of_content i))))
      ]

  -- ---- trees

  entry_item : (id : Id) (item : Item) → HasEntry kind tree id item → (files : FileMap) × (get stored id ≡ Some (StoredFolder files)) × IsItem kind files item
  entry_item id item has =
      let found = folder_value id has.content has.stands in
      let fits = (written id (StoredFolder found.0) found.1).map in
      let same = one_tree kind (root kind found.0) has.items (items kind found.0) (subst (λ c. SpellsTree kind c has.items) (sym found.2) has.spelled) (items_spelled kind found.0 (plain_map found.0 fits)) in
      (found.0, found.1, item_is kind found.0 item (subst (In item) same (contains_in has.items item has.among)))

  -- a path leads to a file, or to what a file is below
  record LeadsToFile (id : Id) (path : Bytes) : Type 0 where
    files : FileMap
    at : get stored id ≡ Some (StoredFolder files)
    more : Bytes
    there : contains_key files (path ++ more) ≡ true

  path_there : (id : Id) (path : Bytes) → HasPath kind tree id path → LeadsToFile id path
  path_there id path (entry item has) = let found = entry_item id item has in go found.0 found.1 found.2
    where
      go : (files : FileMap) → get stored id ≡ Some (StoredFolder files) → IsItem kind files item → LeadsToFile id item.name
      go files at (of_file content i same plain) = record { files = files; at = at; more = []; there = ap (contains_key files) (append-nil item.name) ∙ ap is_some (in_get files item.name content i) }
      go files at (of_folder rest content i same is) = record { files = files; at = at; more = 47 ∷ rest; there = ap is_some (in_get files (item.name ++ 47 ∷ rest) content i) }
  path_there id path (deeper item rest has below) = let found = entry_item id item has in go found.0 found.1 found.2 (path_there item.id rest below)
    where
      go : (files : FileMap) → get stored id ≡ Some (StoredFolder files) → IsItem kind files item → LeadsToFile item.id rest → LeadsToFile id (item.name ++ 47 ∷ rest)
      go files at (of_file content i same plain) inner =
          let bytes = ap (get stored) same ∙ bytes_stored kind stored sound.whole files (has_stored r sound.whole id files at) item.name content i in
          let clashes : StoredFolder inner.files ≡ StoredBytes content.bytes = same_Some (StoredFolder inner.files) (StoredBytes content.bytes) (sym inner.at ∙ bytes) in
          absurd (cc clashes)
      go files at (of_folder other content i same is) inner =
          let folder = ap (get stored) same ∙ folder_stored kind stored sound.whole files (has_stored r sound.whole id files at) item.name other content i in
          let one = same_files inner.files (inside item.name files) (same_Some (StoredFolder inner.files) (StoredFolder (inside item.name files)) (sym inner.at ∙ folder)) in
          record {
            files = files;
            at = at;
            more = inner.more;
            there = ap (contains_key files) (append_assoc item.name (47 ∷ rest) inner.more) ∙ ap is_some (sym (get_inside item.name files (rest ++ inner.more))) ∙ ap (λ m. contains_key m (rest ++ inner.more)) (sym one) ∙ inner.there;
          }

  no_bad_tree : (id : Id) → IsBadTree kind tree id → ⊥
  no_bad_tree id (malformed content has none) =
      let found = folder_value id content has in
      let fits = (written id (StoredFolder found.0) found.1).map in
      none (map named_by_item (items kind found.0)) (subst (λ c. NamesObjects kind kinds.Tree c (map named_by_item (items kind found.0))) found.2
      (record { items = items kind found.0; written = are_written kind stored sound.whole found.0 (has_stored r sound.whole id found.0 found.1) fits; named_are = refl }))
  no_bad_tree id (deep path has long) =
      let found = path_there id path has in
      let short = (written id (StoredFolder found.files) found.at).limit (path ++ found.more) found.there in
      let whole_length = length-append path found.more in
      omega (arith, long, short, whole_length)

  -- ---- texts

  no_bad_commit : (id : Id) (v : Value) → get stored id ≡ Some v → (content : Bytes) → object_kind v ≡ kinds.Commit → content_of kind v ≡ content → IsMalformed kind kinds.Commit content → ⊥
  no_bad_commit id (StoredCommit commit) at content k c none =
      let form = (written id (StoredCommit commit) at).0 in
      none (named_by_commit (folder_id kind commit.files) commit) (record {
        parts = value_parts kind commit;
        text = sym c ∙ content_of_parts kind commit;
        names = record {
          tree = folder_id kind commit.files;
          value = commit;
          parts_are = record { tree_is = digest_is_id kind (tree_text (root kind commit.files)); form = form; told = refl };
          named_are = refl;
        };
      })
  no_bad_commit id (StoredTag tag) at content k c none = cc
  no_bad_commit id (StoredBytes bytes) at content k c none = cc
  no_bad_commit id (StoredFolder files) at content k c none = cc

  no_bad_tag : (id : Id) (v : Value) → get stored id ≡ Some v → (content : Bytes) → object_kind v ≡ kinds.Tag → content_of kind v ≡ content → IsMalformed kind kinds.Tag content → ⊥
  no_bad_tag id (StoredTag tag) at content k c none = none ((tag.target, kinds.Commit) ∷ []) (record { tag = tag; form = written id (StoredTag tag) at; text = sym c; named_are = refl })
  no_bad_tag id (StoredCommit commit) at content k c none = cc
  no_bad_tag id (StoredBytes bytes) at content k c none = cc
  no_bad_tag id (StoredFolder files) at content k c none = cc

  no_bad_time : (id : Id) → HasBadTime kind tree id → ⊥
  no_bad_time id (kinds.Tree, content, has, before) = before
  no_bad_time id (kinds.Blob, content, has, before) = before
  no_bad_time id (kinds.Commit, content, has, before) = let v = object_value id kinds.Commit content has in no_bad_commit id v.value v.at content v.of_kind v.of_content (before_malformed kind kinds.Commit content before)
  no_bad_time id (kinds.Tag, content, has, before) = let v = object_value id kinds.Tag content has in no_bad_tag id v.value v.at content v.of_kind v.of_content (before_malformed kind kinds.Tag content before)

  no_bad_tag_of_other : (id : Id) → HasBadTag kind tree id → ⊥
  no_bad_tag_of_other id (content, has, of_other) = let v = object_value id kinds.Tag content has in no_bad_tag id v.value v.at content v.of_kind v.of_content (of_other_malformed kind content of_other)

  no_bad_text : (path : Bytes) → HasText kind tree path (λ id text. IsBadText kind text) → ⊥
  no_bad_text path (id, text, has, bad) = let found = file_value path id text has in go found.0 found.1 found.2 bad
    where
      go : (v : Value) → get stored id ≡ Some v → text ≡ value_text kind v → IsBadText kind text → ⊥
      go v at is (no_object none) = none (object_kind v) (content_of kind v) is
      go v at is (no_commit content told none) = let same = object_same (object_kind v) kinds.Commit (content_of kind v) content (sym is ∙ told) in no_bad_commit id v at content same.0 same.1 none.malformed
      go v at is (no_tag content told none) = let same = object_same (object_kind v) kinds.Tag (content_of kind v) content (sym is ∙ told) in no_bad_tag id v at content same.0 same.1 none.malformed

  no_wrong_id : (path : Bytes) → HasText kind tree path (IsOther kind) → ⊥
  no_wrong_id path (id, text, has, other) =
      let found = file_value path id text has in
      other.other ((sound.whole).own_ids id found.0 found.1 ∙ ap (digest kind) (sym found.2 ∙ other.text_is))

  no_long_text : (path : Bytes) → HasText kind tree path (λ id text. IsTooLong text) → ⊥
  no_long_text path (id, text, has, long) =
      let found = file_value path id text has in
      long.1 (object_kind found.0) (content_of kind found.0) (sound.written id found.0 found.1).1 found.2

  -- ---- strays

  no_stray : (path : Bytes) → IsStray kind tree path → ⊥
  no_stray path (stray_file text stands apart none) =
      let own = file_has_id kind stored (sound.whole).own_ids path text (sym (holds.files path) ∙ stands) in
      none own.0 own.1 own.2
  no_stray path (stray_folder is none) = clash (holds.folders path is) none

  no_unfinished : (path text : Bytes) → path ≡ unfinished_place → file_at tree unfinished_place ≡ Some text → ⊥
  no_unfinished path text e stands =
      let own = file_has_id kind stored (sound.whole).own_ids unfinished_place text (sym (holds.files unfinished_place) ∙ stands) in
      place_differs own.0 (sym own.2)

  -- ---- all

  pub fault_alone : (MayFail : Type 0) (flaw : OpenError) → IsObjectsFlaw MayFail kind tree flaw → IsOpenFault flaw
  fault_alone MayFail (flaws.Stray path) h = absurd (no_stray path.items h)
  fault_alone MayFail (flaws.Unfinished path) h = absurd (no_unfinished path.items (h.1).0 h.0 (h.1).1)
  fault_alone MayFail (flaws.BadObject path) h = absurd (no_bad_text path.items h)
  fault_alone MayFail (flaws.WrongId path) h = absurd (no_wrong_id path.items h)
  fault_alone MayFail (flaws.TooLarge path) h = absurd (no_long_text path.items h)
  fault_alone MayFail (flaws.BadTree id) h = absurd (no_bad_tree (id_of id) h)
  fault_alone MayFail (flaws.BadTime id) h = absurd (no_bad_time (id_of id) h)
  fault_alone MayFail (flaws.BadTag id) h = absurd (no_bad_tag_of_other (id_of id) h)
  fault_alone MayFail (flaws.Missing id (Object by)) h = absurd (no_missing (id_of id) (id_of by) h)
  fault_alone MayFail (flaws.WrongKind id (Object by)) h = absurd (no_wrong_kind (id_of id) (id_of by) h)
  fault_alone MayFail (flaws.Cycle id) h = absurd ((sound.whole).acyclic (id_of id) (reaches h))
  fault_alone MayFail flaws.IdReserved h = absurd (no_reserved h)
  fault_alone MayFail flaws.File h = tt
  fault_alone MayFail flaws.Memory h = tt
  fault_alone MayFail _ h = absurd h
