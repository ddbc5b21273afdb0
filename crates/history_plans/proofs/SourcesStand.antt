-- What a stored commit's files have at a source is what an edit of files may graft.
use Rattle.std.proofs.Common.{◌≡◌, Bool, true, false, cond, refl, sym, ◌∙◌, ap, subst, Option, Some, None, option_map, codes, IfSome, []}
use Rattle.std.specs.Fmt.{digits}
use Rattle.std.specs.FinMap.{empty, get, get-empty, keys}
use Rattle.gix_hash.specs.Hasher.{empty_tree_text, id_of_message}
use Rattle.gix_hash.specs.Id.{Id, id_of}
use Rattle.gix_hash.specs.declared.kind.Kind.{Kind}
use Rattle.gix_object_nodes.specs.Files.{IsEmptyTree}
use Rattle.gix_hash.specs.declared.object_id.ObjectId.{ObjectId}
use Rattle.history_model.specs.Bytes.{Bytes, by_bytes, is_empty}
use Rattle.history_model.specs.Forms.{IsWritten}
use Rattle.history_model.specs.Meaning.{files_at}
use Rattle.history_model.specs.FileMap.{FileMap, Content, IsFileMap}
use Rattle.history_model.specs.Objects.{StoredBytes, StoredCommit, StoredFolder, Value, digest, empty_tree_id, entry_at, folder_id, root, root_within, tree_text}
use Rattle.history_model.specs.Objects.{id_of as value_id}
use Rattle.history_model.specs.Repository.{HoldsCommit, IsStored, IsWholeStore, Repository}
use Rattle.history_model.proofs.WholeGrowth.{has_stored}
use Rattle.history_model.proofs.WholeLists.{none_is_some}
use Rattle.history_model.proofs.WholeRoots.{HasAll}
use Rattle.history_model.proofs.WholeStores.{get_in, one_by_keys}
use Rattle.history_files.specs.Edits.{IsSource, source_entry}
use Rattle.history_files.specs.Laws.{table_of}
use Rattle.history_files.specs.Reading.{entry_of}
use Rattle.history_files.specs.declared.found.Found.{Found}
use Rattle.history_files.specs.declared.found.Found.TheVariants.{Folder}
use Rattle.history_files.proofs.Grafted.{source_files}
use Rattle.history_files.proofs.Inside.{HasFile}
use Rattle.history_files.proofs.Items.{digest_kind}
use Rattle.history_files.proofs.Sources.{AFile, AFolder, Nothing, Source, by_entry, folder_stored, no_keys, some_file, source_of}
use Rattle.history_files.proofs.Stores.{has_trees}
use Rattle.history_repository.proofs.Befores.{entries-empty, held_commit, held_files}

-- what is found hasn't the empty tree's id
abbrev HasNoEmpty : Option Found → Type 0
HasNoEmpty found = IfSome found (λ (it : Found). IsEmptyTree (entry_of it).1 → ⊥)

-- the empty tree's id
empty_is : (kind : Kind) → empty_tree_id kind ≡ id_of_message kind empty_tree_text
unfolding digest digits
empty_is kind = refl

-- no files have a tree without entries
root-empty : (kind : Kind) → root kind empty ≡ []
unfolding root root_within
root-empty kind = rw entries-empty refl

module _ (r : Repository) (whole : IsWholeStore r) (files : FileMap) (map_is : IsFileMap files) (stands : get r.objects (folder_id r.kind files) ≡ Some (StoredFolder files)) where
  all : HasAll (IsStored r) files
  all = has_stored r whole (folder_id r.kind files) files stands

  -- no other value has the empty tree's id
  not_empty_tree : (value : Value) (id : Id) → id ≡ value_id r.kind value → id.kind ≡ r.kind → get r.objects (value_id r.kind value) ≡ Some value → (value ≡ StoredFolder empty → ⊥) → IsEmptyTree id → ⊥
  not_empty_tree value id is kind at other tree =
      other (whole.empty_tree value (ap (get r.objects) (empty_is r.kind ∙ sym (ap (λ k. id_of_message k empty_tree_text) kind) ∙ sym tree ∙ is) ∙ at))

  no_file : (m : FileMap) → HasFile m → StoredFolder m ≡ StoredFolder empty → ⊥
  no_file m (path, content, at) e = none_is_some content (sym (get-empty {X = Content} by_bytes path) ∙ ap (λ (n : FileMap). get n path) (sym (same e)) ∙ at)
    where
      same : {a b : FileMap} → StoredFolder a ≡ StoredFolder b → a ≡ b
      same e = cc

  pub source_is : (source : Bytes) (found : Option Found) → option_map entry_of found ≡ source_entry r.kind files source → IsSource (table_of r) r.kind source files found
  source_is source found told = record {
    map = map_is;
    trees = has_trees r whole (folder_id r.kind files) files stands;
    is = told;
    isnt_empty = go (by_entry r.kind source files map_is found told);
  }
    where
      go : Source r.kind source files found → HasNoEmpty found
      go (Nothing e file none) = subst HasNoEmpty (sym e) tt
      go (AFile k id content e same_kind same at file none) =
          subst HasNoEmpty (sym e)
          (not_empty_tree (StoredBytes content.bytes) (id_of id) same (ap (λ (i : Id). i.kind) same ∙ digest_kind r.kind _) (all.bytes source content (get_in files source content at)) (λ bad. cc))
      go (AFolder id e same file some) =
          subst HasNoEmpty (sym e)
          (not_empty_tree (StoredFolder (source_files source files)) (id_of id) same (ap (λ (i : Id). i.kind) same ∙ digest_kind r.kind _)
          (folder_stored (IsStored r) source files all some) (no_file (source_files source files) some))

  -- the folder that a source is, is stored
  pub source_stands : (source : Bytes) (found : Option Found) (id : ObjectId) → IsSource (table_of r) r.kind source files found → found ≡ Some (Folder id) → get r.objects (id_of id) ≡ Some (StoredFolder (source_files source files))
  source_stands source found id is e = go (source_of (table_of r) r.kind source files found is)
    where
      same_id : {a b : ObjectId} → Some (Folder a) ≡ Some (Folder b) → a ≡ b
      same_id k = cc

      go : Source r.kind source files found → get r.objects (id_of id) ≡ Some (StoredFolder (source_files source files))
      go (Nothing k file none) = cc
      go (AFile kind x content f same_kind same at file none) = cc
      go (AFolder x f same file some) = ap (get r.objects) (ap id_of (same_id (sym e ∙ f)) ∙ same) ∙ folder_stored (IsStored r) source files all some

-- ---- the files of a stored commit

module _ (r : Repository) (whole : IsWholeStore r) (written : IsWritten r) (id : Id) (holds : HoldsCommit r id) where
  pub files_folder : get r.objects (folder_id r.kind (files_at r id)) ≡ Some (StoredFolder (files_at r id))
  files_folder =
      let held = held_commit r whole id holds in
      subst (λ (files : FileMap). get r.objects (folder_id r.kind files) ≡ Some (StoredFolder files)) (sym (held_files r whole id holds)) (whole.closed id (StoredCommit held.0) held.1).1

  pub files_map : IsFileMap (files_at r id)
  files_map =
      let held = held_commit r whole id holds in
      subst IsFileMap (sym (held_files r whole id holds)) (((written.values id (StoredCommit held.0) held.1).0).1).map

  pub found_at : (source : Bytes) (found : Option Found) → option_map entry_of found ≡ source_entry r.kind (files_at r id) source → IsSource (table_of r) r.kind source (files_at r id) found
  found_at source found told = source_is r whole (files_at r id) files_map files_folder source found told

  -- what is at a source, by whether it is empty, and whether there are files
  abbrev as_folder : Id → Option (Bytes × Id)
  as_folder root = Some (codes "40000", root)

  abbrev at_all : Bool → Option (Bytes × Id)
  at_all none = cond none None (as_folder (folder_id r.kind (files_at r id)))

  abbrev at_source : Bytes → Bool → Option (Bytes × Id)
  at_source source none = cond none (at_all (is_empty (keys (files_at r id)))) (entry_at r.kind (files_at r id) source)

  -- at a source that isn't empty
  pub found_below_told : (source : Bytes) (found : Option Found) → is_empty source ≡ false → option_map entry_of found ≡ entry_at r.kind (files_at r id) source → IsSource (table_of r) r.kind source (files_at r id) found
  found_below_told source found some told =
      found_at source found (told ∙ sym (ap (at_source source) some))

  -- and at an empty one
  no_keys_empty : is_empty (keys (files_at r id)) ≡ true → IsEmptyTree (folder_id r.kind (files_at r id))
  no_keys_empty none =
      let same : files_at r id ≡ empty = one_by_keys (files_at r id) empty (λ q. no_keys (files_at r id) none q ∙ sym (get-empty by_bytes q)) in
      ap (folder_id r.kind) same ∙ ap (λ content. digest r.kind (tree_text content)) (root-empty r.kind) ∙ empty_is r.kind ∙ ap (λ k. id_of_message k empty_tree_text) (sym (digest_kind r.kind _))

  empty_no_keys : IsEmptyTree (folder_id r.kind (files_at r id)) → is_empty (keys (files_at r id)) ≡ false → ⊥
  empty_no_keys tree some =
      not_empty_tree r whole (files_at r id) files_map files_folder (StoredFolder (files_at r id)) (folder_id r.kind (files_at r id)) refl (digest_kind r.kind _) files_folder
      (no_file r whole (files_at r id) files_map files_folder (files_at r id) (some_file (files_at r id) some)) tree

  pub none_told : (source : Bytes) → is_empty source ≡ true → IsEmptyTree (folder_id r.kind (files_at r id)) → IsSource (table_of r) r.kind source (files_at r id) None
  none_told source none tree = found_at source None (sym (ap (at_source source) none ∙ go (is_empty (keys (files_at r id))) refl))
    where
      go : (b : Bool) → is_empty (keys (files_at r id)) ≡ b → at_all b ≡ None
      go true e = refl
      go false e = absurd (empty_no_keys tree e)

  pub all_told : (source : Bytes) (root : ObjectId) → is_empty source ≡ true → id_of root ≡ folder_id r.kind (files_at r id) → (IsEmptyTree (id_of root) → ⊥) → IsSource (table_of r) r.kind source (files_at r id) (Some (Folder root))
  all_told source root none same other =
      found_at source (Some (Folder root)) (ap as_folder same ∙ sym (ap (at_source source) none ∙ go (is_empty (keys (files_at r id))) refl))
    where
      go : (b : Bool) → is_empty (keys (files_at r id)) ≡ b → at_all b ≡ as_folder (folder_id r.kind (files_at r id))
      go false e = refl
      go true e = absurd (other (subst IsEmptyTree (sym same) (no_keys_empty e)))
