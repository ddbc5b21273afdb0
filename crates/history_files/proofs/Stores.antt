-- The table of a whole store has the trees of each stored folder.
use Rattle.std.proofs.Common.{◌≡◌, ◌∙◌, ap, refl, sym, Bool, true, false, Some, option_map}
use Rattle.std.specs.FinMap.{get}
use Rattle.gix_hash.specs.Id.{Id, null_id}
use Rattle.gix_object_nodes.specs.Files.{is_null}
use Rattle.history_model.specs.FileMap.{FileMap}
use Rattle.history_model.specs.Objects.{Value, StoredCommit, StoredTag, StoredBytes, StoredFolder, object_kind, content_of, id_of, value_text}
use Rattle.history_model.specs.Repository.{Repository, IsStored, IsWholeStore, file_values}
use Rattle.history_model.proofs.IdLemmas.{digest_is_id, has_kind, one_id}
use Rattle.history_model.proofs.WholeLists.{all_in, in_all, none_is_some}
use Rattle.history_files.specs.Unfolding.{FolderStands, IsInTable, HasTrees}
use Rattle.history_files.specs.Laws.{table_of}

module _ (r : Repository) (whole : IsWholeStore r) where
  -- no stored value has the null id
  isnt_null : (value : Value) → IsStored r value → is_null (id_of r.kind value) ≡ false
  isnt_null value stored = go (is_null (id_of r.kind value)) refl
    where
      go : (b : Bool) → is_null (id_of r.kind value) ≡ b → b ≡ false
      go false e = refl
      go true e =
          let kind = (has_kind r.kind (id_of r.kind value) (digest_is_id r.kind (value_text r.kind value))).of_kind in
          let null : id_of r.kind value ≡ null_id r.kind = one_id (id_of r.kind value) (null_id (id_of r.kind value).kind) e ∙ ap null_id kind in
          none_is_some value (sym whole.null ∙ ap (get r.objects) (sym null) ∙ stored)

  stands : (value : Value) → IsStored r value → FolderStands (table_of r) r.kind value
  stands (StoredFolder files) stored = ap (option_map (λ value. record { kind = object_kind value; content = content_of r.kind value })) stored
  stands (StoredBytes bytes) stored = tt
  stands (StoredCommit commit) stored = tt
  stands (StoredTag tag) stored = tt

  pub has_trees : (id : Id) (files : FileMap) → get r.objects id ≡ Some (StoredFolder files) → HasTrees (table_of r) r.kind files
  has_trees id files at = in_all (IsInTable (table_of r) r.kind) (file_values files) (λ value i.
      let stored = all_in (IsStored r) (file_values files) (whole.closed id (StoredFolder files) at) value i in
      record { stands = stands value stored; isnt_null = isnt_null value stored })
