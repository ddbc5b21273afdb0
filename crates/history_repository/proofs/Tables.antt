-- What a store of objects looks up, if it holds those of a repository.
use Rattle.std.proofs.Common.{◌≡◌, ◌≤◌, ◌<◌, ◌^◌, ℕ, refl, sym, ◌∙◌, ap, subst, arith, Bool, true, false}
use Rattle.std.specs.Prelude.{Option, Some, None, IsTrue, IsSome, is_some, length, option_map, option_and_then, if◌then◌else◌}
use Rattle.std.specs.FinMap.{get, contains_key}
use Rattle.gix_hash.specs.Id.{Id}
use Rattle.gix_ref_file.specs.History.{History}
use Rattle.gix_object_lookup.specs.Table.{Object, Table}
use Rattle.history_model.specs.FileMap.{FileMap}
use Rattle.history_model.specs.Objects.{Value, StoredBytes, StoredCommit, StoredFolder, StoredTag, object_kind, content_of}
use Rattle.history_model.specs.Forms.{max_content}
use Rattle.history_files.specs.Reading.{IsRootOf}
use Rattle.history_files.specs.Unfolding.{HasTrees}
use Rattle.history_files.proofs.Stores.{has_trees}
use Rattle.history_store.specs.KnownObjects.{is_commit, object_at, table_of, HoldsKnown}
use Rattle.history_texts.specs.ObjectTexts.{object_in}
use Rattle.history_texts.proofs.TextObjects.{object_in-text}
use Rattle.history_repository.specs.Face.{objects_part, known_commits, known_ids}
use Rattle.history_repository.specs.Stands.{Stands}
use Rattle.history_repository.specs.declared.repository.Repository.{Repository}
use Rattle.history_repository.proofs.ShortIds.{kinds_known}
use Rattle.history_repository.proofs.StoredValues.{text_stands, folder_paths}
use Rattle.history_model.specs.Repository as plain
use Rattle.history_files.specs.Laws as laws

small : (n : ℕ) → n ≤ max_content → n < 2 ^ 64
small n least = omega arith

module _ {F : Type 0} (IsHonest : F → Type 0) (history : F → History) (repository : Repository F) (r : plain.Repository) (stands : Stands IsHonest history repository r) where
  abbrev object_of : Value → Object
  object_of value = record { kind = object_kind value; content = content_of r.kind value }

  module _ (id : Id) where
    object_there : (value : Value) → get r.objects id ≡ Some value → object_at (history (objects_part repository)).tree id ≡ Some (object_of value)
    object_there value at =
        ap (option_and_then object_in) (text_stands IsHonest history repository r stands id value at)
        ∙ object_in-text (object_kind value) (content_of r.kind value) (small (length (content_of r.kind value)) (stands.whole.written.values id value at).1)

    known_or_not : (found : Option Value) → get r.objects id ≡ found → (b : Bool) → contains_key (known_ids repository) id ≡ b → b ≡ is_some found
        → if◌then◌else◌ {A = Option Object} b (object_at (history (objects_part repository)).tree id) None ≡ option_map object_of found
    known_or_not None at false is same = refl
    known_or_not None at true is same = cc
    known_or_not (Some value) at true is same = object_there value at
    known_or_not (Some value) at false is same = cc

    at_id : table_of history repository.objects id ≡ laws.table_of r id
    at_id =
        known_or_not (get r.objects id) refl (contains_key (known_ids repository) id) refl (stands.known id)

    some_there : (found : Option Value) → get r.objects id ≡ found → is_some found ≡ true → IsSome (object_at (history (objects_part repository)).tree id)
    some_there None at some = cc
    some_there (Some value) at some = subst IsSome (sym (object_there value at)) refl

    known_there : IsTrue (contains_key (known_ids repository) id) → IsSome (object_at (history (objects_part repository)).tree id)
    known_there known = some_there (get r.objects id) refl (sym (stands.known id) ∙ known)

  pub tables_same : table_of history repository.objects ≡ laws.table_of r
  tables_same = λ i. λ id. at_id id i

  -- the ids of commits that are known are those of what is stored
  pub commit_known : (id : Id) → contains_key (known_commits repository) id ≡ is_some (plain.commit_at r id)
  commit_known id = stands.exist.commits id ∙ ap (λ found. is_commit (option_map (λ object. object.kind) found)) (at_id id) ∙ by_value (get r.objects id)
    where
      by_value : (found : Option Value) → is_commit (option_map (λ object. object.kind) (option_map object_of found)) ≡ is_some (option_and_then plain.as_commit found)
      by_value None = refl
      by_value (Some (StoredCommit commit)) = refl
      by_value (Some (StoredTag tag)) = refl
      by_value (Some (StoredBytes bytes)) = refl
      by_value (Some (StoredFolder files)) = refl

  pub holds_known : HoldsKnown IsHonest history repository.objects
  holds_known = record { honest = stands.honest_objects; known = known_there; kinds = kinds_known IsHonest history repository r stands }

  -- a stored folder's tree is a root over it
  pub root_of : (id : Id) (files : FileMap) → get r.objects id ≡ Some (StoredFolder files) → IsRootOf (table_of history repository.objects) r.kind files id
  root_of id files at = record {
    map = folder_paths IsHonest history repository r stands id files at;
    trees = subst (λ (table : Table). HasTrees table r.kind files) (sym tables_same) (has_trees r stands.whole.whole.store id files at);
    id = stands.whole.whole.store.own_ids id (StoredFolder files) at;
  }
