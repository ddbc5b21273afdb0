-- What a repository has stored: its form, and the text at its place.
use Rattle.std.proofs.Common.{◌≡◌, ◌∙◌, ◌⊎◌, inl, inr, ap, refl, sym, subst, []}
use Rattle.std.specs.Prelude.{Option, Some, None, Result, Ok, Err, MatchOption, IsErrAnd, IsTrue, option_map, unwrap_or}
use Rattle.std.specs.FinMap.{get}
use Rattle.gix_ref_file.specs.History.{History}
use Rattle.gix_ref_file.specs.declared.files.FileError.{FileError}
use Rattle.gix_ref_file.specs.declared.files.FileError.TheVariants.{Failed, Memory}
use Rattle.history_model.specs.Bytes.{Bytes}
use Rattle.history_model.specs.FileMap.{FileMap, IsFileMap}
use Rattle.history_model.specs.Forms.{is_commit_form}
use Rattle.history_model.specs.Objects.{CommitValue, Value, StoredCommit, StoredFolder, object_kind, content_of, value_text, object_text}
use Rattle.gix_hash.specs.Id.{Id}
use Rattle.history_model.specs.Places.{file_at, object_place}
use Rattle.history_layout.specs.TreeHalves.{HoldsValues}
use Rattle.history_model.specs.Repository.{HaveOwnIds}
use Rattle.gix_hash.specs.declared.kind.Kind.{Kind}
use Rattle.history_model.proofs.PlaceLemmas.{values_have_ids}
use Rattle.history_layout.proofs.TreePuts.{halves_stand, places_tell_values}
use Rattle.history_model.proofs.WholeTexts.{object_same}
use Rattle.history_texts.specs.ObjectTexts.{IsNoObject}
use Rattle.gix_object_lines.specs.declared.kind.Kind.{Kind as ObjectKind}
use Rattle.history_store.specs.declared.objects.Object.{Object}
use Rattle.history_repository.specs.Reads.{GivesMeant, IsReadingFault}
use Rattle.history_repository.specs.Face.{objects_part}
use Rattle.history_repository.specs.Faults.{file_fault}
use Rattle.history_repository.specs.Stands.{Stands, pair_of}
use Rattle.history_repository.specs.declared.repository.Repository.{Repository}
use Rattle.history_repository.specs.declared.stopped.Stopped.{Stopped}
use Rattle.history_repository.specs.declared.stopped.Stopped.TheVariants.{Fault}
use Rattle.history_model.specs.Repository as plain

module _ {F : Type 0} (IsHonest : F → Type 0) (history : F → History) (repository : Repository F) (r : plain.Repository) (stands : Stands IsHonest history repository r) where
  pub holds_values : HoldsValues r.kind (history (objects_part repository)).tree r.objects
  holds_values = ((halves_stand r.kind (pair_of history repository) r).0 stands.whole.stands).1

  pub have_own_ids : HaveOwnIds r.kind r.objects
  have_own_ids = stands.whole.whole.store.own_ids

  module _ (id : Id) where
    pub text_stands : (value : Value) → get r.objects id ≡ Some value → file_at (history (objects_part repository)).tree (object_place id) ≡ Some (value_text r.kind value)
    text_stands value at =
        places_tell_values r.kind (history (objects_part repository)).tree r.objects holds_values have_own_ids id (values_have_ids r.kind r.objects have_own_ids id value at)
        ∙ ap (option_map (value_text r.kind)) at

    pub commit_formed : (value : CommitValue) → get r.objects id ≡ Some (StoredCommit value) → IsTrue (is_commit_form r.kind value)
    commit_formed value at = ((stands.whole.written.values id (StoredCommit value) at).0).0

    pub folder_paths : (files : FileMap) → get r.objects id ≡ Some (StoredFolder files) → IsFileMap files
    folder_paths files at = ((stands.whole.written.values id (StoredFolder files) at).0).map

-- ---- an object that is read

module _ (kind : Kind) (value : Value) (object : ObjectKind) (same_kind : object_kind value ≡ object) (stored : Option Bytes) (stands : stored ≡ Some (value_text kind value)) where
  told : (other : ObjectKind) (content : Bytes) → stored ≡ Some (object_text other content) → (other ≡ object) × (content ≡ content_of kind value)
  told other content is =
      let text : object_text other content ≡ value_text kind value = cc in
      let same = object_same other (object_kind value) content (content_of kind value) text in
      (same.0 ∙ same_kind, same.1)

  abbrev Read : Option Object → Type 0
  Read found = MatchOption found ((stored ≡ None) ⊎ IsNoObject (unwrap_or stored [])) (λ other. stored ≡ Some (object_text other.kind other.content.items))

  -- it has the value's type and content
  pub object_told : (found : Option Object) (other : Object) → found ≡ Some other → Read found → (other.kind ≡ object) × (other.content.items ≡ content_of kind value)
  object_told found other is read = told other.kind other.content.items (subst Read is read)

  -- and it is found
  pub object_found : (found : Option Object) → found ≡ None → Read found → ⊥
  object_found found is read = elim (subst Read is read) [
    | inl none ↦ cc
    | inr other ↦ other object (content_of kind value) (ap (λ text. unwrap_or text []) stands ∙ ap (λ k. object_text k (content_of kind value)) same_kind)
  ]

-- a call of the files that failed is a fault of reading
pub error_told : {T : Type 0} (MayFail : Type 0) (IsMeant : T → Type 0) (result : Result T Stopped) (error : FileError) → IsErrAnd result (λ stopped. stopped ≡ Fault (file_fault error)) → (error ≡ Failed → MayFail) → GivesMeant MayFail IsMeant result
error_told MayFail IsMeant (Ok value) error is fails = absurd is
error_told MayFail IsMeant (Err stopped) Failed is fails = subst (IsReadingFault MayFail) (sym is) (fails refl)
error_told MayFail IsMeant (Err stopped) Memory is fails = subst (IsReadingFault MayFail) (sym is) tt
