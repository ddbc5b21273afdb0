-- What recovery leaves of objects, and that what a stop leaves is closed before it is recovered.
use Rattle.std.proofs.Common.{◌≡◌, ◌≢◌, Bool, true, false, cond, not, ◌&&◌, [], ◌∷◌, refl, sym, ◌∙◌, ap, Option, Some, None, IsSome, is_some, bytes_eq}
use Rattle.std.specs.FinMap.{get}
use Rattle.gix_ref_file.specs.Tree.{Tree, Node, file, folder, bytes_of}
use Rattle.gix_hash.specs.Id.{Id}
use Rattle.history_model.specs.Bytes.{Bytes}
use Rattle.history_model.specs.NameStates.{Holds, name_state}
use Rattle.history_model.specs.Places.{file_at, unfinished_place}
use Rattle.history_model.specs.Recovery.{recovered_objects, recovered_names}
use Rattle.history_model.specs.Repository.{peeled}
use Rattle.history_model.specs.laws.Stopping.{StopsAreClosed}
use Rattle.history_model.proofs.PlaceLemmas.{texts_apart}
use Rattle.history_model.proofs.RecoveryLemmas.{get-kept, recovery_reads}

-- ---- recovered objects

cut_folder : (b : Bool) (o : Option Node) → cond b o None ≡ Some folder → o ≡ Some folder
cut_folder true o e = e
cut_folder false o e = cc

module _ (tree : Tree) where
  got : (path : Bytes) → get (recovered_objects tree) path ≡ cond (not (bytes_eq path unfinished_place && is_some (file_at tree path))) (get tree path) None
  got path = get-kept tree _ path

  pub unfinished_gone : file_at (recovered_objects tree) unfinished_place ≡ None
  unfinished_gone = ap bytes_of (got unfinished_place) ∙ go (get tree unfinished_place)
    where
      go : (o : Option Node) → bytes_of (cond (not (bytes_eq unfinished_place unfinished_place && is_some (bytes_of o))) o None) ≡ None
      go None = refl
      go (Some (file bytes)) = refl
      go (Some folder) = refl

  pub object_kept : (path : Bytes) → path ≢ unfinished_place → file_at (recovered_objects tree) path ≡ file_at tree path
  object_kept [] apart = refl
  object_kept (b ∷ path) apart =
      ap bytes_of (got (b ∷ path) ∙ ap (λ same. cond (not (same && is_some (file_at tree (b ∷ path)))) (get tree (b ∷ path)) None) (texts_apart (b ∷ path) unfinished_place apart))

  pub object_folder_stood : (path : Bytes) → get (recovered_objects tree) path ≡ Some folder → get tree path ≡ Some folder
  object_folder_stood path e = cut_folder _ (get tree path) (sym (got path) ∙ e)

-- ---- stops

pub stops_are_closed : StopsAreClosed
stops_are_closed old command pair (x, left, stands) = record {
  repository = x;
  whole = stands.whole;
  objects = λ path apart. sym (object_kept pair.objects path apart) ∙ (stands.stands).objects path;
  names = λ name id holds. held name id (((stands.stands).names name id).0 (reads name id holds));
}
  where
    reads : (name : Bytes) (id : Id) → name_state old.kind pair.names name ≡ Holds id → name_state x.kind (recovered_names old.kind pair.names) name ≡ Holds id
    reads name id holds = ap (λ kind. name_state kind (recovered_names old.kind pair.names) name) (stands.stands).of_kind ∙ recovery_reads old.kind pair.names name ∙ holds

    held : (name : Bytes) (id : Id) → Rattle.history_model.specs.Repository.id_at x name ≡ Some id → IsSome (peeled x id)
    held = ((stands.whole).names).held
