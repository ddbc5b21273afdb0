-- What is stored so far, if a command is stopped while it stores its values.
use Rattle.std.proofs.Common.{◌≡◌, ◌≢◌, ◌⊎◌, inl, inr, Bool, true, false, [], ◌∷◌, refl, sym, ◌∙◌, ap, Some, bytes_eq}
use Rattle.std.specs.FinMap.{get}
use Rattle.gix_ref_file.specs.Tree.{Tree, folder}
use Rattle.history_model.specs.Bytes.{Bytes}
use Rattle.history_model.specs.Objects.{Value, id_of, value_text}
use Rattle.history_model.specs.Meaning.{is_taken}
use Rattle.history_model.specs.Places.{Pair, file_at, object_place, unfinished_place}
use Rattle.history_model.specs.Recovery.{recovered_objects}
use Rattle.history_layout.specs.TreeHalves.{HoldsValues}
use Rattle.history_model.specs.Repository.{Values, HaveOwnIds}
use Rattle.history_layout.specs.Passing.{HoldsFirst, PutsPass}
use Rattle.gix_hash.specs.declared.kind.Kind.{Kind}
use Rattle.history_model.proofs.ClosedLemmas.{unfinished_gone, object_kept, object_folder_stood}
use Rattle.history_model.proofs.PlaceLemmas.{one_text, text_itself}
use Rattle.history_model.proofs.RecoveredLemmas.{place_differs}
use Rattle.history_layout.proofs.TreePuts.{halves_stand, none_unfinished, puts_store, renames_put}
use Rattle.history_model.proofs.WholeLists.{In, either, in_left, in_right, of_flat, none_is_some}
use Rattle.std.proofs.lemmas.Bool.{or_parts}
use Rattle.std.proofs.lemmas.Option.{same_Some}

module _ (tree : Tree) where
  -- if each file but the unfinished one is as before, the same values are held
  pub still_holds : (kind : Kind) (old : Tree) (values : Values) → HaveOwnIds kind values → HoldsValues kind old values → ((path : Bytes) → path ≢ unfinished_place → file_at tree path ≡ file_at old path)
      → ((path : Bytes) → get tree path ≡ Some folder → Rattle.history_model.specs.Places.is_object_folder path ≡ true) → HoldsValues kind (recovered_objects tree) values
  still_holds kind old values own h same folders = record {
    files = λ path. at path (bytes_eq path unfinished_place) refl;
    folders = λ path e. folders path (object_folder_stood tree path e);
  }
    where
      at : (path : Bytes) (b : Bool) → bytes_eq path unfinished_place ≡ b → file_at (recovered_objects tree) path ≡ get (Rattle.history_model.specs.StandsFor.value_files kind values) path
      at path true e =
          let is = one_text path unfinished_place e in
          ap (file_at (recovered_objects tree)) is ∙ unfinished_gone tree ∙ sym (none_unfinished kind old values own h) ∙ ap (file_at old) (sym is) ∙ h.files path
      at path false e =
          let apart : path ≢ unfinished_place = λ one. absurd (cc (sym e ∙ ap (λ t. bytes_eq t unfinished_place) one ∙ text_itself unfinished_place)) in
          object_kept tree path apart ∙ same path apart ∙ h.files path

pub puts_pass : PutsPass
puts_pass kind old tree values value own h free may = go may.here
  where
    apart : object_place (id_of kind value) ≢ unfinished_place
    apart = place_differs (id_of kind value)

    go : (file_at tree (object_place (id_of kind value)) ≡ file_at old (object_place (id_of kind value))) ⊎ (file_at tree (object_place (id_of kind value)) ≡ Some (value_text kind value))
        → HoldsFirst kind values (value ∷ []) tree
    go (inl same) = record {
      first = [];
      rest = value ∷ [];
      split = refl;
      free = refl;
      holds = still_holds tree kind old values own h (λ path away. elim (either (bytes_eq path (object_place (id_of kind value)))) [
        | inl e ↦ let one = one_text path (object_place (id_of kind value)) e in ap (file_at tree) one ∙ same ∙ ap (file_at old) (sym one)
        | inr e ↦ may.others path away (λ one. absurd (cc (sym e ∙ ap (λ t. bytes_eq t (object_place (id_of kind value))) one ∙ text_itself (object_place (id_of kind value)))))
      ]) may.folders;
    }
    go (inr here) = record {
      first = value ∷ [];
      rest = [];
      split = refl;
      free = Rattle.std.proofs.lemmas.Bool.or_from (is_taken kind values value) false free refl;
      holds = puts_store kind old (recovered_objects tree) values value own free h (renames_put kind old (recovered_objects tree) values value own h (record {
        here = object_kept tree (object_place (id_of kind value)) apart ∙ here;
        gone = unfinished_gone tree;
        others = λ path away other. object_kept tree path away ∙ may.others path away other;
        folders = λ path e. may.folders path (object_folder_stood tree path e);
      }));
    }
