-- The two halves of what represents a repository, and what a put of a value does to the half of
-- values.
use Rattle.std.proofs.Common.{◌≡◌, ◌≢◌, Bool, true, false, cond, not, ◌&&◌, ◌||◌, refl, sym, ◌∙◌, ap, subst, Option, Some, None, option_map, is_some, unwrap_or, bytes_eq, codes, take, drop, [], ◌∷◌, ◌++◌}
use Rattle.std.specs.FinMap.{get, insert, contains_key, empty}
use Rattle.gix_ref_file.specs.Tree.{Tree}
use Rattle.history_model.specs.Bytes.{Bytes}
use Rattle.history_model.specs.Objects.{Value, hex, StoredFolder, value_text, id_of, empty_tree_id}
use Rattle.gix_hash.specs.Id.{Id, null_id}
use Rattle.gix_hash.specs.Order.{id_eq}
use Rattle.history_model.specs.Meaning.{store_one, is_taken, is_other}
use Rattle.history_model.specs.Places.{file_at, object_place, unfinished_place}
use Rattle.history_layout.specs.TreeHalves.{HoldsValues, HalvesStand, PlacesTellValues}
use Rattle.history_model.specs.Repository.{Values, HaveOwnIds}
use Rattle.history_model.specs.StandsFor.{value_files}
use Rattle.history_layout.specs.TreeSteps.{PutsValue, PutsStore, StandingIsStored, StoredStands, TreesTellTaken, OwnIdsStay, NoneUnfinished, RenamesPut}
use Rattle.gix_hash.specs.declared.kind.Kind.{Kind}
use Rattle.history_model.proofs.IdLemmas.{one_id, id_itself, ids_apart, get_with_id, digest_is_id}
use Rattle.history_model.proofs.PlaceLemmas.{one_text, text_itself, file_at_id, file_has_id, same_file}
use Rattle.history_model.proofs.RecoveredLemmas.{place_apart}
use Rattle.std.proofs.lemmas.Bool.{or_parts}

pub halves_stand : HalvesStand
halves_stand kind pair r = (
  λ s. (
    s.of_kind,
    record { files = s.objects; folders = s.object_folders },
    record { head = s.head; names = s.names; logs = s.logs; packed = s.packed; places = s.places; folders = s.folders },
  ),
  λ h. record {
    of_kind = h.0;
    objects = (h.1).files;
    object_folders = (h.1).folders;
    head = (h.2).head;
    names = (h.2).names;
    logs = (h.2).logs;
    packed = (h.2).packed;
    places = (h.2).places;
    folders = (h.2).folders;
  },
)

pub no_text : {A : Type 0} {text : Bytes} {o : Option Bytes} → o ≡ None → o ≡ Some text → A
no_text e f = cc

pub places_tell_values : PlacesTellValues
places_tell_values kind tree values h own id is = h.files (object_place id) ∙ file_at_id kind values own id is

module _ (kind : Kind) (values : Values) (value : Value) where
  abbrev id : Id
  id = id_of kind value

  abbrev place : Bytes
  place = object_place id

  stored_or_new : {A : Type 0} → (contains_key values id ≡ true → A) → (contains_key values id ≡ false → A) → A
  stored_or_new {A} if_stored if_new = go (contains_key values id) refl
    where
      go : (b : Bool) → contains_key values id ≡ b → A
      go true e = if_stored e
      go false e = if_new e

  when_stored : contains_key values id ≡ true → store_one kind values value ≡ values
  when_stored e = ap (λ b. cond b values (insert values id value)) e

  when_new : contains_key values id ≡ false → store_one kind values value ≡ insert values id value
  when_new e = ap (λ b. cond b values (insert values id value)) e

  module _ (own : HaveOwnIds kind values) where
    stay_new : HaveOwnIds kind (insert values id value)
    stay_new q v at = go (id_eq q id) refl (sym (get_with_id values id value q) ∙ at)
      where
        inside : {a b : Value} → Some a ≡ Some b → a ≡ b
        inside e = cc

        go : (b : Bool) → id_eq q id ≡ b → cond b (Some value) (get values q) ≡ Some v → q ≡ id_of kind v
        go true e h = one_id q id e ∙ ap (id_of kind) (inside h)
        go false e h = own q v h

    stay : HaveOwnIds kind (store_one kind values value)
    stay = stored_or_new (λ e. subst (HaveOwnIds kind) (sym (when_stored e)) own) (λ e. subst (HaveOwnIds kind) (sym (when_new e)) stay_new)

    module _ (tree : Tree) (h : HoldsValues kind tree values) where
      at_place : file_at tree place ≡ option_map (value_text kind) (get values id)
      at_place = places_tell_values kind tree values h own id (digest_is_id kind (value_text kind value))

      stands_then_stored : file_at tree place ≡ Some (value_text kind value) → contains_key values id ≡ true
      stands_then_stored e = go (get values id) (sym at_place ∙ e)
        where
          go : (o : Option Value) → option_map (value_text kind) o ≡ Some (value_text kind value) → is_some o ≡ true
          go None k = cc
          go (Some v) k = refl

      taken_told : unwrap_or (option_map (is_other kind (value_text kind value)) (get values id)) false
          ≡ unwrap_or (option_map (λ text. not (bytes_eq (value_text kind value) text)) (file_at tree place)) false
      taken_told = go (get values id) ∙ ap (λ o. unwrap_or (option_map (λ text. not (bytes_eq (value_text kind value) text)) o) false) (sym at_place)
        where
          go : (o : Option Value) → unwrap_or (option_map (is_other kind (value_text kind value)) o) false
              ≡ unwrap_or (option_map (λ text. not (bytes_eq (value_text kind value) text)) (option_map (value_text kind) o)) false
          go None = refl
          go (Some v) = refl

      text_stands : is_taken kind values value ≡ false → contains_key values id ≡ true → file_at tree place ≡ Some (value_text kind value)
      text_stands free stored = go (file_at tree place) refl
        where
          no_other : unwrap_or (option_map (λ text. not (bytes_eq (value_text kind value) text)) (file_at tree place)) false ≡ false
          no_other = sym taken_told ∙ (or_parts (id_eq id (null_id kind) || (id_eq id (empty_tree_id kind) && is_other kind (value_text kind (StoredFolder empty)) value)) _ free).1

          some_stands : is_some (file_at tree place) ≡ true
          some_stands = ap is_some at_place ∙ kept (get values id) ∙ stored
            where
              kept : (o : Option Value) → is_some (option_map (value_text kind) o) ≡ is_some o
              kept None = refl
              kept (Some v) = refl

          turned : (b : Bool) → not b ≡ false → b ≡ true
          turned true e = refl
          turned false e = cc

          go : (o : Option Bytes) → file_at tree place ≡ o → file_at tree place ≡ Some (value_text kind value)
          go None e = absurd (cc (sym (ap is_some e) ∙ some_stands))
          go (Some text) e = e ∙ ap Some (sym (one_text (value_text kind value) text
              (turned (bytes_eq (value_text kind value) text) (sym (ap (λ o. unwrap_or (option_map (λ t. not (bytes_eq (value_text kind value) t)) o) false) e) ∙ no_other))))

    module _ (old new : Tree) (h : HoldsValues kind old values) (puts : PutsValue kind value old new) where
      new_files : (path : Bytes) → contains_key values id ≡ false → file_at new path ≡ get (value_files kind (insert values id value)) path
      new_files path e = go (bytes_eq path place) refl
        where
          go : (b : Bool) → bytes_eq path place ≡ b → file_at new path ≡ get (value_files kind (insert values id value)) path
          go true k =
              ap (file_at new) (one_text path place k) ∙ puts.here
              ∙ sym (file_at_id kind (insert values id value) stay_new id (digest_is_id kind (value_text kind value))
              ∙ ap (option_map (value_text kind)) (get_with_id values id value id ∙ ap (λ b. cond b (Some value) (get values id)) (id_itself id)))
              ∙ ap (get (value_files kind (insert values id value))) (sym (one_text path place k))
          go false k =
              puts.others path differ ∙ h.files path
              ∙ same_file kind values (insert values id value) own stay_new path (λ q is same. sym (get_with_id values id value q
              ∙ ap (λ b. cond b (Some value) (get values q)) (ids_apart q id (λ one. differ (same ∙ ap object_place one)))))
            where
              differ : path ≢ place
              differ same = absurd (cc (sym k ∙ ap (λ p. bytes_eq p place) same ∙ text_itself place))

      stored_files : (path : Bytes) → is_taken kind values value ≡ false → contains_key values id ≡ true → file_at new path ≡ get (value_files kind values) path
      stored_files path free e = go (bytes_eq path place) refl
        where
          go : (b : Bool) → bytes_eq path place ≡ b → file_at new path ≡ get (value_files kind values) path
          go true k = ap (file_at new) (one_text path place k) ∙ puts.here ∙ sym (text_stands old h free e) ∙ ap (file_at old) (sym (one_text path place k)) ∙ h.files path
          go false k = puts.others path (λ same. absurd (cc (sym k ∙ ap (λ p. bytes_eq p place) same ∙ text_itself place))) ∙ h.files path

      stores : is_taken kind values value ≡ false → HoldsValues kind new (store_one kind values value)
      stores free = record {
        files = λ path. stored_or_new
            (λ e. stored_files path free e ∙ ap (λ m. get (value_files kind m) path) (sym (when_stored e)))
            (λ e. new_files path e ∙ ap (λ m. get (value_files kind m) path) (sym (when_new e)));
        folders = puts.folders;
      }

pub puts_store : PutsStore
puts_store kind old new values value own free h puts = stores kind values value own old new h puts free

pub standing_is_stored : StandingIsStored
standing_is_stored kind tree values value own h e = when_stored kind values value (stands_then_stored kind values value own tree h e)

pub stored_stands : StoredStands
stored_stands kind tree values value own h free e = text_stands kind values value own tree h free e

pub trees_tell_taken : TreesTellTaken
trees_tell_taken kind tree values value own h =
    ap (λ b. id_eq (id_of kind value) (null_id kind) || (id_eq (id_of kind value) (empty_tree_id kind) && is_other kind (value_text kind (StoredFolder empty)) value) || b)
    (taken_told kind values value own tree h)

pub own_ids_stay : OwnIdsStay
own_ids_stay kind values value own = stay kind values value own

-- ---- a put by renaming

pub none_unfinished : NoneUnfinished
none_unfinished kind tree values own h = go (file_at tree unfinished_place) refl
  where
    go : (o : Option Bytes) → file_at tree unfinished_place ≡ o → file_at tree unfinished_place ≡ None
    go None e = e
    go (Some text) e =
        let found = file_has_id kind values own unfinished_place text (sym (h.files unfinished_place) ∙ e) in
        absurd (cc (sym (place_apart found.0) ∙ ap (bytes_eq unfinished_place) (sym found.2) ∙ text_itself unfinished_place))

pub renames_put : RenamesPut
renames_put kind old new values value own h renames = record { here = renames.here; others = others; folders = renames.folders }
  where
    others : (path : Bytes) → path ≢ object_place (id_of kind value) → file_at new path ≡ file_at old path
    others path apart = go (bytes_eq path unfinished_place) refl
      where
        go : (b : Bool) → bytes_eq path unfinished_place ≡ b → file_at new path ≡ file_at old path
        go true e = ap (file_at new) (one_text path unfinished_place e) ∙ renames.gone ∙ sym (none_unfinished kind old values own h) ∙ ap (file_at old) (sym (one_text path unfinished_place e))
        go false e = renames.others path (λ same. absurd (cc (sym e ∙ ap (λ t. bytes_eq t unfinished_place) same ∙ text_itself unfinished_place))) apart
