-- A part whose objects are whole is opened with their ids.
use Rattle.std.proofs.Common.{◌≡◌, ◌<◌, ◌^◌, true, ◌&&◌, ◌||◌, List, length, refl, sym, ◌∙◌, ap, arith, Option, Some, None, is_some, option_map}
use Rattle.std.specs.Prelude.{IsSome, IsTrue, option_and_then, if◌then◌else◌}
use Rattle.std.specs.FinMap.{contains_key, empty, get, get-empty}
use Rattle.gix_hash.specs.Id.{Id, id_of}
use Rattle.gix_hash.specs.Order.{id_eq}
use Rattle.gix_hash.specs.declared.kind.Kind.{Kind}
use Rattle.gix_hash.specs.declared.object_id.ObjectId.{ObjectId}
use Rattle.gix_object_lookup.specs.Table.{Object}
use Rattle.gix_ref_file.specs.Tree.{Tree}
use Rattle.history_model.specs.Forms.{is_id}
use Rattle.history_model.specs.Objects.{Value, by_id, content_of, object_kind, value_text}
use Rattle.history_model.specs.Places.{object_place}
use Rattle.history_model.proofs.IdLemmas.{has_kind, id_itself}
use Rattle.history_model.proofs.PlaceLemmas.{file_at_id, values_have_ids}
use Rattle.history_model.proofs.WholeLists.{passes_one}
use Rattle.history_model.proofs.WholeSteps.{contains_in}
use Rattle.history_store.specs.Ids.{AreOfKind, IdSet}
use Rattle.history_texts.specs.IdLists.{is_one_of}
use Rattle.history_store.specs.KnownIds.{AreStanding}
use Rattle.history_store.specs.KnownObjects.{is_commit, object_at}
use Rattle.history_texts.specs.ObjectTexts.{object_in}
use Rattle.history_texts.proofs.TextObjects.{object_in-text}
use Rattle.history_store.specs.Opened.{IsOpenedWith}
use Rattle.history_check_objects.specs.Stored.{Fact, fact_of, facts_in, ids_in, kind_in}
use Rattle.history_check_objects.specs.Surveyed.{IsWholePart}
use Rattle.history_check_objects.specs.declared.stored.Stored.{Stored}

module _ (kind : Kind) (tree : Tree) (stored : Stored) (whole : IsWholePart kind tree stored) where
  abbrev ids : List ObjectId
  ids = ids_in stored

  formed : (id : Id) (v : Value) → get whole.values id ≡ Some v → IsTrue (is_id kind id)
  formed id v at = values_have_ids kind whole.values ((whole.sound).whole.own_ids) id v at

  stored_there : (id : Id) (v : Value) → get whole.values id ≡ Some v → object_at tree id ≡ Some (record { kind = object_kind v; content = content_of kind v })
  stored_there id v at =
      ap (option_and_then object_in)
      ((whole.holds).files (object_place id) ∙ file_at_id kind whole.values ((whole.sound).whole.own_ids) id (formed id v at) ∙ ap (option_map (value_text kind)) at)
      ∙ object_in-text (object_kind v) (content_of kind v) small
    where
      small : length (content_of kind v) < 2 ^ 64
      small = let most = ((whole.sound).written id v at).1 in omega arith

  there : (id : Id) (v : Value) → get whole.values id ≡ Some v → IsSome (object_at tree id)
  there id v at = ap is_some (stored_there id v at)

  some_value : (id : Id) → contains_key whole.values id ≡ true → (v : Value) × (get whole.values id ≡ Some v)
  some_value id h = go (get whole.values id) refl h
    where
      go : (o : Option Value) → get whole.values id ≡ o → is_some o ≡ true → (v : Value) × (get whole.values id ≡ Some v)
      go None e h = cc
      go (Some v) e h = (v, e)

  pub stand : AreStanding kind tree ids
  stand id has =
      let one = some_value (id_of id) (whole.known (id_of id) ∙ passes_one (λ (other : ObjectId). id_eq (id_of id) (id_of other)) ids id (contains_in ids id has) (id_itself (id_of id))) in
      ((has_kind kind (id_of id) (formed (id_of id) one.0 one.1)).of_kind, there (id_of id) one.0 one.1)

  module _ (old new : IdSet) (none : old ≡ empty) (known : (id : Id) → contains_key new id ≡ (contains_key old id || is_one_of ids id)) where
    known_are : (id : Id) → contains_key new id ≡ contains_key whole.values id
    known_are id =
        known id
        ∙ ap (λ b. b || is_one_of ids id) (ap (λ (s : IdSet). contains_key s id) none ∙ ap is_some (get-empty by_id id))
        ∙ sym (whole.known id)

    pub opened_with : IsOpenedWith kind tree new (facts_in stored)
    opened_with = record { opened = record { values = whole.values; holds = whole.holds; sound = whole.sound; known = known_are }; told = whole.told }

    pub objects_stand : (id : Id) → IsTrue (contains_key new id) → IsSome (object_at tree id)
    objects_stand id h = let one = some_value id (sym (known_are id) ∙ h) in there id one.0 one.1

    -- those of commits are told by their facts
    module _ (before after : IdSet) (no_commits : before ≡ empty) (noted : (id : Id) → contains_key after id ≡ (contains_key before id || (is_one_of ids id && is_commit (kind_in (facts_in stored) id)))) where
      pub commits_told : (id : Id) → contains_key after id ≡ is_commit (option_map (λ object. object.kind) (if◌then◌else◌ {A = Option Object} (contains_key new id) (object_at tree id) None))
      commits_told id =
          noted id
          ∙ ap (λ b. b || (is_one_of ids id && is_commit (kind_in (facts_in stored) id))) (ap (λ (s : IdSet). contains_key s id) no_commits ∙ ap is_some (get-empty by_id id))
          ∙ ap (λ b. b && is_commit (kind_in (facts_in stored) id)) (sym (whole.known id))
          ∙ ap (λ fact. contains_key whole.values id && is_commit (option_map (λ (f : Fact). f.kind) fact)) (whole.told id)
          ∙ by_value (get whole.values id) refl
          ∙ ap (λ b. is_commit (option_map (λ object. object.kind) (if◌then◌else◌ {A = Option Object} b (object_at tree id) None))) (sym (known_are id))
        where
          by_value : (found : Option Value) → get whole.values id ≡ found → (is_some (get whole.values id) && is_commit (option_map (λ (f : Fact). f.kind) (option_map fact_of (get whole.values id))))
              ≡ is_commit (option_map (λ object. object.kind) (if◌then◌else◌ {A = Option Object} (is_some (get whole.values id)) (object_at tree id) None))
          by_value None at = (λ i. is_some (at i) && is_commit (option_map (λ (f : Fact). f.kind) (option_map fact_of (at i))))
              ∙ sym (ap (λ o. is_commit (option_map (λ object. object.kind) (if◌then◌else◌ {A = Option Object} (is_some o) (object_at tree id) None))) at)
          by_value (Some v) at = (λ i. is_some (at i) && is_commit (option_map (λ (f : Fact). f.kind) (option_map fact_of (at i))))
              ∙ sym (ap (λ found. is_commit (option_map (λ object. object.kind) found)) (stored_there id v at))
              ∙ sym (ap (λ o. is_commit (option_map (λ object. object.kind) (if◌then◌else◌ {A = Option Object} (is_some o) (object_at tree id) None))) at)

    pub kinds_are : AreOfKind kind new
    kinds_are id h = let one = some_value id (sym (known_are id) ∙ h) in (has_kind kind id (formed id one.0 one.1)).of_kind
