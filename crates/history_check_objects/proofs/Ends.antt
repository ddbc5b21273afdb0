-- Where a survey has come to its end, the tree holds the values of the listed objects.
use Rattle.std.proofs.Common.{◌≡◌, Bool, true, false, cond, ◌||◌, List, [], ◌∷◌, refl, sym, ◌∙◌, ap, inl, inr, Option, Some, None, is_some, option_map}
use Rattle.std.specs.Prelude.{Contains, option_and_then}
use Rattle.std.specs.BTreeMap as maps
use Rattle.std.specs.Map.{keys_of, lookup}
use Rattle.std.specs.Ordering.{is_eq}
use Rattle.std.specs.List.{list_any}
use Rattle.std.specs.FinMap.{contains_key, get}
use Rattle.gix_hash.specs.Id.{Id, id_of}
use Rattle.gix_hash.specs.Order.{id_cmp}
use Rattle.gix_hash.specs.OrderLaws.{id_tied}
use Rattle.gix_hash.specs.declared.kind.Kind.{Kind}
use Rattle.gix_hash.specs.declared.object_id.ObjectId.{ObjectId}
use Rattle.gix_ref_file.specs.Tree.{Tree}
use Rattle.history_model.specs.Bytes.{Bytes}
use Rattle.history_model.specs.Objects.{Value, object_kind, value_text}
use Rattle.history_model.specs.Places.{file_at}
use Rattle.history_model.specs.Repository.{HaveOwnIds, Values}
use Rattle.history_model.specs.StandsFor.{value_files}
use Rattle.history_model.proofs.IdLemmas.{one_id}
use Rattle.history_model.proofs.PlaceLemmas.{file_at_id, file_has_id}
use Rattle.history_model.proofs.WholeLists.{clash, none_is_some}
use Rattle.history_texts.specs.IdLists.{is_one_of}
use Rattle.std.proofs.lemmas.Option.{same_Some}
use Rattle.history_check_objects.specs.Stored.{at_id, fact_noted, fact_of, facts_in, ids_in, target_of}
use Rattle.history_check_objects.specs.Surveyed.{IsWholePart}
use Rattle.history_check_objects.specs.Surveying.{Stands, Unmet, by_id}
use Rattle.history_check_objects.specs.declared.stored.Done.{Done}
use Rattle.history_check_objects.specs.declared.stored.Stored.{Stored}

module _ (kind : Kind) (tree : Tree) (ids : List ObjectId) (unmet : Unmet) (done : Stored) (s : Stands kind tree ids unmet done [] None) (ended : unmet.keys ≡ []) where
  values : Values
  values = s.values

  own : HaveOwnIds kind s.values
  own = ((s.in_tree).sound).whole.own_ids

  is_noted : (id : ObjectId) → Contains ids id → is_some (maps.get by_id done.done id) ≡ true
  is_noted id has = elim (s.each id has) [
    | inl a ↦ clash a (ap (λ (ks : List ObjectId). list_any (maps.is_at (by_id id)) ks) ended)
    | inr (inl (x, e, f)) ↦ none_is_some x e
    | inr (inr (inl a)) ↦ absurd a
    | inr (inr (inr a)) ↦ a
  ]

  value_at : (id : ObjectId) → Contains ids id → (v : Value) × (get s.values (id_of id) ≡ Some v)
  value_at id has = noted (maps.get by_id done.done id) refl (is_noted id has)
    where
      noted : (o : Option Done) → maps.get by_id done.done id ≡ o → is_some o ≡ true → (v : Value) × (get s.values (id_of id) ≡ Some v)
      noted None e h = cc
      noted (Some d) e h = let is = s.dones id d e in (is.value, is.stored)

  file_is : (path : Bytes) → file_at tree path ≡ get (value_files kind s.values) path
  file_is path = go (file_at tree path) refl
    where
      value_there : (id : Id) (o : Option Value) → get s.values id ≡ o → (t : Bytes) → option_map (value_text kind) o ≡ Some t → (v : Value) × (get s.values id ≡ Some v)
      value_there id None e t h = cc
      value_there id (Some v) e t h = (v, e)

      no_file : (o : Option Bytes) → get (value_files kind s.values) path ≡ o → file_at tree path ≡ None → o ≡ None
      no_file None e none = refl
      no_file (Some t) e none =
          let at = file_has_id kind s.values own path t e in
          let there = value_there at.0 (get s.values at.0) refl t (sym (file_at_id kind s.values own at.0 at.1) ∙ ap (get (value_files kind s.values)) (sym at.2) ∙ e) in
          none_is_some (value_text kind there.0) (sym none ∙ ap (file_at tree) at.2 ∙ (s.in_tree).texts at.0 there.0 there.1)

      go : (o : Option Bytes) → file_at tree path ≡ o → file_at tree path ≡ get (value_files kind s.values) path
      go None e = e ∙ sym (no_file (get (value_files kind s.values) path) refl e)
      go (Some text) e =
          let listed = (s.listed).files path text e in
          let there = value_at listed.0 listed.1 in
          ap (file_at tree) listed.2 ∙ (s.in_tree).texts (id_of listed.0) there.0 there.1
          ∙ sym (ap (get (value_files kind s.values)) listed.2 ∙ file_at_id kind s.values own (id_of listed.0) ((s.listed).formed listed.0 listed.1) ∙ ap (option_map (value_text kind)) there.1)

  -- an id with something in a map is a key of it
  some_key : {X : Type 0} (es : List (ObjectId × X)) (id : Id) (x : X) → lookup (λ (own : ObjectId). is_eq (id_cmp id (id_of own))) es ≡ Some x → (own : ObjectId) × (id ≡ id_of own)
  some_key [] id x h = none_is_some x h
  some_key (e ∷ es) id x h = go (is_eq (id_cmp id (id_of e.0))) refl h (λ k. some_key es id x k)
    where
      go : (b : Bool) → is_eq (id_cmp id (id_of e.0)) ≡ b → cond b (Some e.1) (lookup (λ (own : ObjectId). is_eq (id_cmp id (id_of own))) es) ≡ Some x
          → (lookup (λ (own : ObjectId). is_eq (id_cmp id (id_of own))) es ≡ Some x → (own : ObjectId) × (id ≡ id_of own)) → (own : ObjectId) × (id ≡ id_of own)
      go true same h rest = (e.0, one_id id (id_of e.0) (id_tied id (id_of e.0) ∙ same))
      go false other h rest = rest h

  told_at : (own : ObjectId) (v : Value) → get s.values (id_of own) ≡ Some v → (o : Option Done) → maps.get by_id done.done own ≡ o → is_some o ≡ true → option_map (fact_noted (maps.get by_id done.tags own)) o ≡ Some (fact_of v)
  told_at own v at None e h = cc
  told_at own v at (Some d) e h =
      let is = s.dones own d e in
      let same = same_Some is.value v (sym is.stored ∙ at) in
      ap Some (λ i. record { kind = (sym is.of_kind ∙ ap object_kind same) i; target = (s.tags own ∙ ap (option_and_then target_of) at) i })

  told : (id : Id) → facts_in done id ≡ option_map fact_of (get s.values id)
  told id = go (get s.values id) refl
    where
      none : (o : Option Done) → at_id done.done id ≡ o → get s.values id ≡ None → o ≡ None
      none None e absent = refl
      none (Some d) e absent =
          let own = some_key done.done.entries id d e in
          none_is_some ((s.dones own.0 d (ap (at_id done.done) (sym own.1) ∙ e)).value) (sym absent ∙ ap (get s.values) own.1 ∙ (s.dones own.0 d (ap (at_id done.done) (sym own.1) ∙ e)).stored)

      go : (o : Option Value) → get s.values id ≡ o → facts_in done id ≡ option_map fact_of (get s.values id)
      go None e = ap (option_map (fact_noted (at_id done.tags id))) (none (at_id done.done id) refl e) ∙ sym (ap (option_map fact_of) e)
      go (Some v) e =
          let own = s.known id v e in
          ap (facts_in done) own.2
          ∙ told_at own.0 v (ap (get s.values) (sym own.2) ∙ e) (maps.get by_id done.done own.0) refl (is_noted own.0 own.1)
          ∙ sym (ap (option_map fact_of) e)

  -- whether an id is a key is whether something is there
  key_there : {X : Type 0} (es : List (ObjectId × X)) (id : Id) → is_one_of (keys_of es) id ≡ is_some (lookup (λ (own : ObjectId). is_eq (id_cmp id (id_of own))) es)
  key_there [] id = refl
  key_there (e ∷ es) id = ap (λ b. b || is_one_of (keys_of es) id) (id_tied id (id_of e.0)) ∙ split (is_eq (id_cmp id (id_of e.0))) (key_there es id)
    where
      split : (b : Bool) → is_one_of (keys_of es) id ≡ is_some (lookup (λ (own : ObjectId). is_eq (id_cmp id (id_of own))) es)
          → (b || is_one_of (keys_of es) id) ≡ is_some (cond b (Some e.1) (lookup (λ (own : ObjectId). is_eq (id_cmp id (id_of own))) es))
      split true rest = refl
      split false rest = rest

  some_mapped : {X Y : Type 0} (f : X → Y) (o : Option X) → is_some (option_map f o) ≡ is_some o
  some_mapped f None = refl
  some_mapped f (Some x) = refl

  known_is : (id : Id) → contains_key s.values id ≡ is_one_of (ids_in done) id
  known_is id =
      sym (some_mapped fact_of (get s.values id))
      ∙ ap is_some (sym (told id))
      ∙ some_mapped (fact_noted (at_id done.tags id)) (at_id done.done id)
      ∙ sym (key_there done.done.entries id)

  pub whole_part : IsWholePart kind tree done
  whole_part = record {
    values = s.values;
    holds = record { files = file_is; folders = (s.listed).folders };
    sound = (s.in_tree).sound;
    known = known_is;
    told = told;
  }
