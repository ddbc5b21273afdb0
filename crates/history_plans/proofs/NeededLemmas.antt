-- Values of which those are left out whose text is stored, or is that of one before them.
use Rattle.std.proofs.Common.{◌≡◌, ◌⊎◌, inl, inr, refl, sym, ◌∙◌, ap, subst, Bool, true, false, cond, not, ◌&&◌, ◌||◌, List, [], ◌∷◌, ◌++◌, append_assoc, append-nil, Option, Some, None, is_some, option_map, unwrap_or, bytes_eq}
use Rattle.std.specs.Prelude.{Contains}
use Rattle.std.specs.FinMap.{get, contains_key, insert, empty}
use Rattle.std.proofs.lemmas.Bool.{or_from}
use Rattle.std.proofs.lemmas.Option.{same_Some}
use Rattle.gix_hash.specs.Id.{Id, null_id}
use Rattle.gix_hash.specs.Id as ids
use Rattle.gix_hash.specs.Order.{id_eq}
use Rattle.gix_hash.specs.declared.kind.Kind.{Kind}
use Rattle.gix_object_lookup.specs.Existing.{Stands}
use Rattle.gix_object_lookup.specs.Table.{Object}
use Rattle.history_model.specs.Bytes.{Bytes}
use Rattle.history_model.specs.Objects.{Value, StoredFolder, content_of, digest, empty_tree_id, id_of, object_kind, object_text, value_text}
use Rattle.history_model.specs.Meaning.{is_other, is_taken, some_taken, store_all, store_one}
use Rattle.history_model.specs.Repository.{IsWholeStore, Repository, Values}
use Rattle.history_model.proofs.IdLemmas.{get_with_id, id_itself}
use Rattle.history_model.proofs.PartLemmas.{head_same, tail_same}
use Rattle.history_model.proofs.PlaceLemmas.{text_itself}
use Rattle.history_model.proofs.WholeLists.{In, in_either, in_left, in_right}
use Rattle.history_model.proofs.WholeSteps.{contains_in, in_contains}
use Rattle.history_model.proofs.WholeStores.{all_keep, all_near, none_reserved}
use Rattle.history_layout.specs.Passing.{StoresWhole}
use Rattle.history_layout.specs.TreeHalves.{HoldsValues}
use Rattle.history_layout.specs.TreeSteps.{HasText, StoresAlike}
use Rattle.history_layout.proofs.AnyOrder.{stores_in_any_order}
use Rattle.history_files.specs.Laws.{table_of}
use Rattle.history_files.specs.declared.read_trees.ReadTrees.{ReadTrees}
use Rattle.history_texts.specs.declared.object.NewObject.{NewObject}
use Rattle.history_store.specs.Stores.{AreObjectsOf, IsObjectOf, text_of}
use Rattle.history_plans.specs.Needed.{AreNeeded, AreNeededOf, HasEqual, HasTextAmong, StoresSame, WasRead}
use Rattle.history_plans.proofs.Edits.{objects_joined}

-- ---- storing

regrouped : (a b c : Bool) → (a || (b || c)) ≡ ((a || b) || c)
regrouped true b c = refl
regrouped false b c = refl

module _ (kind : Kind) where
  store_joined : (base : Values) (a b : List Value) → store_all kind base (a ++ b) ≡ store_all kind (store_all kind base a) b
  store_joined base [] b = refl
  store_joined base (v ∷ a) b = store_joined (store_one kind base v) a b

  taken_joined : (base : Values) (a b : List Value) → some_taken kind base (a ++ b) ≡ (some_taken kind base a || some_taken kind (store_all kind base a) b)
  taken_joined base [] b = refl
  taken_joined base (v ∷ a) b =
      ap (λ rest. is_taken kind base v || rest) (taken_joined (store_one kind base v) a b)
      ∙ regrouped (is_taken kind base v) (some_taken kind (store_one kind base v) a) (some_taken kind (store_all kind (store_one kind base v) a) b)

  -- if something is stored under its id, storing a value changes nothing
  stored_once : (base : Values) (v : Value) → contains_key base (id_of kind v) ≡ true → store_one kind base v ≡ base
  stored_once base v has = ap (λ b. cond b base (insert base (id_of kind v) v)) has

  keys_stay : (vs : List Value) (base : Values) (q : Id) → contains_key base q ≡ true → contains_key (store_all kind base vs) q ≡ true
  keys_stay vs base q has = go (get base q) refl has
    where
      go : (o : Option Value) → get base q ≡ o → is_some o ≡ true → contains_key (store_all kind base vs) q ≡ true
      go None e h = cc
      go (Some x) e h = ap is_some (all_keep kind base vs q x e)

  own_key : (base : Values) (v : Value) → contains_key (store_one kind base v) (id_of kind v) ≡ true
  own_key base v = go (contains_key base (id_of kind v)) refl
    where
      go : (b : Bool) → contains_key base (id_of kind v) ≡ b → contains_key (cond b base (insert base (id_of kind v) v)) (id_of kind v) ≡ true
      go true has = has
      go false none = ap is_some (get_with_id base (id_of kind v) v (id_of kind v) ∙ ap (λ b. cond b (Some v) (get base (id_of kind v))) (id_itself (id_of kind v)))

  keys_there : (vs : List Value) (base : Values) (v : Value) → In v vs → contains_key (store_all kind base vs) (id_of kind v) ≡ true
  keys_there [] base v i = absurd i
  keys_there (u ∷ vs) base v (inl e) = keys_stay vs (store_one kind base u) (id_of kind v) (ap (λ w. contains_key (store_one kind base u) (id_of kind w)) e ∙ own_key base u)
  keys_there (u ∷ vs) base v (inr i) = keys_there vs (store_one kind base u) v i

  -- the id of a text is neither null nor, but for its text, the empty tree's
  abbrev IsUnreserved : Bytes → Type 0
  IsUnreserved text =
      (id_eq (digest kind text) (null_id kind) ≡ false)
      × ((id_eq (digest kind text) (empty_tree_id kind) && not (bytes_eq (value_text kind (StoredFolder empty)) text)) ≡ false)

  near_free : (base : Values) (v : Value) → IsUnreserved (value_text kind v) → HasText kind base v → is_taken kind base v ≡ false
  near_free base v fine near =
      or_from (id_eq (id_of kind v) (null_id kind) || (id_eq (id_of kind v) (empty_tree_id kind) && is_other kind (value_text kind (StoredFolder empty)) v))
      (unwrap_or (option_map (is_other kind (value_text kind v)) (get base (id_of kind v))) false)
      (or_from (id_eq (id_of kind v) (null_id kind)) (id_eq (id_of kind v) (empty_tree_id kind) && is_other kind (value_text kind (StoredFolder empty)) v) fine.0 fine.1)
      (ap (λ found. unwrap_or (option_map (is_other kind (value_text kind v)) found) false) near.1
      ∙ ap not (subst (λ text. bytes_eq (value_text kind v) text ≡ true) (sym near.2) (text_itself (value_text kind v))))

-- ---- beginnings

nothing_first : {X : Type 0} (first rest : List X) → [] ≡ first ++ rest → first ≡ []
nothing_first [] rest e = refl
nothing_first (x ∷ first) rest e = absurd (cc e)

-- a beginning of a list and one more is one of the list, or all
last_or_before : {X : Type 0} (xs : List X) (x : X) (first rest : List X) → xs ++ x ∷ [] ≡ first ++ rest → ((more : List X) × (xs ≡ first ++ more)) ⊎ (first ≡ xs ++ x ∷ [])
last_or_before xs x [] rest e = inl (xs, refl)
last_or_before [] x (y ∷ first) rest e = inr (λ i. sym (head_same e) i ∷ nothing_first first rest (tail_same e) i)
last_or_before (z ∷ xs) x (y ∷ first) rest e = elim (last_or_before xs x first rest (tail_same e)) [
  | inl more ↦ inl (more.0, λ i. head_same e i ∷ more.1 i)
  | inr all ↦ inr (λ i. sym (head_same e) i ∷ all i)
]

-- ---- one value more

module _ (r : Repository) (store : IsWholeStore r) where
  abbrev all_of : List Value → Values
  all_of values = store_all r.kind r.objects values

  abbrev taken_of : List Value → Bool
  taken_of values = some_taken r.kind r.objects values

  abbrev IsThere : List Value → Value → Type 0
  IsThere fewer v = HasTextAmong r.kind fewer v ⊎ HasText r.kind r.objects v

  -- a value whose text is stored takes no id
  stored_free : (v : Value) → HasText r.kind r.objects v → taken_of (v ∷ []) ≡ false
  stored_free v near =
      (stores_in_any_order r [] (v ∷ []) store (λ value there. absurd (contains_in [] value there))
      (λ value there. elim (contains_in (v ∷ []) value there) [ inl e ↦ inr (subst (HasText r.kind r.objects) (sym e) near) | inr none ↦ absurd none ])).taken

  there_key : (fewer : List Value) (v : Value) → IsThere fewer v → contains_key (all_of fewer) (id_of r.kind v) ≡ true
  there_key fewer v (inl like) =
      ap (λ text. contains_key (all_of fewer) (digest r.kind text)) (sym like.2) ∙ keys_there r.kind fewer r.objects like.0 (contains_in fewer like.0 like.1)
  there_key fewer v (inr near) = keys_stay r.kind fewer r.objects (id_of r.kind v) (ap is_some near.1)

  there_free : (fewer : List Value) (v : Value) → taken_of fewer ≡ false → IsThere fewer v → is_taken r.kind (all_of fewer) v ≡ false
  there_free fewer v free (inl like) =
      let i = contains_in fewer like.0 like.1 in
      let near = all_near r.kind r.objects fewer free like.0 i in
      near_free r.kind (all_of fewer) v (subst (IsUnreserved r.kind) like.2 (none_reserved r.kind r.objects fewer free like.0 i))
      (near.0, ap (λ text. get (all_of fewer) (digest r.kind text)) (sym like.2) ∙ near.1, near.2 ∙ like.2)
  there_free fewer v free (inr near) =
      near_free r.kind (all_of fewer) v (none_reserved r.kind r.objects (v ∷ []) (stored_free v near) v (inl refl))
      (near.0, all_keep r.kind r.objects fewer (id_of r.kind v) near.0 near.1, near.2)

  module _ (values fewer : List Value) (v : Value) (same : StoresSame r values fewer) where
    abbrev last : Bool
    last = some_taken r.kind (all_of values) (v ∷ [])

    -- it is left out
    left_same : IsThere fewer v → StoresSame r (values ++ v ∷ []) fewer
    left_same there = record {
      taken = by_test (taken_of fewer) refl;
      stored = sym (stored_once r.kind (all_of fewer) v (there_key fewer v there)) ∙ ap (λ base. store_one r.kind base v) same.stored ∙ sym (store_joined r.kind r.objects values (v ∷ []));
    }
      where
        none_last : taken_of fewer ≡ false → last ≡ false
        none_last free = ap (λ base. some_taken r.kind base (v ∷ [])) (sym same.stored) ∙ or_from (is_taken r.kind (all_of fewer) v) false (there_free fewer v free there) refl

        joined : taken_of (values ++ v ∷ []) ≡ (taken_of values || last)
        joined = taken_joined r.kind r.objects values (v ∷ [])

        by_test : (b : Bool) → taken_of fewer ≡ b → taken_of fewer ≡ taken_of (values ++ v ∷ [])
        by_test true e = e ∙ ap (λ b. b || last) (sym e ∙ same.taken) ∙ sym joined
        by_test false e = e ∙ sym (none_last e) ∙ ap (λ b. b || last) (sym e ∙ same.taken) ∙ sym joined

    -- it stays
    kept_same : StoresSame r (values ++ v ∷ []) (fewer ++ v ∷ [])
    kept_same = record {
      taken = taken_joined r.kind r.objects fewer (v ∷ []) ∙ (λ i. same.taken i || some_taken r.kind (same.stored i) (v ∷ [])) ∙ sym (taken_joined r.kind r.objects values (v ∷ []));
      stored = store_joined r.kind r.objects fewer (v ∷ []) ∙ ap (λ base. store_one r.kind base v) same.stored ∙ sym (store_joined r.kind r.objects values (v ∷ []));
    }

    begins_whole : StoresWhole r (values ++ v ∷ []) → StoresWhole r values
    begins_whole whole first rest split free = whole first (rest ++ v ∷ []) (ap (λ l. l ++ v ∷ []) split ∙ append_assoc first rest (v ∷ [])) free

    kept_whole : (StoresWhole r values → StoresWhole r fewer) → StoresWhole r (values ++ v ∷ []) → StoresWhole r (fewer ++ v ∷ [])
    kept_whole front whole first rest split free = elim (last_or_before fewer v first rest split) [
      | inl more ↦ front (begins_whole whole) first more.0 more.1 free
      | inr all ↦
          let none : taken_of (values ++ v ∷ []) ≡ false = sym kept_same.taken ∙ ap taken_of (sym all) ∙ free in
          subst (λ (objects : Values). IsWholeStore (record r { objects = objects })) (sym kept_same.stored ∙ ap all_of (sym all))
          (whole (values ++ v ∷ []) [] (sym (append-nil (values ++ v ∷ []))) none)
    ]

  -- ---- with their objects

  text_is : (v : Value) (object : NewObject) → IsObjectOf r.kind v object → value_text r.kind v ≡ text_of object
  text_is v object is = λ i. object_text (sym is.kind i) (sym is.content i)

  of_object : (values : List Value) (objects : List NewObject) → AreObjectsOf r.kind values objects → (object : NewObject) → In object objects → (v : Value) × In v values × IsObjectOf r.kind v object
  of_object [] [] are object i = absurd i
  of_object [] (o ∷ objects) are object i = absurd are
  of_object (v ∷ values) [] are object i = absurd i
  of_object (v ∷ values) (o ∷ objects) are object (inl e) = (v, inl refl, subst (IsObjectOf r.kind v) (sym e) are.0)
  of_object (v ∷ values) (o ∷ objects) are object (inr i) = let rest = of_object values objects are.1 object i in (rest.0, inr rest.1, rest.2)

  -- the text of an object that is equal to one of these is among their values'
  equal_among : (values : List Value) (objects : List NewObject) → AreObjectsOf r.kind values objects → (v : Value) (object : NewObject) → IsObjectOf r.kind v object → HasEqual objects object → HasTextAmong r.kind values v
  equal_among values objects are v object is equal =
      let from = of_object values objects are equal.0 (contains_in objects equal.0 equal.1) in
      (from.0, in_contains values from.0 from.1, text_is from.0 equal.0 from.2 ∙ equal.2 ∙ sym (text_is v object is))

  abbrev as_object : Value → Object
  as_object value = record { kind = object_kind value; content = content_of r.kind value }

  -- that of one that was read is stored
  read_near : (v : Value) (object : NewObject) → IsObjectOf r.kind v object → Stands (table_of r) (ids.id_of object.id) object.kind object.content.items → HasText r.kind r.objects v
  read_near v object is stands = go (get r.objects (id_of r.kind v)) refl (ap (table_of r) (sym is.id) ∙ stands)
    where
      go : (o : Option Value) → get r.objects (id_of r.kind v) ≡ o → option_map as_object o ≡ Some (record { kind = object.kind; content = object.content.items }) → HasText r.kind r.objects v
      go None e h = absurd (cc h)
      go (Some other) e h =
          let same = same_Some (as_object other) (record { kind = object.kind; content = object.content.items }) h in
          (other, e, ap (λ (o : Object). object_text o.kind o.content) same ∙ sym (text_is v object is))

  pub none_needed : AreNeeded r [] []
  none_needed = record {
    fewer = [];
    objects_are = tt;
    among = λ value there. there;
    all = λ value there. absurd (contains_in [] value there);
    same = record { taken = refl; stored = refl };
    whole = λ whole. whole;
  }

  module _ (values : List Value) (objects : List NewObject) (v : Value) (h : AreNeeded r values objects) where
    grown : (value : Value) → Contains values value → Contains (values ++ v ∷ []) value
    grown value there = in_contains (values ++ v ∷ []) value (in_left value values (v ∷ []) (contains_in values value there))

    pub needed_left : IsThere h.fewer v → AreNeeded r (values ++ v ∷ []) objects
    needed_left here = record {
      fewer = h.fewer;
      objects_are = h.objects_are;
      among = λ value there. grown value (h.among value there);
      all = λ value there. elim (in_either value values (v ∷ []) (contains_in (values ++ v ∷ []) value there)) [
        | inl a ↦ h.all value (in_contains values value a)
        | inr (inl e) ↦ subst (IsThere h.fewer) (sym e) here
        | inr (inr none) ↦ absurd none
      ];
      same = left_same values h.fewer v h.same here;
      whole = λ whole. h.whole (begins_whole values h.fewer v h.same whole);
    }

    more : (value : Value) → In value h.fewer → In value (h.fewer ++ v ∷ [])
    more value i = in_left value h.fewer (v ∷ []) i

    pub needed_kept : (object : NewObject) → IsObjectOf r.kind v object → AreNeeded r (values ++ v ∷ []) (objects ++ object ∷ [])
    needed_kept object is = record {
      fewer = h.fewer ++ v ∷ [];
      objects_are = objects_joined r.kind h.fewer (v ∷ []) objects (object ∷ []) h.objects_are (is, tt);
      among = λ value there. elim (in_either value h.fewer (v ∷ []) (contains_in (h.fewer ++ v ∷ []) value there)) [
        | inl a ↦ grown value (h.among value (in_contains h.fewer value a))
        | inr b ↦ in_contains (values ++ v ∷ []) value (in_right value values (v ∷ []) b)
      ];
      all = λ value there. elim (in_either value values (v ∷ []) (contains_in (values ++ v ∷ []) value there)) [
        | inl a ↦ elim (h.all value (in_contains values value a)) [
          | inl like ↦ inl (like.0, in_contains (h.fewer ++ v ∷ []) like.0 (more like.0 (contains_in h.fewer like.0 like.1)), like.2)
          | inr near ↦ inr near
        ]
        | inr b ↦ inl (value, in_contains (h.fewer ++ v ∷ []) value (in_right value h.fewer (v ∷ []) b), refl)
      ];
      same = kept_same values h.fewer v h.same;
      whole = kept_whole values h.fewer v h.same h.whole;
    }

-- ---- one object more

-- the value of the last object, after those of the others
record Last (kind : Kind) (values : List Value) (objects : List NewObject) (object : NewObject) : Type 0 where
  front : List Value
  value : Value
  split : values ≡ front ++ value ∷ []
  are : AreObjectsOf kind front objects
  is : IsObjectOf kind value object

last_value : (kind : Kind) (values : List Value) (objects : List NewObject) (object : NewObject) → AreObjectsOf kind values (objects ++ object ∷ []) → Last kind values objects object
last_value kind [] [] object are = absurd are
last_value kind [] (o ∷ objects) object are = absurd are
last_value kind (v ∷ []) [] object are = record { front = []; value = v; split = refl; are = tt; is = are.0 }
last_value kind (v ∷ w ∷ values) [] object are = absurd are.1
last_value kind (v ∷ values) (o ∷ objects) object are =
    let rest = last_value kind values objects object are.1 in
    record { front = v ∷ rest.front; value = rest.value; split = ap (λ vs. v ∷ vs) rest.split; are = (are.0, rest.are); is = rest.is }

module _ (read : ReadTrees) where
  pub none_of : (objects needed : List NewObject) → objects ≡ [] → needed ≡ [] → AreNeededOf read objects needed
  none_of objects needed none nothing = λ r values store trees are.
      subst (AreNeeded r values) (sym nothing) (of_none r store values (subst (AreObjectsOf r.kind values) none are))
    where
      of_none : (r : Repository) → IsWholeStore r → (values : List Value) → AreObjectsOf r.kind values [] → AreNeeded r values []
      of_none r store [] are = none_needed r store
      of_none r store (v ∷ values) are = absurd are

  module _ (objects needed : List NewObject) (object : NewObject) (h : AreNeededOf read objects needed) where
    pub stays : (more : List NewObject) → more ≡ needed ++ object ∷ [] → AreNeededOf read (objects ++ object ∷ []) more
    stays more added = λ r values store trees are.
        let last = last_value r.kind values objects object are in
        subst (λ (vs : List Value). AreNeeded r vs more) (sym last.split)
        (subst (AreNeeded r (last.front ++ last.value ∷ [])) (sym added) (needed_kept r store last.front needed last.value (h r last.front store trees last.are) object last.is))

    -- it is equal to one before it, or was read
    pub goes : HasEqual needed object ⊎ WasRead read object → AreNeededOf read (objects ++ object ∷ []) needed
    goes here = λ r values store trees are.
        let last = last_value r.kind values objects object are in
        let before = h r last.front store trees last.are in
        subst (λ (vs : List Value). AreNeeded r vs needed) (sym last.split)
        (needed_left r store last.front needed last.value before (elim here [
          | inl equal ↦ inl (equal_among r store before.fewer needed before.objects_are last.value object last.is equal)
          | inr stands ↦ inr (read_near r store last.value object last.is (stands r trees))
        ]))

-- ---- all

-- Values each of which has its text among these, or stored, store alike.
module _ (r : Repository) (store : IsWholeStore r) (fewer : List Value) where
  all_left : (values front : List Value) → StoresSame r front fewer → ((value : Value) → In value values → HasTextAmong r.kind fewer value ⊎ HasText r.kind r.objects value) → StoresSame r (front ++ values) fewer
  all_left [] front same there = subst (λ vs. StoresSame r vs fewer) (sym (append-nil front)) same
  all_left (v ∷ values) front same there =
      subst (λ vs. StoresSame r vs fewer) (append_assoc front (v ∷ []) values)
      (all_left values (front ++ v ∷ []) (left_same r store front fewer v same (there v (inl refl))) (λ value i. there value (inr i)))

  pub stores_alike : (values : List Value) → ((value : Value) → Contains fewer value → Contains values value)
      → ((value : Value) → Contains values value → HasTextAmong r.kind fewer value ⊎ HasText r.kind r.objects value) → StoresAlike r.kind r.objects fewer values
  stores_alike values among all =
      let same = all_left values fewer (record { taken = refl; stored = refl }) (λ value i. all value (in_contains values value i)) in
      let alike = stores_in_any_order r (fewer ++ values) values store
      (λ value there. elim (in_either value fewer values (contains_in (fewer ++ values) value there)) [
        | inl a ↦ among value (in_contains fewer value a)
        | inr b ↦ in_contains values value b
      ])
      (λ value there. inl (in_contains (fewer ++ values) value (in_right value fewer values (contains_in values value there)))) in
      record {
        taken = alike.taken ∙ sym same.taken;
        holds = λ tree free held. alike.holds tree (sym same.taken ∙ free) (subst (HoldsValues r.kind tree) same.stored held);
        ids = λ id free. alike.ids id (sym same.taken ∙ free) ∙ ap (λ (values : Values). contains_key values id) (sym same.stored);
      }
