-- Values may be stored in any order, and those left out whose text is stored.
use Rattle.std.proofs.Common.{◌≡◌, ◌⊎◌, inl, inr, Bool, true, false, cond, not, ◌&&◌, ◌||◌, List, [], ◌∷◌, refl, sym, ◌∙◌, ap, subst, Option, Some, None, is_some, option_map, unwrap_or, bytes_eq}
use Rattle.std.specs.FinMap.{get, contains_key, insert, empty}
use Rattle.gix_hash.specs.declared.kind.Kind.{Kind}
use Rattle.gix_hash.specs.Id.{Id, null_id}
use Rattle.gix_hash.specs.Order.{id_eq}
use Rattle.history_model.specs.Objects.{Value, StoredFolder, value_text, id_of, empty_tree_id}
use Rattle.history_model.specs.Meaning.{store_one, store_all, is_other, is_taken, some_taken}
use Rattle.history_model.specs.Repository.{Repository, IsWholeStore, Values, HaveOwnIds}
use Rattle.history_layout.specs.TreeSteps.{HasText, StoresInAnyOrder}
use Rattle.history_model.proofs.IdLemmas.{one_id, get_with_id}
use Rattle.history_model.proofs.PlaceLemmas.{text_itself, one_text, alike_file}
use Rattle.history_layout.proofs.TreePuts.{own_ids_stay}
use Rattle.history_model.proofs.WholeLists.{In}
use Rattle.history_model.proofs.WholeSteps.{contains_in, in_contains}
use Rattle.std.proofs.lemmas.Bool.{not-false, or_from, or_parts}

module _ (kind : Kind) where
  -- an id that no value may have, or the empty tree's alone
  abbrev is_kept : Value → Bool
  is_kept value = id_eq (id_of kind value) (null_id kind) || (id_eq (id_of kind value) (empty_tree_id kind) && is_other kind (value_text kind (StoredFolder empty)) value)

  -- another text is stored under the value's id
  abbrev is_unlike : Value → Option Value → Bool
  is_unlike value found = unwrap_or (option_map (is_other kind (value_text kind value)) found) false

  -- ---- one value

  get_one : (base : Values) (value : Value) (id : Id)
      → get (store_one kind base value) id ≡ cond (contains_key base (id_of kind value)) (get base id) (cond (id_eq id (id_of kind value)) (Some value) (get base id))
  get_one base value id = by_test (contains_key base (id_of kind value))
    where
      by_test : (b : Bool) → get (cond b base (insert base (id_of kind value) value)) id ≡ cond b (get base id) (cond (id_eq id (id_of kind value)) (Some value) (get base id))
      by_test true = refl
      by_test false = get_with_id base (id_of kind value) value id

  -- what is stored under an id after a value is stored was so before, or is the value
  after_one : (base : Values) (value : Value) (id : Id) (found : Value) → get (store_one kind base value) id ≡ Some found → (get base id ≡ Some found) ⊎ ((found ≡ value) × (id ≡ id_of kind value))
  after_one base value id found at = by_tests (contains_key base (id_of kind value)) (id_eq id (id_of kind value)) refl (sym (get_one base value id) ∙ at)
    where
      some_same : {X : Type 0} {x y : X} → Some x ≡ Some y → y ≡ x
      some_same e = cc

      by_tests : (b c : Bool) → id_eq id (id_of kind value) ≡ c → cond b (get base id) (cond c (Some value) (get base id)) ≡ Some found → (get base id ≡ Some found) ⊎ ((found ≡ value) × (id ≡ id_of kind value))
      by_tests true c e h = inl h
      by_tests false true e h = inr (some_same h, one_id id (id_of kind value) e)
      by_tests false false e h = inl h

  -- what was stored is still stored
  stays_one : (base : Values) (value : Value) (id : Id) (found : Value) → get base id ≡ Some found → get (store_one kind base value) id ≡ Some found
  stays_one base value id found at = get_one base value id ∙ by_tests (contains_key base (id_of kind value)) refl (id_eq id (id_of kind value)) refl
    where
      by_tests : (b : Bool) → contains_key base (id_of kind value) ≡ b → (c : Bool) → id_eq id (id_of kind value) ≡ c → cond b (get base id) (cond c (Some value) (get base id)) ≡ Some found
      by_tests true has c e = at
      by_tests false none true e =
          let wrong : true ≡ false = ap is_some (sym at ∙ ap (get base) (one_id id (id_of kind value) e)) ∙ none in absurd (cc wrong)
      by_tests false none false e = at

  stays_all : (more : List Value) (base : Values) (id : Id) (found : Value) → get base id ≡ Some found → get (store_all kind base more) id ≡ Some found
  stays_all [] base id found at = at
  stays_all (value ∷ more) base id found at = stays_all more (store_one kind base value) id found (stays_one base value id found at)

  -- after a value whose id isn't taken is stored, its text is stored under its id
  stands_then : (base : Values) (value : Value) → is_unlike value (get base (id_of kind value)) ≡ false → (found : Value) × (get (store_one kind base value) (id_of kind value) ≡ Some found) × (value_text kind value ≡ value_text kind found)
  stands_then base value free = by_found (get base (id_of kind value)) refl free
    where
      by_found : (o : Option Value) → get base (id_of kind value) ≡ o → is_unlike value o ≡ false → (found : Value) × (get (store_one kind base value) (id_of kind value) ≡ Some found) × (value_text kind value ≡ value_text kind found)
      by_found (Some found) at alike = (found, stays_one base value (id_of kind value) found at, one_text (value_text kind value) (value_text kind found) (not-false _ alike))
      by_found None at alike = (
        value,
        get_one base value (id_of kind value) ∙ (λ i. cond (is_some (at i)) (get base (id_of kind value)) (cond (id_eq (id_of kind value) (id_of kind value)) (Some value) (get base (id_of kind value))))
            ∙ ap (λ b. cond b (Some value) (get base (id_of kind value))) (Rattle.history_model.proofs.IdLemmas.id_itself (id_of kind value)),
        refl,
      )

  -- ---- values none of which has a taken id

  record Fits (base : Values) (more : List Value) : Type 0 where
    unkept : (value : Value) → In value more → is_kept value ≡ false
    base_agrees : (value found : Value) → In value more → get base (id_of kind value) ≡ Some found → value_text kind value ≡ value_text kind found
    agree : (value other : Value) → In value more → In other more → id_of kind value ≡ id_of kind other → value_text kind value ≡ value_text kind other

  alike_found : (value : Value) (o : Option Value) → is_unlike value o ≡ false → (found : Value) → o ≡ Some found → value_text kind value ≡ value_text kind found
  alike_found value None free found e = absurd cc
  alike_found value (Some known) free found e = one_text (value_text kind value) (value_text kind known) (not-false _ free) ∙ ap (value_text kind) (same e)
    where
      same : {X : Type 0} {x y : X} → Some x ≡ Some y → x ≡ y
      same e = cc

  fits_both : (base : Values) (first : Value) (more : List Value) → (is_kept first ≡ false) × (is_unlike first (get base (id_of kind first)) ≡ false) → Fits (store_one kind base first) more → Fits base (first ∷ more)
  fits_both base first more first_free rest = record {
    unkept = λ value i. elim i [ inl e ↦ ap is_kept e ∙ first_free.0 | inr j ↦ rest.unkept value j ];
    base_agrees = λ value found i at. elim i [
      | inl e ↦ ap (value_text kind) e ∙ alike_found first (get base (id_of kind first)) first_free.1 found (ap (λ v. get base (id_of kind v)) (sym e) ∙ at)
      | inr j ↦ rest.base_agrees value found j (stays_one base first (id_of kind value) found at)
    ];
    agree = λ value other i j same. elim i [
      | inl e ↦ elim j [
        | inl f ↦ ap (value_text kind) (e ∙ sym f)
        | inr l ↦ ap (value_text kind) e ∙ with_first other l (ap (id_of kind) (sym e) ∙ same)
      ]
      | inr k ↦ elim j [
        | inl f ↦ sym (with_first value k (ap (id_of kind) (sym f) ∙ sym same)) ∙ ap (value_text kind) (sym f)
        | inr l ↦ rest.agree value other k l same
      ]
    ];
  }
    where
      with_first : (other : Value) → In other more → id_of kind first ≡ id_of kind other → value_text kind first ≡ value_text kind other
      with_first other l same =
          let stood = stands_then base first first_free.1 in
          stood.2 ∙ sym (rest.base_agrees other stood.0 l (ap (get (store_one kind base first)) (sym same) ∙ stood.1))

  fits_from : (more : List Value) (base : Values) → some_taken kind base more ≡ false → Fits base more
  fits_from [] base free = record { unkept = λ value i. absurd i; base_agrees = λ value found i at. absurd i; agree = λ value other i j e. absurd i }
  fits_from (first ∷ more) base free =
      let halves = or_parts (is_taken kind base first) (some_taken kind (store_one kind base first) more) free in
      fits_both base first more (or_parts (is_kept first) (is_unlike first (get base (id_of kind first))) halves.0) (fits_from more (store_one kind base first) halves.1)

  not_unlike : (value : Value) (o : Option Value) → ((found : Value) → o ≡ Some found → value_text kind value ≡ value_text kind found) → is_unlike value o ≡ false
  not_unlike value None same = refl
  not_unlike value (Some found) same = ap not (subst (λ text. bytes_eq (value_text kind value) text ≡ true) (same found refl) (text_itself (value_text kind value)))

  fits_rest : (first : Value) (more : List Value) (base : Values) → Fits base (first ∷ more) → Fits (store_one kind base first) more
  fits_rest first more base h = record {
    unkept = λ value i. h.unkept value (inr i);
    base_agrees = λ value found i at. elim (after_one base first (id_of kind value) found at) [
      | inl stood ↦ h.base_agrees value found (inr i) stood
      | inr came ↦ h.agree value first (inr i) (inl refl) came.1 ∙ ap (value_text kind) (sym came.0)
    ];
    agree = λ value other i j same. h.agree value other (inr i) (inr j) same;
  }

  fits_to : (more : List Value) (base : Values) → Fits base more → some_taken kind base more ≡ false
  fits_to [] base h = refl
  fits_to (first ∷ more) base h =
      or_from (is_taken kind base first) (some_taken kind (store_one kind base first) more)
      (or_from (is_kept first) (is_unlike first (get base (id_of kind first))) (h.unkept first (inl refl))
      (not_unlike first (get base (id_of kind first)) (λ found at. h.base_agrees first found (inl refl) at)))
      (fits_to more (store_one kind base first) (fits_rest first more base h))

  -- ---- what is stored under an id then

  text_under : (more : List Value) (base : Values) → Fits base more → (value : Value) → In value more → option_map (value_text kind) (get (store_all kind base more) (id_of kind value)) ≡ Some (value_text kind value)
  text_under [] base h value i = absurd i
  text_under (first ∷ more) base h value (inl e) =
      let stood = stands_then base first (not_unlike first (get base (id_of kind first)) (λ found at. h.base_agrees first found (inl refl) at)) in
      ap (λ v. option_map (value_text kind) (get (store_all kind (store_one kind base first) more) (id_of kind v))) e
      ∙ ap (option_map (value_text kind)) (stays_all more (store_one kind base first) (id_of kind first) stood.0 stood.1)
      ∙ ap Some (sym stood.2 ∙ ap (value_text kind) (sym e))
  text_under (first ∷ more) base h value (inr i) = text_under more (store_one kind base first) (fits_rest first more base h) value i

  none_under : (more : List Value) (base : Values) (id : Id) → ((value : Value) → In value more → id_eq id (id_of kind value) ≡ false) → get (store_all kind base more) id ≡ get base id
  none_under [] base id none = refl
  none_under (first ∷ more) base id none =
      none_under more (store_one kind base first) id (λ value i. none value (inr i))
      ∙ get_one base first id ∙ (λ i. cond (contains_key base (id_of kind first)) (get base id) (cond (none first (inl refl) i) (Some first) (get base id)))
      ∙ either_way (contains_key base (id_of kind first))
    where
      either_way : (b : Bool) → cond b (get base id) (get base id) ≡ get base id
      either_way true = refl
      either_way false = refl

  -- one of the values has the id, or none
  sought : (more : List Value) (id : Id) → ((value : Value) × In value more × (id ≡ id_of kind value)) ⊎ ((value : Value) → In value more → id_eq id (id_of kind value) ≡ false)
  sought [] id = inr (λ value i. absurd i)
  sought (first ∷ more) id = by_first (id_eq id (id_of kind first)) refl (sought more id)
    where
      by_first : (b : Bool) → id_eq id (id_of kind first) ≡ b → ((value : Value) × In value more × (id ≡ id_of kind value)) ⊎ ((value : Value) → In value more → id_eq id (id_of kind value) ≡ false)
          → ((value : Value) × In value (first ∷ more) × (id ≡ id_of kind value)) ⊎ ((value : Value) → In value (first ∷ more) → id_eq id (id_of kind value) ≡ false)
      by_first true e later = inl (first, inl refl, one_id id (id_of kind first) e)
      by_first false e (inl found) = inl (found.0, inr found.1, found.2)
      by_first false e (inr none) = inr (λ value i. elim i [ inl f ↦ ap (λ v. id_eq id (id_of kind v)) f ∙ e | inr j ↦ none value j ])

  -- ---- two orders, of which one may lack what is stored already

  module _ (base : Values) (more others : List Value) (there : (value : Value) → In value more → In value others)
      (back : (value : Value) → In value others → In value more ⊎ HasText kind base value) (free : (value : Value) → HasText kind base value → is_kept value ≡ false) where
    fits_less : Fits base others → Fits base more
    fits_less h = record {
      unkept = λ value i. h.unkept value (there value i);
      base_agrees = λ value found i at. h.base_agrees value found (there value i) at;
      agree = λ value other i j same. h.agree value other (there value i) (there other j) same;
    }

    some_same : {X : Type 0} {x y : X} → Some x ≡ Some y → x ≡ y
    some_same e = cc

    -- a value whose text is stored has the text of what is found under its id
    stood_agrees : (value found : Value) → HasText kind base value → get base (id_of kind value) ≡ Some found → value_text kind value ≡ value_text kind found
    stood_agrees value found has at = sym has.2 ∙ ap (value_text kind) (some_same (sym has.1 ∙ at))

    fits_more : Fits base more → Fits base others
    fits_more h = record {
      unkept = λ value i. elim (back value i) [ inl a ↦ h.unkept value a | inr b ↦ free value b ];
      base_agrees = λ value found i at. elim (back value i) [ inl a ↦ h.base_agrees value found a at | inr b ↦ stood_agrees value found b at ];
      agree = λ value other i j same. elim (back value i) [
        | inl a ↦ elim (back other j) [
          | inl c ↦ h.agree value other a c same
          | inr d ↦ h.base_agrees value d.0 a (ap (get base) same ∙ d.1) ∙ d.2
        ]
        | inr b ↦ elim (back other j) [
          | inl c ↦ sym b.2 ∙ sym (h.base_agrees other b.0 c (ap (get base) (sym same) ∙ b.1))
          | inr d ↦ stood_agrees value d.0 b (ap (get base) same ∙ d.1) ∙ d.2
        ]
      ];
    }

    -- what is found under a value's id then has its text
    text_there : Fits base more → (value : Value) → In value others → option_map (value_text kind) (get (store_all kind base more) (id_of kind value)) ≡ Some (value_text kind value)
    text_there h value i = elim (back value i) [
      | inl a ↦ text_under more base h value a
      | inr b ↦ ap (option_map (value_text kind)) (stays_all more base (id_of kind value) b.0 b.1) ∙ ap Some b.2
    ]

    texts_alike : Fits base more → (id : Id) → option_map (value_text kind) (get (store_all kind base more) id) ≡ option_map (value_text kind) (get (store_all kind base others) id)
    texts_alike h id = elim (sought others id) [
      | inl found ↦
          let here = text_there h found.0 found.1 in
          let beside = text_under others base (fits_more h) found.0 found.1 in
          ap (λ q. option_map (value_text kind) (get (store_all kind base more) q)) found.2 ∙ here ∙ sym beside
          ∙ ap (λ q. option_map (value_text kind) (get (store_all kind base others) q)) (sym found.2)
      | inr none ↦ ap (option_map (value_text kind)) (none_under more base id (λ value i. none value (there value i)) ∙ sym (none_under others base id none))
    ]

own_ids_all : (kind : Kind) (more : List Value) (values : Values) → HaveOwnIds kind values → HaveOwnIds kind (store_all kind values more)
own_ids_all kind [] values own = own
own_ids_all kind (value ∷ more) values own = own_ids_all kind more (store_one kind values value) (own_ids_stay kind values value own)

both_free : (a b : Bool) → (a ≡ false → b ≡ false) → (b ≡ false → a ≡ false) → b ≡ a
both_free true true f g = refl
both_free true false f g = let wrong : true ≡ false = g refl in absurd (cc wrong)
both_free false b f g = f refl

is_some_text : (kind : Kind) (o : Option Value) → is_some o ≡ is_some (option_map (value_text kind) o)
is_some_text kind None = refl
is_some_text kind (Some value) = refl

-- A value whose text is in a whole store has neither the null id nor, but for the empty tree, the
-- empty tree's.
module _ (r : Repository) (whole : IsWholeStore r) where
  stood_free : (value : Value) → HasText r.kind r.objects value → is_kept r.kind value ≡ false
  stood_free value has = or_from (id_eq (id_of r.kind value) (null_id r.kind)) (id_eq (id_of r.kind value) (empty_tree_id r.kind) && is_other r.kind (value_text r.kind (StoredFolder empty)) value)
      (not_null (id_eq (id_of r.kind value) (null_id r.kind)) refl)
      (not_empty (id_eq (id_of r.kind value) (empty_tree_id r.kind)) refl)
    where
      not_null : (b : Bool) → id_eq (id_of r.kind value) (null_id r.kind) ≡ b → b ≡ false
      not_null false e = refl
      not_null true e =
          let wrong : None ≡ Some has.0 = sym whole.null ∙ ap (get r.objects) (sym (one_id (id_of r.kind value) (null_id r.kind) e)) ∙ has.1 in
          cc wrong

      not_empty : (b : Bool) → id_eq (id_of r.kind value) (empty_tree_id r.kind) ≡ b → (b && is_other r.kind (value_text r.kind (StoredFolder empty)) value) ≡ false
      not_empty false e = refl
      not_empty true e =
          let is = whole.empty_tree has.0 (ap (get r.objects) (sym (one_id (id_of r.kind value) (empty_tree_id r.kind) e)) ∙ has.1) in
          let same : value_text r.kind (StoredFolder empty) ≡ value_text r.kind value = ap (value_text r.kind) (sym is) ∙ has.2 in
          ap not (subst (λ text. bytes_eq (value_text r.kind (StoredFolder empty)) text ≡ true) same (text_itself (value_text r.kind (StoredFolder empty))))

pub stores_in_any_order : StoresInAnyOrder
stores_in_any_order r more others whole fewer rest = record {
  taken = both_free (some_taken r.kind r.objects more) (some_taken r.kind r.objects others)
      (λ free. fits_to r.kind others r.objects (fits_more r.kind r.objects more others there back (stood_free r whole) (fits_from r.kind more r.objects free)))
      (λ free. fits_to r.kind more r.objects (fits_less r.kind r.objects more others there back (stood_free r whole) (fits_from r.kind others r.objects free)));
  holds = λ tree free h. record {
    files = λ path. h.files path ∙ alike_file r.kind (store_all r.kind r.objects more) (store_all r.kind r.objects others) (own_ids_all r.kind more r.objects whole.own_ids) (own_ids_all r.kind others r.objects whole.own_ids) path
        (λ id is at. texts_alike r.kind r.objects more others there back (stood_free r whole) (fits_from r.kind more r.objects free) id);
    folders = h.folders;
  };
  ids = λ id free.
      let alike = texts_alike r.kind r.objects more others there back (stood_free r whole) (fits_from r.kind more r.objects free) id in
      is_some_text r.kind (get (store_all r.kind r.objects others) id) ∙ ap is_some (sym alike) ∙ sym (is_some_text r.kind (get (store_all r.kind r.objects more) id));
}
  where
    there : (value : Value) → In value more → In value others
    there value i = contains_in others value (fewer value (in_contains more value i))

    back : (value : Value) → In value others → In value more ⊎ HasText r.kind r.objects value
    back value i = elim (rest value (in_contains others value i)) [ inl a ↦ inl (contains_in more value a) | inr b ↦ inr b ]
