-- Ids that come to be known one after the other.
use Rattle.std.proofs.Common.{◌≡◌, Bool, true, false, ◌&&◌, ◌||◌, List, [], ◌∷◌, refl, sym, ◌∙◌, ap}
use Rattle.std.specs.FinMap.{contains_key}
use Rattle.gix_hash.specs.Id.{Id, id_of}
use Rattle.gix_hash.specs.Order.{id_eq}
use Rattle.gix_hash.specs.declared.object_id.ObjectId.{ObjectId}
use Rattle.history_model.proofs.IdLemmas.{one_id}
use Rattle.history_store.specs.Ids.{IdSet, with_id, with_id_if}
use Rattle.history_texts.specs.IdLists.{is_one_of}
use Rattle.history_store.proofs.IdSets.{has_with}

-- the first of those that are to come is known
pub one_known : (old with_room new : IdSet) (first : ObjectId) (ids rest : List ObjectId) → ids ≡ first ∷ rest → with_room ≡ old → new ≡ with_id with_room (id_of first)
    → (id : Id) → (contains_key new id || is_one_of rest id) ≡ (contains_key old id || is_one_of ids id)
one_known old with_room new first ids rest are same is id =
    ap (λ b. b || is_one_of rest id) (ap (λ (s : IdSet). contains_key s id) is ∙ has_with with_room (id_of first) id ∙ ap (λ (s : IdSet). id_eq id (id_of first) || contains_key s id) same)
    ∙ turned (id_eq id (id_of first)) (contains_key old id) (is_one_of rest id)
    ∙ ap (λ (xs : List ObjectId). contains_key old id || is_one_of xs id) (sym are)
  where
    turned : (a b c : Bool) → ((a || b) || c) ≡ (b || (a || c))
    turned true true c = refl
    turned true false c = refl
    turned false b c = refl

-- and so are all, if none is to come
pub all_known : (old : IdSet) (ids : List ObjectId) → ids ≡ [] → (id : Id) → contains_key old id ≡ (contains_key old id || is_one_of ids id)
all_known old ids none id = right (contains_key old id) ∙ ap (λ (xs : List ObjectId). contains_key old id || is_one_of xs id) (sym none)
  where
    right : (b : Bool) → b ≡ (b || false)
    right true = refl
    right false = refl

-- ---- the same of those that a test takes

pub one_noted : (old with_room new : IdSet) (is : Bool) (test : Id → Bool) (first : ObjectId) (ids rest : List ObjectId) → ids ≡ first ∷ rest → with_room ≡ old → new ≡ with_id_if is with_room (id_of first) → is ≡ test (id_of first)
    → (id : Id) → (contains_key new id || (is_one_of rest id && test id)) ≡ (contains_key old id || (is_one_of ids id && test id))
one_noted old with_room new is test first ids rest are same grown told id =
    ap (λ b. b || (is_one_of rest id && test id)) (ap (λ (s : IdSet). contains_key s id) grown ∙ noted is)
    ∙ (λ i. ((told i && id_eq id (id_of first)) || contains_key (same i) id) || (is_one_of rest id && test id))
    ∙ by_test (id_eq id (id_of first)) refl
    ∙ sym (ap (λ (xs : List ObjectId). contains_key old id || (is_one_of xs id && test id)) are)
  where
    noted : (b : Bool) → contains_key (with_id_if b with_room (id_of first)) id ≡ ((b && id_eq id (id_of first)) || contains_key with_room id)
    noted true = has_with with_room (id_of first) id
    noted false = refl

    turned : (a b c : Bool) → ((a || b) || (c && a)) ≡ (b || a)
    turned true true c = refl
    turned true false c = refl
    turned false true c = refl
    turned false false true = refl
    turned false false false = refl

    right_true : (b : Bool) → (b && true) ≡ b
    right_true true = refl
    right_true false = refl

    right_false : (b : Bool) → (b && false) ≡ false
    right_false true = refl
    right_false false = refl

    by_test : (b : Bool) → id_eq id (id_of first) ≡ b
        → (((test (id_of first) && id_eq id (id_of first)) || contains_key old id) || (is_one_of rest id && test id)) ≡ (contains_key old id || ((id_eq id (id_of first) || is_one_of rest id) && test id))
    by_test true equal =
        (λ i. ((test (id_of first) && equal i) || contains_key old id) || (is_one_of rest id && test id))
        ∙ ap (λ b. (b || contains_key old id) || (is_one_of rest id && test id)) (right_true (test (id_of first)) ∙ ap test (sym (one_id id (id_of first) equal)))
        ∙ turned (test id) (contains_key old id) (is_one_of rest id)
        ∙ sym (ap (λ b. contains_key old id || ((b || is_one_of rest id) && test id)) equal)
    by_test false other =
        (λ i. ((test (id_of first) && other i) || contains_key old id) || (is_one_of rest id && test id))
        ∙ ap (λ b. (b || contains_key old id) || (is_one_of rest id && test id)) (right_false (test (id_of first)))
        ∙ sym (ap (λ b. contains_key old id || ((b || is_one_of rest id) && test id)) other)

pub all_noted : (old : IdSet) (ids : List ObjectId) (test : Bool) → ids ≡ [] → (id : Id) → contains_key old id ≡ (contains_key old id || (is_one_of ids id && test))
all_noted old ids test none id = right (contains_key old id) ∙ ap (λ (xs : List ObjectId). contains_key old id || (is_one_of xs id && test)) (sym none)
  where
    right : (b : Bool) → b ≡ (b || false)
    right true = refl
    right false = refl
