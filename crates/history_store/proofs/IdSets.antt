-- Sets of ids, and what lists of ids keep of them.
use Rattle.std.proofs.Common.{◌≡◌, ℕ, zero, suc, ◌+◌, ◌<◌, ◌≤◌, Bool, true, false, cond, List, [], ◌∷◌, ◌++◌, length, refl, sym, ◌∙◌, ap, ◌||◌, Option, Some, None, is_some, arith}
use Rattle.std.specs.List.{insert, slice_index_or, HoldsAt}
use Rattle.std.specs.List.Sorted.{IsPartitionPoint, IsNonDecreasingBy}
use Rattle.std.specs.Ordering.{is_eq, is_lt, match_ordering, ordering_index, ordering_reverse}
use Rattle.std.specs.BTreeSet.{insert_key}
use Rattle.std.specs.declared.cmp.Ordering.{Ordering}
use Rattle.std.specs.declared.cmp.Ordering.TheVariants.{Less, Equal, Greater}
use Rattle.std.specs.FinMap.{contains_key, get, get-empty, put}
use Rattle.std.specs.FinMap.Entries.{by_order, is_sorted, is_sorted-put}
use Rattle.std.proofs.lemmas.List.Folds.{list_any-append}
use Rattle.std.proofs.lemmas.Map.Views.{Contains-from_any}
use Rattle.std.specs.List.{Contains}
use Rattle.std.specs.Ordering.{eq_by_cmp}
use Rattle.std.specs.FinMap.{contains_key-keys, keys}
use Rattle.std.proofs.lemmas.List.Sorted.{searchable_from_sorted}
use Rattle.std.specs.Prelude.{T}
use Rattle.std.proofs.Common.{subst}
use Rattle.gix_hash.specs.Id.{Id, id_of}
use Rattle.gix_hash.specs.declared.kind.Kind.{Kind}
use Rattle.gix_hash.specs.Order.{id_eq}
use Rattle.gix_hash.specs.OrderLaws.{id_total, id_tied}
use Rattle.gix_hash.specs.declared.object_id.ObjectId.{ObjectId}
use Rattle.history_model.specs.Objects.{by_id}
use Rattle.history_model.proofs.IdLemmas.{get_with_id, one_by_ids, one_id, same_id_tie}
use Rattle.history_store.specs.Ids.{AreOfKind, IdSet, marked, set_of, with_id}
use Rattle.history_texts.specs.IdLists.{is_one_of}
use Rattle.std.proofs.lemmas.Bool.{and_parts}
use Rattle.gix_ref_file.proofs.Below.{when_lt}

-- ---- sets

pub has_with : (ids : IdSet) (id q : Id) → contains_key (with_id ids id) q ≡ (id_eq q id || contains_key ids q)
has_with ids id q = ap is_some (get_with_id ids id tt q) ∙ by_test (id_eq q id) (get ids q)
  where
    by_test : (b : Bool) (o : Option (Unit {0})) → is_some (cond b (Some tt) o) ≡ (b || is_some o)
    by_test true o = refl
    by_test false o = refl

pub contains-set_of : (ids : List ObjectId) (q : Id) → contains_key (set_of ids) q ≡ is_one_of ids q
contains-set_of [] q = ap is_some (get-empty by_id q)
contains-set_of (x ∷ ids) q = has_with (set_of ids) (id_of x) q ∙ ap (λ b. id_eq q (id_of x) || b) (contains-set_of ids q)

same_marks : (x y : Option (Unit {0})) → is_some x ≡ is_some y → x ≡ y
same_marks None None h = refl
same_marks None (Some v) h = cc
same_marks (Some u) None h = cc
same_marks (Some u) (Some v) h = refl

-- two sets of the same ids are one
pub one_set : (s t : IdSet) → ((q : Id) → contains_key s q ≡ contains_key t q) → s ≡ t
one_set s t same = one_by_ids s t (λ q. same_marks (get s q) (get t q) (same q))

-- one id more of the kind of all
pub kinds_more : (kind : Kind) (ids : IdSet) (id : Id) → AreOfKind kind ids → id.kind ≡ kind → AreOfKind kind (with_id ids id)
kinds_more kind ids id all own q has = by_test (id_eq q id) refl (sym (has_with ids id q) ∙ has)
  where
    by_test : (b : Bool) → id_eq q id ≡ b → (b || contains_key ids q) ≡ true → q.kind ≡ kind
    by_test true same h = ap (λ (x : Id). x.kind) (one_id q id same) ∙ own
    by_test false other h = all q h

-- ---- ids that are among some

pub or_swap : (a b c : Bool) → (a || (b || c)) ≡ (b || (a || c))
or_swap true true c = refl
or_swap true false c = refl
or_swap false b c = refl

pub or_false : (a : Bool) → (a || false) ≡ a
or_false true = refl
or_false false = refl

or_true : (a : Bool) → (a || true) ≡ true
or_true true = refl
or_true false = refl

pub or_group : (a b c : Bool) → ((a || b) || c) ≡ (a || (b || c))
or_group true b c = refl
or_group false b c = refl

pub one_of_both : (xs ys : List ObjectId) (q : Id) → is_one_of (xs ++ ys) q ≡ (is_one_of xs q || is_one_of ys q)
one_of_both xs ys q = list_any-append (λ other. id_eq q (id_of other)) xs ys

pub one_of_insert : (xs : List ObjectId) (place : ℕ) (x : ObjectId) (q : Id) → is_one_of (insert xs place x) q ≡ (id_eq q (id_of x) || is_one_of xs q)
one_of_insert xs zero x q = refl
one_of_insert [] (suc place) x q = refl
one_of_insert (y ∷ xs) (suc place) x q = ap (λ b. id_eq q (id_of y) || b) (one_of_insert xs place x q) ∙ or_swap (id_eq q (id_of y)) (id_eq q (id_of x)) (is_one_of xs q)

-- ---- one list that ascends

abbrev pub by_own_id : ObjectId → ObjectId → Ordering
by_own_id a b = by_id (id_of a) (id_of b)

abbrev pub AreInOrder : List ObjectId → Type 0
AreInOrder ids = is_sorted by_id (marked ids) ≡ true

-- the id belongs at the place: what comes before it is less, and what comes from there on greater
abbrev pub BelongsAt : List ObjectId → ℕ → ObjectId → Type 0
BelongsAt ids place id = IsPartitionPoint (λ y. by_own_id y id ≡ Less) (λ y. by_own_id y id ≡ Greater) ids place

abbrev pub IsThere : List ObjectId → ℕ → ObjectId → Type 0
IsThere ids place id = HoldsAt (λ y. by_own_id y id ≡ Equal) ids place

turned : (x y : ObjectId) (r : Ordering) → by_own_id y x ≡ r → by_own_id x y ≡ ordering_reverse r
turned x y r is = id_total.antisymm (id_of x) (id_of y) ∙ ap ordering_reverse is

tied : (x y : ObjectId) (r : Ordering) → by_own_id y x ≡ r → id_eq (id_of x) (id_of y) ≡ is_eq (ordering_reverse r)
tied x y r is = id_tied (id_of x) (id_of y) ∙ ap is_eq (turned x y r is)

pub one_here : (ids : List ObjectId) (place : ℕ) (id : ObjectId) → place < length ids → IsThere ids place id → is_one_of ids (id_of id) ≡ true
one_here [] place id within at = absurd (omega (arith, within))
one_here (y ∷ ids) zero id within at = ap (λ b. b || is_one_of ids (id_of id)) (tied id y Equal (at y))
one_here (y ∷ ids) (suc place) id within at = ap (λ b. id_eq (id_of id) (id_of y) || b) (one_here ids place id (omega (arith, within)) at) ∙ or_true (id_eq (id_of id) (id_of y))

pub none_here : (ids : List ObjectId) (place : ℕ) (id : ObjectId) → BelongsAt ids place id → is_one_of ids (id_of id) ≡ false
none_here [] place id parts = refl
none_here (y ∷ ids) zero id parts =
    let rest = none_here ids zero id (λ k d low high. absurd (omega (arith, high)), λ k d low high. parts.1 (suc k) d (omega arith) (omega (arith, high))) in
    λ i. tied id y Greater (parts.1 0 y (omega arith) (omega arith)) i || rest i
none_here (y ∷ ids) (suc place) id parts =
    let rest = none_here ids place id (λ k d low high. parts.0 (suc k) d (omega arith) (omega (arith, high)), λ k d low high. parts.1 (suc k) d (omega (arith, low)) (omega (arith, high))) in
    λ i. tied id y Less (parts.0 0 y (omega arith) (omega arith)) i || rest i

insert_is : (ids : List ObjectId) (place : ℕ) (id : ObjectId) → place ≤ length ids → BelongsAt ids place id → insert ids place id ≡ insert_key by_own_id ids id
insert_is [] zero id within parts = refl
insert_is [] (suc place) id within parts = absurd (omega (arith, within))
insert_is (y ∷ ids) zero id within parts =
    sym (ap (λ r. match_ordering r (id ∷ y ∷ ids) (y ∷ ids) (y ∷ insert_key by_own_id ids id)) (turned id y Greater (parts.1 0 y (omega arith) (omega arith))))
insert_is (y ∷ ids) (suc place) id within parts =
    ap (λ rest. y ∷ rest) (insert_is ids place id (omega (arith, within)) (λ k d low high. parts.0 (suc k) d (omega arith) (omega (arith, high)), λ k d low high. parts.1 (suc k) d (omega (arith, low)) (omega (arith, high))))
    ∙ sym (ap (λ r. match_ordering r (id ∷ y ∷ ids) (y ∷ ids) (y ∷ insert_key by_own_id ids id)) (turned id y Less (parts.0 0 y (omega arith) (omega arith))))

marked-insert_key : (ids : List ObjectId) (id : ObjectId) → marked (insert_key by_own_id ids id) ≡ put by_id (id_of id) tt (marked ids)
marked-insert_key [] id = refl
marked-insert_key (x ∷ ids) id =
    elim (by_own_id id x) as (λ r. marked (match_ordering r (id ∷ x ∷ ids) (x ∷ ids) (x ∷ insert_key by_own_id ids id))
    ≡ by_order r ((id_of id, tt) ∷ marked (x ∷ ids)) ((id_of x, tt) ∷ marked ids) ((id_of x, tt) ∷ put by_id (id_of id) tt (marked ids))) [
      | Less ↦ refl
      | Equal ↦ refl
      | Greater ↦ ap (λ rest. (id_of x, tt) ∷ rest) (marked-insert_key ids id)
    ]

held : (b : Bool) → b ≡ true → T b
held true h = tt
held false h = cc

told : (b : Bool) → T b → b ≡ true
told true h = refl
told false h = absurd h

pub insert_in_order : (ids : List ObjectId) (place : ℕ) (id : ObjectId) → AreInOrder ids → place ≤ length ids → BelongsAt ids place id → AreInOrder (insert ids place id)
insert_in_order ids place id order within parts =
    ap (λ new. is_sorted by_id (marked new)) (insert_is ids place id within parts)
    ∙ ap (is_sorted by_id) (marked-insert_key ids id)
    ∙ told _ (is_sorted-put by_id id_total (id_of id) tt (marked ids) (held _ order))

-- ---- a search

each_after : (ids : List ObjectId) → AreInOrder ids → (k : ℕ) (d : ObjectId) → 0 ≤ k → k + 1 < length ids → is_lt (by_own_id (slice_index_or ids (k + 1) d) (slice_index_or ids k d)) ≡ false
each_after [] order k d low high = absurd (omega (arith, high))
each_after (x ∷ []) order k d low high = absurd (omega (arith, high))
each_after (x ∷ y ∷ ids) order zero d low high =
    ap is_lt (turned y x Less (when_lt (by_own_id x y) (and_parts _ _ (and_parts _ _ order).0).0))
each_after (x ∷ y ∷ ids) order (suc k) d low high =
    let next : suc (k + 1) ≡ suc k + 1 = omega arith in
    subst (λ n. is_lt (by_own_id (slice_index_or (x ∷ y ∷ ids) n d) (slice_index_or (x ∷ y ∷ ids) (suc k) d)) ≡ false) next
    (each_after (y ∷ ids) (and_parts _ _ order).1 k d (omega arith) (omega (arith, high)))

pub rising : (ids : List ObjectId) (id : ObjectId) → AreInOrder ids → IsNonDecreasingBy (λ y. ordering_index (by_own_id y id)) ids
rising ids id order = searchable_from_sorted id_total id_of ids (id_of id) (each_after ids order)

-- an id of a set is among those that are listed of it
pub listed : (ids : IdSet) (id : Id) → contains_key ids id ≡ true → Contains (keys ids) id
listed ids id has = Contains-from_any {eq = eq_by_cmp by_id} (λ x y same. same_id_tie x y (equal (by_id x y) same)) id (keys ids) (sym (contains_key-keys ids id) ∙ has)
  where
    equal : (r : Ordering) → is_eq r ≡ true → r ≡ Equal
    equal Less h = cc
    equal Equal h = refl
    equal Greater h = cc
