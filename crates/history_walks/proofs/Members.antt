-- Members of lists: those that a list has, and how long lists without repeats are.
use Rattle.std.proofs.Common.{◌≡◌, ◌∙◌, ◌≤◌, ◌+◌, ℕ, zero, suc, ap, refl, sym, subst, arith, cond, Bool, true, false, List, [], ◌∷◌, length, map, filter, inl, inr, Some, is_some, ◌&&◌, T}
use Rattle.std.specs.Prelude.{Contains, ⊤}
use Rattle.std.specs.FinMap.{FinMap, contains_key-keys, entries, entries_sorted, get, keys}
use Rattle.std.specs.FinMap.Entries.{below_all, is_sorted}
use Rattle.std.specs.Ordering.{eq_by_cmp, is_lt}
use Rattle.std.proofs.lemmas.Cmp.{tied_itself}
use Rattle.gix_hash.specs.Id.{Id}
use Rattle.gix_hash.specs.Order.{id_eq}
use Rattle.gix_hash.specs.OrderLaws.{id_total}
use Rattle.gix_traverse_graph.specs.Order.{At}
use Rattle.gix_traverse_graph.proofs.Lists.{at_from_contains, contains_from_at}
use Rattle.history_model.specs.Objects.{by_id}
use Rattle.history_model.proofs.IdLemmas.{id_itself, one_id, same_id_key}
use Rattle.history_model.proofs.WholeLists.{In, clash, one_passes}

in_at : {X : Type 0} (xs : List X) (k : ℕ) (x : X) → At xs k x → In x xs
in_at [] k x a = let z : ⊥ = cc in absurd z
in_at (y ∷ xs) zero x a = inl (let same : y ≡ x = cc in sym same)
in_at (y ∷ xs) (suc k) x a = inr (in_at xs k x a)

pub in_from_contains : {X : Type 0} (xs : List X) (x : X) → Contains xs x → In x xs
in_from_contains xs x c = let (k, a) = at_from_contains xs x c in in_at xs k x a

at_from_in : {X : Type 0} (xs : List X) (x : X) → In x xs → (k : ℕ) × At xs k x
at_from_in [] x i = absurd i
at_from_in (y ∷ xs) x (inl e) = (0, ap Some (sym e))
at_from_in (y ∷ xs) x (inr i) = let (k, a) = at_from_in xs x i in (suc k, a)

pub contains_from_in : {X : Type 0} (xs : List X) (x : X) → In x xs → Contains xs x
contains_from_in xs x i = let (k, a) = at_from_in xs x i in contains_from_at xs k x a

-- ---- what passes a test

pub in_filter : {X : Type 0} (p : X → Bool) (xs : List X) (x : X) → In x xs → p x ≡ true → In x (filter p xs)
in_filter p [] x i is = absurd i
in_filter p (y ∷ xs) x i is = go (λ later. in_filter p xs x later is) (p y) refl i
  where
    go : (In x xs → In x (filter p xs)) → (b : Bool) → p y ≡ b → In x (y ∷ xs) → In x (cond b (y ∷ filter p xs) (filter p xs))
    go rest true e (inl same) = inl same
    go rest true e (inr later) = inr (rest later)
    go rest false e (inl same) = clash is (ap p same ∙ e)
    go rest false e (inr later) = rest later

pub of_filter : {X : Type 0} (p : X → Bool) (xs : List X) (x : X) → In x (filter p xs) → (p x ≡ true)
of_filter p [] x i = absurd i
of_filter p (y ∷ xs) x i = go (λ later. of_filter p xs x later) (p y) refl i
  where
    go : (In x (filter p xs) → p x ≡ true) → (b : Bool) → p y ≡ b → In x (cond b (y ∷ filter p xs) (filter p xs)) → p x ≡ true
    go rest true e (inl same) = ap p same ∙ e
    go rest true e (inr later) = rest later
    go rest false e later = rest later

in_all : {X : Type 0} (p : X → Bool) (xs : List X) (x : X) → In x (filter p xs) → In x xs
in_all p [] x i = absurd i
in_all p (y ∷ xs) x i = go (λ later. in_all p xs x later) (p y) i
  where
    go : (In x (filter p xs) → In x xs) → (b : Bool) → In x (cond b (y ∷ filter p xs) (filter p xs)) → In x (y ∷ xs)
    go rest true (inl same) = inl same
    go rest true (inr later) = inr (rest later)
    go rest false later = inr (rest later)

-- ---- lists without repeats

abbrev pub AreApart : List Id → Type 0
AreApart [] = ⊤
AreApart (id ∷ ids) = (In id ids → ⊥) × AreApart ids

pub filter_apart : (p : Id → Bool) (ids : List Id) → AreApart ids → AreApart (filter p ids)
filter_apart p [] h = tt
filter_apart p (id ∷ ids) h = go (filter_apart p ids h.1) (p id)
  where
    go : AreApart (filter p ids) → (b : Bool) → AreApart (cond b (id ∷ filter p ids) (filter p ids))
    go rest true = (λ i. h.0 (in_all p ids id i), rest)
    go rest false = rest

-- the list without the first place of this id
without : Id → List Id → List Id
without id [] = []
without id (other ∷ ids) = cond (id_eq id other) ids (other ∷ without id ids)

one_shorter : (id : Id) (ids : List Id) → In id ids → length (without id ids) + 1 ≡ length ids
unfolding without
one_shorter id [] i = absurd i
one_shorter id (other ∷ ids) i = go (λ later. one_shorter id ids later) (id_eq id other) refl i
  where
    go : (In id ids → length (without id ids) + 1 ≡ length ids) → (b : Bool) → id_eq id other ≡ b → In id (other ∷ ids) → length (cond b ids (other ∷ without id ids)) + 1 ≡ suc (length ids)
    go rest true e i = omega arith
    go rest false e (inl same) = clash (id_itself id) (ap (id_eq id) same ∙ e)
    go rest false e (inr later) = let shorter = rest later in omega (arith, shorter)

still_in : (id other : Id) (ids : List Id) → In other ids → (id ≡ other → ⊥) → In other (without id ids)
unfolding without
still_in id other [] i apart = absurd i
still_in id other (first ∷ ids) i apart = go (λ later. still_in id other ids later apart) (id_eq id first) refl i
  where
    go : (In other ids → In other (without id ids)) → (b : Bool) → id_eq id first ≡ b → In other (first ∷ ids) → In other (cond b ids (first ∷ without id ids))
    go rest true e (inl same) = absurd (apart (one_id id first e ∙ sym same))
    go rest true e (inr later) = later
    go rest false e (inl same) = inl same
    go rest false e (inr later) = inr (rest later)

-- a list without repeats is no longer than one that has its members
pub no_longer : (ids others : List Id) → AreApart ids → ((id : Id) → In id ids → In id others) → length ids ≤ length others
no_longer [] others apart among = omega arith
no_longer (id ∷ ids) others apart among =
    let there = among id (inl refl) in
    let rest = no_longer ids (without id others) apart.1 (λ other i. still_in id other others (among other (inr i)) (λ same. apart.0 (subst (λ x. In x ids) (sym same) i))) in
    let shorter = one_shorter id others there in
    omega (arith, rest, shorter)

-- ---- the keys of a map

pub in_keys : {X : Type 0} (m : FinMap by_id X) (id : Id) (x : X) → get m id ≡ Some x → In id (keys m)
in_keys m id x at =
    let (key, i, tied) = one_passes (eq_by_cmp by_id id) (keys m) (sym (contains_key-keys m id) ∙ ap is_some at) in
    subst (λ k. In k (keys m)) (sym (one_id id key (sym (same_id_key id key) ∙ tied))) i

both_of : (a b : Bool) → T (a && b) → T a × T b
both_of true b h = (tt, h)
both_of false b h = absurd h

below_out : {X : Type 0} (id : Id) (es : List (Id × X)) → T (below_all by_id id es) → In id (map (λ e. e.0) es) → ⊥
below_out id [] h i = absurd i
below_out id (e ∷ es) h (inl same) = subst T (ap is_lt (ap (by_id id) (sym same) ∙ tied_itself id_total id)) (both_of (is_lt (by_id id e.0)) (below_all by_id id es) h).0
below_out id (e ∷ es) h (inr later) = below_out id es (both_of (is_lt (by_id id e.0)) (below_all by_id id es) h).1 later

sorted_apart : {X : Type 0} (es : List (Id × X)) → T (is_sorted by_id es) → AreApart (map (λ e. e.0) es)
sorted_apart [] h = tt
sorted_apart (e ∷ es) h =
    let parts = both_of (below_all by_id e.0 es) (is_sorted by_id es) h in
    (below_out e.0 es parts.0, sorted_apart es parts.1)

pub keys_apart : {X : Type 0} (m : FinMap by_id X) → AreApart (keys m)
keys_apart m = sorted_apart (entries m) (entries_sorted m)
