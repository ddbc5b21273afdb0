-- What is queued when a walk begins anew.
use Rattle.std.proofs.Common.{◌≡◌, ◌∙◌, ℕ, zero, suc, inl, inr, refl, ap, subst, List, [], ◌∷◌, ◌++◌, map, Result, Ok, Err, Bool, true, false, cond}
use Rattle.std.specs.Prelude.{Contains, IfOk, filter}
use Rattle.std.proofs.lemmas.List.{map-append}
use Rattle.std.proofs.lemmas.List.Elements.{Contains-append_cases, filter-append}
use Rattle.gix_hash.specs.declared.object_id.ObjectId.{ObjectId}
use Rattle.gix_traverse_graph.specs.Order.{At}
use Rattle.gix_traverse_graph.specs.Rows.{AllHeld, Holds}
use Rattle.gix_traverse_commit_known.specs.Timely.{AllRowed, Waits}
use Rattle.gix_traverse_graph.specs.declared.rows.Row.{Row}
use Rattle.gix_traverse_commit_known.specs.declared.waiting.Turn.{Turn}
use Rattle.gix_traverse_graph.proofs.Lists.{at_from_contains, contains_from_at, none_at_nil}

pub in_head : {I : Type 0} (x : I) (xs : List I) → Contains (x ∷ xs) x
in_head x xs = contains_from_at (x ∷ xs) 0 x refl

pub in_tail : {I : Type 0} (x : I) (xs : List I) (y : I) → Contains xs y → Contains (x ∷ xs) y
in_tail x xs y c = let (k, a) = at_from_contains xs y c in contains_from_at (x ∷ xs) (suc k) y a

-- a member of a mapped list is the value of a member
pub from_map : {A B : Type 0} (f : A → B) (xs : List A) (y : B) → Contains (map f xs) y → (x : A) × Contains xs x × (f x ≡ y)
from_map {A} {B} f xs y c = let (k, a) = at_from_contains (map f xs) y c in go xs k a
  where
    go : (xs : List A) (k : ℕ) → At (map f xs) k y → (x : A) × Contains xs x × (f x ≡ y)
    go [] k a = absurd (none_at_nil k y a)
    go (x ∷ xs) zero a = let same : f x ≡ y = cc in (x, in_head x xs, same)
    go (x ∷ xs) (suc k) a = let (z, c, e) = go xs k a in (z, in_tail x xs z c, e)

pub from_filter : {A : Type 0} (p : A → Bool) (xs : List A) (x : A) → Contains (filter p xs) x → p x ≡ true
from_filter {A} p xs x c = let (k, a) = at_from_contains (filter p xs) x c in go xs k a
  where
    go : (xs : List A) (k : ℕ) → At (filter p xs) k x → p x ≡ true
    go [] k a = absurd (none_at_nil k x a)
    go (y ∷ ys) k a = here (p y) refl k a (λ j b. go ys j b)
      where
        here : (b : Bool) → p y ≡ b → (k : ℕ) → At (cond b (y ∷ filter p ys) (filter p ys)) k x → ((j : ℕ) → At (filter p ys) j x → p x ≡ true) → p x ≡ true
        here true e zero a next = let same : y ≡ x = cc in subst (λ (z : A). p z ≡ true) same e
        here true e (suc k) a next = next k a
        here false e k a next = next k a

-- one more of a list, mapped if it passes
pub pass_push : {A B : Type 0} (f : A → B) (p : A → Bool) (xs : List A) (x : A) → map f (filter p (xs ++ x ∷ [])) ≡ map f (filter p xs) ++ cond (p x) (f x ∷ []) []
pass_push {A} {B} f p xs x = ap (map f) (filter-append p xs (x ∷ [])) ∙ map-append f (filter p xs) (filter p (x ∷ [])) ∙ ap (λ (zs : List B). map f (filter p xs) ++ zs) (one (p x))
  where
    one : (b : Bool) → map f (cond b (x ∷ []) []) ≡ cond b (f x ∷ []) []
    one true = refl
    one false = refl

pub nothing_in : (xs : List ObjectId) → ((x : ObjectId) → Contains xs x → ⊥) → xs ≡ []
nothing_in [] h = refl
nothing_in (x ∷ xs) h = absurd (h x (in_head x xs))

-- all of both lists have rows
pub held_both : (rows : List Row) (xs ys : List ObjectId) → AllHeld rows xs → AllHeld rows ys → AllHeld rows (xs ++ ys)
held_both rows xs ys a b x c = elim (Contains-append_cases xs ys x c) [ inl d ↦ a x d | inr d ↦ b x d ]

-- those that waited have rows
pub held_waited : (rows : List Row) (turns : List Turn) (ids : List ObjectId) → AllRowed rows turns → ((x : ObjectId) → Contains ids x → Waits turns x) → AllHeld rows ids
held_waited rows turns ids all waits x c = let (t, k, e) = waits x c in subst (Holds rows) e (all t k)

pub ok_more : {A E : Type 0} (r : Result A E) (P Q : A → Type 0) → ((a : A) → P a → Q a) → IfOk r P → IfOk r Q
ok_more (Ok a) P Q f h = f a h
ok_more (Err e) P Q f h = tt

pub none_rowed : (rows : List Row) → AllRowed rows []
none_rowed rows t c = let (k, a) = at_from_contains [] t c in absurd (none_at_nil k t a)

pub none_held : (rows : List Row) → AllHeld rows []
none_held rows x c = let (k, a) = at_from_contains [] x c in absurd (none_at_nil k x a)
