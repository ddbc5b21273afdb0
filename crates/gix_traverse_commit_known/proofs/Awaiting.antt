-- Commits that wait with the times that they count with.
use Rattle.std.proofs.Common.{◌≡◌, ◌∙◌, ◌⊎◌, inl, inr, refl, sym, ap, subst, List, [], ◌∷◌, ◌++◌, Bool, true, false, cond, ℤ, Option, Some, None}
use Rattle.std.specs.Prelude.{Contains, IsSome, filter}
use Rattle.std.proofs.lemmas.List.Elements.{Contains-append_cases, Contains-append_left, Contains-append_right, Contains-push, filter-append}
use Rattle.gix_hash.specs.Id.{Id, id_of}
use Rattle.gix_hash.specs.declared.object_id.ObjectId.{ObjectId}
use Rattle.gix_traverse_graph.specs.Commits.{Commits}
use Rattle.gix_traverse_commit_known.specs.Meeting.{accepted}
use Rattle.gix_traverse_graph.specs.Sorting.{in_time}
use Rattle.gix_traverse_commit_known.specs.Timely.{CountsAs, Joins, LetsWait, LetsWaitIn, WaitsAsCounted}
use Rattle.gix_traverse_graph.specs.declared.sorting.Timing.{Timing}
use Rattle.gix_traverse_commit_known.specs.declared.waiting.Turn.{Turn}
use Rattle.gix_traverse_commit_known.proofs.Pending.{from_filter, in_head, in_tail}
use Rattle.gix_traverse_commit_known.proofs.Simply.{in_push}
use Rattle.gix_traverse_commit_known.proofs.Timely.{in_nil}

-- ---- lists of those that are accepted

into_filter : (p : ObjectId → Bool) (xs : List ObjectId) (x : ObjectId) → Contains xs x → p x ≡ true → Contains (filter p xs) x
into_filter p [] x c e = absurd (in_nil x c)
into_filter p (y ∷ ys) x c e = go (Contains-append_cases (y ∷ []) ys x c) (λ d. into_filter p ys x d e)
  where
    here : (b : Bool) → p y ≡ b → x ≡ y → Contains (cond b (y ∷ filter p ys) (filter p ys)) x
    here true f s = subst (Contains (y ∷ filter p ys)) (sym s) (in_head y (filter p ys))
    here false f s = let g : p x ≡ false = ap p s ∙ f in let z : ⊥ = cc in absurd z

    there : (b : Bool) → Contains (filter p ys) x → Contains (cond b (y ∷ filter p ys) (filter p ys)) x
    there true d = in_tail y (filter p ys) x d
    there false d = d

    go : Contains (y ∷ []) x ⊎ Contains ys x → (Contains ys x → Contains (filter p ys) x) → Contains (cond (p y) (y ∷ filter p ys) (filter p ys)) x
    go (inl d) later = elim (in_push [] y x d) [ inl n ↦ absurd (in_nil x n) | inr s ↦ here (p y) refl s ]
    go (inr d) later = there (p y) (later d)

from_filtered : (p : ObjectId → Bool) (xs : List ObjectId) (x : ObjectId) → Contains (filter p xs) x → Contains xs x
from_filtered p [] x c = c
from_filtered p (y ∷ ys) x c = go (p y) c (λ d. from_filtered p ys x d)
  where
    go : (b : Bool) → Contains (cond b (y ∷ filter p ys) (filter p ys)) x → (Contains (filter p ys) x → Contains ys x) → Contains (y ∷ ys) x
    go true d later = elim (Contains-append_cases (y ∷ []) (filter p ys) x d) [
      | inl s ↦ Contains-append_left (y ∷ []) ys x s
      | inr r ↦ in_tail y ys x (later r)
    ]
    go false d later = in_tail y ys x (later d)

pub to_accepted : (accepts : Id → Bool) (xs : List ObjectId) (x : ObjectId) → Contains xs x → accepts (id_of x) ≡ true → Contains (accepted accepts xs) x
to_accepted accepts xs x c e = into_filter (λ y. accepts (id_of y)) xs x c e

pub of_accepted : (accepts : Id → Bool) (xs : List ObjectId) (x : ObjectId) → Contains (accepted accepts xs) x → Contains xs x × (accepts (id_of x) ≡ true)
of_accepted accepts xs x c = (from_filtered (λ y. accepts (id_of y)) xs x c, from_filter (λ y. accepts (id_of y)) xs x c)

-- a commit that is fresh and accepted, and one that isn't
pub fresh_accepted : (accepts : Id → Bool) (has hides : Bool) (y : ObjectId) → has ≡ false → hides ≡ false → accepts (id_of y) ≡ true → accepted accepts (cond has [] (cond hides [] (y ∷ []))) ≡ y ∷ []
fresh_accepted accepts true hides y e f a = let z : ⊥ = cc in absurd z
fresh_accepted accepts false true y e f a = let z : ⊥ = cc in absurd z
fresh_accepted accepts false false y e f a = subst (λ (b : Bool). cond b (y ∷ []) [] ≡ y ∷ []) (sym a) refl

pub met_out : (accepts : Id → Bool) (has hides : Bool) (y : ObjectId) → has ≡ true → accepted accepts (cond has [] (cond hides [] (y ∷ []))) ≡ []
met_out accepts true hides y e = refl
met_out accepts false hides y e = let z : ⊥ = cc in absurd z

pub hidden_out : (accepts : Id → Bool) (has hides : Bool) (y : ObjectId) → hides ≡ true → accepted accepts (cond has [] (cond hides [] (y ∷ []))) ≡ []
hidden_out accepts true hides y e = refl
hidden_out accepts false true y e = refl
hidden_out accepts false false y e = let z : ⊥ = cc in absurd z

pub refused_out : (accepts : Id → Bool) (has hides : Bool) (y : ObjectId) → accepts (id_of y) ≡ false → accepted accepts (cond has [] (cond hides [] (y ∷ []))) ≡ []
refused_out accepts true hides y e = refl
refused_out accepts false true y e = refl
refused_out accepts false false y e = subst (λ (b : Bool). cond b (y ∷ []) [] ≡ []) (sym e) refl

-- the same of tips
pub fresh_alone : (has hides : Bool) (y : ObjectId) → has ≡ false → hides ≡ false → cond has [] (cond hides [] (y ∷ [])) ≡ y ∷ []
fresh_alone true hides y e f = let z : ⊥ = cc in absurd z
fresh_alone false true y e f = let z : ⊥ = cc in absurd z
fresh_alone false false y e f = refl

pub met_none : (has hides : Bool) (y : ObjectId) → has ≡ true → cond has [] (cond hides [] (y ∷ [])) ≡ []
met_none true hides y e = refl
met_none false hides y e = let z : ⊥ = cc in absurd z

pub hidden_none : (has hides : Bool) (y : ObjectId) → hides ≡ true → cond has [] (cond hides [] (y ∷ [])) ≡ []
hidden_none true hides y e = refl
hidden_none false true y e = refl
hidden_none false false y e = let z : ⊥ = cc in absurd z

-- ---- who waits

module _ (may_fail : Type 0) (since : Option ℤ) (g : Commits ObjectId) where
  abbrev pub AreAwaited : List ObjectId → List Turn → List Turn → Type 0
  AreAwaited xs old new = LetsWait may_fail since g (Contains xs) old new

  pub waits_none : (turns : List Turn) → AreAwaited [] turns turns
  waits_none turns = record {
    stay = λ t c. c;
    join = λ x c. absurd (in_nil x c);
    only = λ t c. inl c;
  }

  -- one more
  pub waits_one : (y : ObjectId) (time : ℤ) (old new : List Turn) → CountsAs may_fail g y time → Joins (in_time since time) old (record { time = time; id = y }) new → AreAwaited (y ∷ []) old new
  waits_one y time old new counts j = record {
    stay = λ t c. (j t).1 (inr c);
    join = λ x c. elim (in_push [] y x c) [
      | inl n ↦ absurd (in_nil x n)
      | inr s ↦ subst (WaitsAsCounted may_fail since g new) (sym s) (time, counts, (λ so. (j (record { time = time; id = y })).1 (inl (so, refl))))
    ];
    only = λ t c. elim ((j t).0 c) [
      | inl s ↦ inr (subst (λ (u : Turn). Contains (y ∷ []) u.id × CountsAs may_fail g u.id u.time × (in_time since u.time ≡ true)) (sym s.1) (Contains-push [] y, counts, s.0))
      | inr d ↦ inl d
    ];
  }

  -- first these, and then those
  pub waits_more : (xs ys : List ObjectId) (a b c : List Turn) → AreAwaited xs a b → AreAwaited ys b c → AreAwaited (xs ++ ys) a c
  waits_more xs ys a b c v w = record {
    stay = λ t k. w.stay t (v.stay t k);
    join = λ x k. elim (Contains-append_cases xs ys x k) [
      | inl d ↦ (let (time, counts, at) = v.join x d in (time, counts, (λ so. w.stay (record { time = time; id = x }) (at so))))
      | inr d ↦ w.join x d
    ];
    only = λ t k. elim (w.only t k) [
      | inl d ↦ elim (v.only t d) [
        | inl o ↦ inl o
        | inr s ↦ inr (Contains-append_left xs ys t.id s.0, s.1, s.2)
      ]
      | inr s ↦ inr (Contains-append_right xs ys t.id s.0, s.1, s.2)
    ];
  }

  pub accepted_more : (accepts : Id → Bool) (xs ys : List ObjectId) (a b c : List Turn) → AreAwaited (accepted accepts xs) a b → AreAwaited (accepted accepts ys) b c → AreAwaited (accepted accepts (xs ++ ys)) a c
  accepted_more accepts xs ys a b c v w = subst (λ (zs : List ObjectId). AreAwaited zs a c) (sym (filter-append (λ (x : ObjectId). accepts (id_of x)) xs ys)) (waits_more (accepted accepts xs) (accepted accepts ys) a b c v w)

  -- a set with the same members
  pub waits_same : (S T : ObjectId → Type 0) (old new : List Turn) → ((x : ObjectId) → S x → T x) → ((x : ObjectId) → T x → S x) → LetsWait may_fail since g S old new → LetsWait may_fail since g T old new
  waits_same S T old new to from w = record {
    stay = w.stay;
    join = λ x t. w.join x (from x t);
    only = λ t k. elim (w.only t k) [ inl d ↦ inl d | inr s ↦ inr (to t.id s.0, s.1, s.2) ];
  }

-- the same in the words of all walks
pub waits_in : (t : Option Timing) (may_fail : Type 0) (g : Commits ObjectId) (S T : ObjectId → Type 0) (old new : List Turn) → ((x : ObjectId) → S x → T x) → ((x : ObjectId) → T x → S x) → LetsWaitIn t may_fail g S old new → LetsWaitIn t may_fail g T old new
waits_in None may_fail g S T old new to from w = w
waits_in (Some t) may_fail g S T old new to from w = waits_same may_fail t.since g S T old new to from w

-- none waits in the end
pub none_awaited : (t : Option Timing) (may_fail : Type 0) (g : Commits ObjectId) (S : ObjectId → Type 0) (turns : List Turn) → (IsSome t → turns ≡ []) → LetsWaitIn t may_fail g S [] turns → LetsWaitIn t may_fail g S [] []
none_awaited None may_fail g S turns none w = refl
none_awaited (Some t) may_fail g S turns none w = subst (LetsWait may_fail t.since g S []) (none refl) w
