-- A walk by time: which commits are met and wait, and which was chosen.
use Rattle.std.proofs.Common.{◌≡◌, ℕ, zero, suc, ◌+◌, ◌⊎◌, inl, inr, List, [], ◌∷◌, ◌++◌, refl, sym, ◌∙◌, subst, Bool, true, false, ℤ}
use lib.Signed.{≤ℤ_refl}
use Rattle.std.specs.Prelude.{Contains, ◌↔◌, ◌&&◌, ◌≤ℤ◌}
use Rattle.std.proofs.lemmas.List.Elements.{Contains-append_left, Contains-push}
use Rattle.gix_hash.specs.declared.object_id.ObjectId.{ObjectId}
use Rattle.gix_traverse_graph.specs.Commits.{Commits}
use Rattle.gix_traverse_graph.specs.Order.{At}
use Rattle.gix_traverse_graph.specs.Sorting.{ComesFirst}
use Rattle.gix_traverse_commit_known.specs.Timely.{IsMetSoFar, IsTaken, Joins}
use Rattle.gix_traverse_graph.specs.declared.sorting.CommitTimeOrder.{CommitTimeOrder}
use Rattle.gix_traverse_graph.specs.declared.sorting.CommitTimeOrder.TheVariants.{NewestFirst, OldestFirst}
use Rattle.gix_traverse_commit_known.specs.declared.waiting.Turn.{Turn}
use Rattle.gix_traverse_graph.proofs.Lists.{at_from_contains, contains_from_at, none_at_nil}
use Rattle.gix_traverse_commit_known.proofs.Simply.{in_push}

-- ---- turns and lists

pub same_turn : (a b : Turn) → a.time ≡ b.time → a.id ≡ b.id → a ≡ b
same_turn a b s i = subst (λ (n : ℤ). a ≡ record { time = n; id = b.id }) s (subst (λ (x : ObjectId). a ≡ record { time = a.time; id = x }) i refl)

pub in_first : {X : Type 0} (y : X) (xs : List X) → Contains (y ∷ xs) y
in_first y xs = contains_from_at (y ∷ xs) 0 y refl

pub in_rest : {X : Type 0} (y : X) (xs : List X) (x : X) → Contains xs x → Contains (y ∷ xs) x
in_rest y xs x c = let (k, a) = at_from_contains xs x c in contains_from_at (y ∷ xs) (suc k) x a

pub in_cons : {X : Type 0} (y : X) (xs : List X) (x : X) → Contains (y ∷ xs) x → (x ≡ y) ⊎ Contains xs x
in_cons {X} y xs x c = let (k, a) = at_from_contains (y ∷ xs) x c in go k a
  where
    go : (k : ℕ) → At (y ∷ xs) k x → (x ≡ y) ⊎ Contains xs x
    go zero a = inl (let e : y ≡ x = cc in sym e)
    go (suc k) a = inr (contains_from_at xs k x a)

pub in_nil : {X : Type 0} (x : X) → Contains [] x → ⊥
in_nil x c = let (k, a) = at_from_contains [] x c in none_at_nil k x a

-- nothing is put in
pub joins_none : (so : Bool) (old : List Turn) (turn : Turn) → so ≡ false → Joins so old turn old
joins_none so old turn e t = ((λ c. inr c), (λ d. elim d [ inl s ↦ (let f = s.0 in let z : ⊥ = cc in absurd z) | inr c ↦ c ]))

pub joins_same : (so so' : Bool) (old : List Turn) (turn turn' : Turn) (new : List Turn) → so ≡ so' → turn ≡ turn' → Joins so old turn new → Joins so' old turn' new
joins_same so so' old turn turn' new e f j = subst (λ (b : Bool). Joins b old turn' new) e (subst (λ (t : Turn). Joins so old t new) f j)

-- ---- a name is met

module _ (g : Commits ObjectId) (keep : ObjectId → Bool) (listed : List ObjectId) where
  pub met_none : (has : ObjectId → Bool) (turns : List Turn) → listed ≡ [] → turns ≡ [] → ((q : ObjectId) → has q ≡ true → keep q ≡ true → ⊥) → IsMetSoFar g keep has (λ _. ⊥) listed turns
  met_none has turns l e h = record {
    timed = λ t c. absurd (none t c);
    some = λ x (t, c, f). absurd (none t c);
    every = λ x n k. absurd n;
    met = λ x m k. absurd (h x m k);
    known = λ x c. elim c [ inl d ↦ absurd (in_nil x (subst (λ (zs : List ObjectId). Contains zs x) l d)) | inr (t, d, f) ↦ absurd (none t d) ];
  }
    where
      none : (t : Turn) → Contains turns t → ⊥
      none t c = in_nil t (subst (λ (ts : List Turn). Contains ts t) e c)

  -- the same with another word for what was named
  pub met_renamed : (has : ObjectId → Bool) (named named' : ObjectId → Type 0) (turns : List Turn) → IsMetSoFar g keep has named listed turns → ((x : ObjectId) → named x ↔ named' x) → IsMetSoFar g keep has named' listed turns
  met_renamed has named named' turns w e = record {
    timed = w.timed;
    some = λ x p. let r = w.some x p in (r.0, r.1, (e x).0 r.2);
    every = λ x n k. w.every x ((e x).1 n) k;
    met = w.met;
    known = w.known;
  }

  -- the same with a test that returns the same
  pub met_kept : (keep' : ObjectId → Bool) (has : ObjectId → Bool) (named : ObjectId → Type 0) (turns : List Turn) → ((x : ObjectId) → keep x ≡ keep' x) → IsMetSoFar g keep has named listed turns → IsMetSoFar g keep' has named listed turns
  met_kept keep' has named turns e w = record {
    timed = w.timed;
    some = λ x p. let r = w.some x p in (sym (e x) ∙ r.0, r.1, r.2);
    every = λ x n k. w.every x n (e x ∙ k);
    met = λ x h k. w.met x h (e x ∙ k);
    known = w.known;
  }

-- ---- one is taken

module _ (order : CommitTimeOrder) (old : List Turn) (turn : Turn) (new : List Turn) where
  pub taken_some : IsTaken order old turn new → (t : Turn) → Contains old t ↔ ((t ≡ turn) ⊎ Contains new t)
  taken_some w = go order w
    where
      go : (o : CommitTimeOrder) → IsTaken o old turn new → (t : Turn) → Contains old t ↔ ((t ≡ turn) ⊎ Contains new t)
      go NewestFirst (e, a) t = (
        (λ c. elim (in_push new turn t (subst (λ (ts : List Turn). Contains ts t) e c)) [ inl d ↦ inr d | inr s ↦ inl s ]),
        (λ d. subst (λ (ts : List Turn). Contains ts t) (sym e) (elim d [ inl s ↦ subst (λ (u : Turn). Contains (new ++ turn ∷ []) u) (sym s) (Contains-push new turn) | inr c ↦ Contains-append_left new (turn ∷ []) t c ])),
      )
      go OldestFirst (e, a) t = (
        (λ c. in_cons turn new t (subst (λ (ts : List Turn). Contains ts t) e c)),
        (λ d. subst (λ (ts : List Turn). Contains ts t) (sym e) (elim d [ inl s ↦ subst (λ (u : Turn). Contains (turn ∷ new) u) (sym s) (in_first turn new) | inr c ↦ in_rest turn new t c ])),
      )

  pub taken_other : IsTaken order old turn new → (t : Turn) → Contains new t → t ≡ turn → ⊥
  taken_other w t c s = go order w (subst (λ (u : Turn). Contains new u) s c)
    where
      go : (o : CommitTimeOrder) → IsTaken o old turn new → Contains new turn → ⊥
      go NewestFirst (e, a) d = (a turn d).1 refl
      go OldestFirst (e, a) d = (a turn d).1 refl

  pub taken_first : (before : List ObjectId) (time : ObjectId → ℤ) → IsTaken order old turn new → (t : Turn) → Contains new t → t.time ≡ time t.id → turn.time ≡ time turn.id → ComesFirst order time before turn.id t.id
  taken_first before time w t c f h = go order w
    where
      go : (o : CommitTimeOrder) → IsTaken o old turn new → ComesFirst o time before turn.id t.id
      go NewestFirst (e, a) = subst (λ (n : ℤ). time t.id ≤ℤ n) h (subst (λ (n : ℤ). n ≤ℤ turn.time) f (a t c).0)
      go OldestFirst (e, a) = subst (λ (n : ℤ). n ≤ℤ time t.id) h (subst (λ (n : ℤ). turn.time ≤ℤ n) f (a t c).0)

pub comes_itself : (order : CommitTimeOrder) (time : ObjectId → ℤ) (before : List ObjectId) (x : ObjectId) → ComesFirst order time before x x
comes_itself NewestFirst time before x = ≤ℤ_refl (time x)
comes_itself OldestFirst time before x = ≤ℤ_refl (time x)
