-- Which walks of a log are one, and where two first differ.
use Rattle.std.proofs.Common.{◌≡◌, ℕ, ◌<◌, inl, inr, List, take, sym, ◌∙◌, ap, subst, arith, IsTrue, MatchBool}
use Rattle.std.specs.Prelude.{pos, ◌≤ℤ◌}
use Rattle.std.proofs.lemmas.Int.{ints}
use Rattle.gix_hash.specs.Id.{Id}
use Rattle.gix_traverse_graph.specs.Commits.{Commits, WalkRequest}
use Rattle.gix_traverse_graph.specs.Order.{At, IsChosen}
use Rattle.gix_traverse_graph.specs.Walks.{FinishedByDate, InSomeOrder, breadth, newest, oldest, date, topological, unfiltered}
use Rattle.gix_traverse_graph.proofs.Lists.{at_one, at_from_contains, contains_from_at, at_take, at_from_take, three}
use Rattle.gix_traverse_graph.proofs.Listing.{breadth_is_one, topological_is_one, filter_all}
use Rattle.history_model.specs.Commands.{Order, Breadth, Newest, Oldest, NewestSince, OldestSince, Date, Topological}
use Rattle.history_model.specs.Repository.{Repository}
use Rattle.history_model.specs.Answers.{commits_of, time_at, IsWalk}
use Rattle.history_model.specs.laws.Determined.{DifferAtOneTime, leaves_choice}

-- a log's walk is in one of the orders of walks
pub some_order : (order : Order) (g : Commits Id) (q : WalkRequest Id) (ids : List Id) → IsWalk order g q ids → InSomeOrder g q ids
some_order Breadth g q ids h = breadth h
some_order Newest g q ids h = newest h
some_order Oldest g q ids h = oldest h
some_order (NewestSince seconds) g q ids h = newest h
some_order (OldestSince seconds) g q ids h = oldest h
some_order Date g q ids h = date h
some_order Topological g q ids h = topological h

-- two lists that choose by time first differ at one time
chosen_at_one_time : (time : Id → ℕ) (S : Id → Type 0) (Fit : List Id → Id → Type 0) (Comes : List Id → Id → Id → Type 0)
    → ((before : List Id) (x y : Id) → Comes before x y → Comes before y x → time x ≡ time y)
    → (xs ys : List Id) → IsChosen S Fit Comes xs → IsChosen S Fit Comes ys → DifferAtOneTime time xs ys
chosen_at_one_time time S Fit Comes once xs ys hx hy k x y same ax ay =
    let there = at_from_contains xs y ((hx.list.each y).1 ((hy.list.each y).0 (contains_from_at ys k y ay))) in
    let here = at_from_contains ys x ((hy.list.each x).1 ((hx.list.each x).0 (contains_from_at xs k x ax))) in
    elim (three there.0 k) [
      | inl lt ↦ absurd (early xs ys hy same there.0 y lt there.1 ay)
      | inr (inl e) ↦ ap time (at_one xs k x y ax (subst (λ (j : ℕ). At xs j y) e there.1))
      | inr (inr gt) ↦ elim (three here.0 k) [
        | inl lt ↦ absurd (early ys xs hx (sym same) here.0 x lt here.1 ax)
        | inr (inl e) ↦ ap time (at_one ys k x y (subst (λ (j : ℕ). At ys j x) e here.1) ay)
        | inr (inr gt') ↦ once (take k xs) x y
            (hx.chosen k there.0 x y gt ax there.1 (subst (λ (b : List Id). Fit b y) (sym same) (hy.fit k y ay)))
            (subst (λ (b : List Id). Comes b y x) (sym same) (hy.chosen k here.0 y x gt' ay here.1 (subst (λ (b : List Id). Fit b x) same (hx.fit k x ax))))
      ]
    ]
  where
    -- no id is before the place in one list and at it in the other
    early : (us vs : List Id) → IsChosen S Fit Comes vs → take k us ≡ take k vs → (j : ℕ) (z : Id) → j < k → At us j z → At vs k z → ⊥
    early us vs hv same j z lt au av =
        let moved = at_from_take vs k j z (subst (λ (ws : List Id). At ws j z) same (at_take us k j z lt au)) in
        let one = hv.list.once j k z moved.1 av in
        omega (arith, one, lt)

newest_once : (time : Id → ℕ) (before : List Id) (x y : Id) → pos (time y) ≤ℤ pos (time x) → pos (time x) ≤ℤ pos (time y) → time x ≡ time y
newest_once time before x y a b = omega (arith, ints, a, b)

oldest_once : (time : Id → ℕ) (before : List Id) (x y : Id) → pos (time x) ≤ℤ pos (time y) → pos (time y) ≤ℤ pos (time x) → time x ≡ time y
oldest_once time before x y a b = omega (arith, ints, a, b)

module _ (r : Repository) (q : WalkRequest Id) (all : (x : Id) → IsTrue (q.accepts x)) where
  finished_alike : (xs ys f h : List Id) → FinishedByDate (commits_of r) (unfiltered q) f → FinishedByDate (commits_of r) (unfiltered q) h → xs ≡ f → ys ≡ h
      → DifferAtOneTime (time_at r) xs ys
  finished_alike xs ys f h first second ex ey =
      subst (λ (us : List Id). DifferAtOneTime (time_at r) us ys) (sym ex)
      (subst (λ (vs : List Id). DifferAtOneTime (time_at r) f vs) (sym ey) (chosen_at_one_time (time_at r) _ _ _ (newest_once (time_at r)) f h first second))

  pub walks_alike : (order : Order) (xs ys : List Id) → IsWalk order (commits_of r) q xs → IsWalk order (commits_of r) q ys
      → MatchBool (leaves_choice order) (DifferAtOneTime (time_at r) xs ys) (xs ≡ ys)
  walks_alike Breadth xs ys h k = breadth_is_one (commits_of r) q xs ys h k
  walks_alike Newest xs ys h k = chosen_at_one_time (time_at r) _ _ _ (newest_once (time_at r)) xs ys h k
  walks_alike Oldest xs ys h k = chosen_at_one_time (time_at r) _ _ _ (oldest_once (time_at r)) xs ys h k
  walks_alike (NewestSince seconds) xs ys h k = chosen_at_one_time (time_at r) _ _ _ (newest_once (time_at r)) xs ys h k
  walks_alike (OldestSince seconds) xs ys h k = chosen_at_one_time (time_at r) _ _ _ (oldest_once (time_at r)) xs ys h k
  walks_alike Date xs ys (f, first, ef) (h, second, eh) =
      finished_alike xs ys f h first second (ef ∙ filter_all q.accepts f all) (eh ∙ filter_all q.accepts h all)
  walks_alike Topological xs ys h k = topological_is_one (commits_of r) q xs ys h k
