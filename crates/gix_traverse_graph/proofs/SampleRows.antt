-- The rows that a table's tests accept are in the orders.
use Rattle.std.proofs.Common.{◌≡◌, ℕ, zero, suc, List, [], ◌∷◌, refl, sym, ap, subst, Some, Bool, true, false, nat_eq, unwrap_or, eqb-true, eq-eqb}
use Rattle.std.specs.Prelude.{Contains, not, ⊤}
use Rattle.std.specs.List.{list_any, list_all}
use Rattle.std.specs.Int.Signed.{le_z_yes}
use Rattle.gix_traverse_graph.specs.Order.{At, IsListOf, IsBreadthFirst, IsReady, IsOpen, NewestFirst, OldestFirst, Outranks}
use Rattle.gix_traverse_graph.specs.Commits.{Commit, WalkRequest, asked_parents, Reached, tip, parent, Passes, Hides, Listed}
use Rattle.gix_traverse_graph.specs.Walks.{InBreadth, FinishedTopologically, FinishedByDate, ByNewest, ByOldest}
use Rattle.gix_traverse_graph.specs.Slow.{breadth_list}
use Rattle.gix_traverse_graph.specs.Sorting.{in_time}
use Rattle.gix_traverse_graph.specs.Check.{is_open, is_ready, newest_first, oldest_first, outranks}
use Rattle.gix_traverse_graph.specs.Sample.{graph_of, reached_list, keeps, slow_list, is_list_of, is_distinct, topological_rows, date_rows, newest_rows, oldest_rows}
use Rattle.gix_traverse_graph.proofs.Lists.{at_from_contains, contains_from_at}
use Rattle.gix_traverse_graph.proofs.Slow.{TellsApart, contains_from_any, any_from_contains, breadth_list_is}
use Rattle.gix_traverse_graph.proofs.Cutoff.{in_time_yes, in_time_too}
use Rattle.gix_traverse_graph.proofs.Listing.{listed_reached}
use Rattle.gix_traverse_graph.proofs.Check.{T_from, pass_at, chosen_from_check, is_open_yes, is_open_too, is_ready_yes, is_ready_too, outranks_yes, not_from}
use Rattle.std.proofs.lemmas.Bool.{and_from, and_parts}

-- numbers are compared by their test
pub nat_eq_apart : TellsApart nat_eq
nat_eq_apart = record { same = eqb-true; itself = λ x. eq-eqb x x refl }

not_true : (b : Bool) → not b ≡ true → b ≡ true → ⊥
not_true true e f = cc
not_true false e f = cc

module _ (commits : List (Commit ℕ)) (q : WalkRequest ℕ) where
  -- kept, as a fact
  abbrev pub Kept : ℕ → Type 0
  Kept x = Passes (graph_of commits) q x × (¬ Hides (graph_of commits) q x)

  -- what the hidden reach is the list that the plain enumeration finds
  hidden_list : (hs : List ℕ) → breadth_list nat_eq (λ _. true) (λ x. (graph_of commits x).parents) q.hidden 20 ≡ Some hs → IsBreadthFirst (λ x. (graph_of commits x).parents) q.hidden (Hides (graph_of commits) q) hs
  hidden_list hs e = breadth_list_is nat_eq nat_eq_apart (λ x. (graph_of commits x).parents) q.hidden (λ _. ⊤) (λ _. true) (λ x _. tt) (λ x _. refl) (Hides (graph_of commits) q) (λ x r. r) (λ x r. r) 20 hs e

  module _ (hs : List ℕ) (found : breadth_list nat_eq (λ _. true) (λ x. (graph_of commits x).parents) q.hidden 20 ≡ Some hs) where
    same_hidden : reached_list commits q.hidden ≡ hs
    same_hidden = ap (λ o. unwrap_or o []) found

    kept_yes : (x : ℕ) → keeps commits q x ≡ true → Kept x
    kept_yes x e =
        let a = (and_parts (q.accepts x) _ e).0 in
        let r = (and_parts (q.accepts x) _ e).1 in
        let t = (and_parts (in_time q.since (graph_of commits x).time) _ r).0 in
        let n = (and_parts (in_time q.since (graph_of commits x).time) _ r).1 in
        let m : not (list_any (nat_eq x) hs) ≡ true = subst (λ (zs : List ℕ). not (list_any (nat_eq x) zs) ≡ true) same_hidden n in
        ((a, in_time_yes q.since (graph_of commits x).time t), λ h. not_true (list_any (nat_eq x) hs) m (any_from_contains nat_eq nat_eq_apart hs x (((hidden_list hs found).list.each x).1 h)))

    kept_too : (x : ℕ) → Kept x → keeps commits q x ≡ true
    kept_too x k =
        let m : not (list_any (nat_eq x) hs) ≡ true = not_from (list_any (nat_eq x) hs) (λ e. k.1 (((hidden_list hs found).list.each x).0 (contains_from_any nat_eq nat_eq_apart hs x e))) in
        and_from (q.accepts x) _ k.0.0 (and_from (in_time q.since (graph_of commits x).time) _ (in_time_too q.since (graph_of commits x).time k.0.1) (subst (λ (zs : List ℕ). not (list_any (nat_eq x) zs) ≡ true) (sym same_hidden) m))

    to_kept : {x : ℕ} → Reached (asked_parents q.parents (graph_of commits)) (Listed (graph_of commits) q) q.tips x → Reached (asked_parents q.parents (graph_of commits)) Kept q.tips x
    to_kept (tip {x = x} t l) = tip t (passes l.0, l.1)
      where
        passes : {y : ℕ} → Reached (asked_parents q.parents (graph_of commits)) (Passes (graph_of commits) q) q.tips y → Passes (graph_of commits) q y
        passes (tip t p) = p
        passes (parent r n p) = p
    to_kept (parent r n l) = parent (to_kept r) n (passes l.0, l.1)
      where
        passes : {y : ℕ} → Reached (asked_parents q.parents (graph_of commits)) (Passes (graph_of commits) q) q.tips y → Passes (graph_of commits) q y
        passes (tip t p) = p
        passes (parent r n p) = p

    from_kept : {x : ℕ} → Reached (asked_parents q.parents (graph_of commits)) Kept q.tips x → Listed (graph_of commits) q x
    from_kept (tip t k) = (tip t k.0, k.1)
    from_kept (parent r n k) = (parent (from_kept r).0 n k.0, k.1)

    -- the plain enumeration answers the request
    pub slow_is : (zs : List ℕ) → slow_list commits q ≡ Some zs → InBreadth (graph_of commits) q zs
    slow_is zs e = breadth_list_is nat_eq nat_eq_apart (asked_parents q.parents (graph_of commits)) q.tips Kept (keeps commits q) kept_yes kept_too (Listed (graph_of commits) q) (λ x l. to_kept (listed_reached (graph_of commits) q l.0 l.1)) (λ x r. from_kept r) 20 zs e

    once_from : (out : List ℕ) → is_distinct nat_eq out ≡ true → (j k : ℕ) (x : ℕ) → At out j x → At out k x → j ≡ k
    once_from [] e j k x a b = let z : ⊥ = cc in absurd z
    once_from (y ∷ ys) e zero zero x a b = refl
    once_from (y ∷ ys) e zero (suc k) x a b = absurd (not_true (list_any (nat_eq y) ys) (and_parts (not (list_any (nat_eq y) ys)) _ e).0 (any_from_contains nat_eq nat_eq_apart ys y (contains_from_at ys k y (let same : x ≡ y = cc in subst (λ (z : ℕ). At ys k z) same b))))
    once_from (y ∷ ys) e (suc j) zero x a b = absurd (not_true (list_any (nat_eq y) ys) (and_parts (not (list_any (nat_eq y) ys)) _ e).0 (any_from_contains nat_eq nat_eq_apart ys y (contains_from_at ys j y (let same : x ≡ y = cc in subst (λ (z : ℕ). At ys j z) same a))))
    once_from (y ∷ ys) e (suc j) (suc k) x a b = ap suc (once_from ys (and_parts (not (list_any (nat_eq y) ys)) _ e).1 j k x a b)

    same_members : (zs out : List ℕ) → list_all (λ x. list_any (nat_eq x) zs) out ≡ true → (x : ℕ) → Contains out x → Contains zs x
    same_members zs out e x c = let (k, a) = at_from_contains out x c in contains_from_any nat_eq nat_eq_apart zs x (pass_at (λ x. list_any (nat_eq x) zs) out k x e a)

    list_is : (S : ℕ → Type 0) (zs out : List ℕ) → IsListOf S zs → is_list_of zs out ≡ true → IsListOf S out
    list_is S zs out l e =
        let within = (and_parts (list_all (λ x. list_any (nat_eq x) zs) out) _ e).0 in
        let r = (and_parts (list_all (λ x. list_any (nat_eq x) zs) out) _ e).1 in
        let all = (and_parts (list_all (λ x. list_any (nat_eq x) out) zs) _ r).0 in
        let once = (and_parts (list_all (λ x. list_any (nat_eq x) out) zs) _ r).1 in
        record {
          each = λ x. ((λ c. (l.each x).0 (same_members zs out within x c)), (λ s. same_members out zs all x ((l.each x).1 s)));
          once = once_from out once;
        }

    module _ (zs : List ℕ) (listed : slow_list commits q ≡ Some zs) where
      zs_is : unwrap_or (slow_list commits q) [] ≡ zs
      zs_is = ap (λ o. unwrap_or o []) listed

      members : IsListOf (Listed (graph_of commits) q) (unwrap_or (slow_list commits q) [])
      members = subst (λ (ys : List ℕ). IsListOf (Listed (graph_of commits) q) ys) (sym zs_is) (slow_is zs listed).list

      pub topological_is : (out : List ℕ) → topological_rows commits q out ≡ true → FinishedTopologically (graph_of commits) q out
      topological_is out e =
          let ys = unwrap_or (slow_list commits q) [] in
          let along = asked_parents q.parents (graph_of commits) in
          chosen_from_check (Listed (graph_of commits) q) (IsReady along (Listed (graph_of commits) q)) (Outranks along q.tips (λ x. (graph_of commits x).time)) (is_ready nat_eq along ys) (outranks nat_eq along q.tips (λ x. (graph_of commits x).time)) out
          (list_is (Listed (graph_of commits) q) ys out members (and_parts (is_list_of ys out) _ e).0)
          (is_ready_yes nat_eq nat_eq_apart along (Listed (graph_of commits) q) ys (λ x s. (members.each x).1 s) (λ x c. (members.each x).0 c))
          (is_ready_too nat_eq nat_eq_apart along (Listed (graph_of commits) q) ys (λ x s. (members.each x).1 s) (λ x c. (members.each x).0 c))
          (outranks_yes nat_eq nat_eq_apart along q.tips (λ x. (graph_of commits x).time))
          (and_parts (is_list_of ys out) _ e).1

      pub date_is : (out : List ℕ) → date_rows commits q out ≡ true → FinishedByDate (graph_of commits) q out
      date_is out e =
          let ys = unwrap_or (slow_list commits q) [] in
          let along = asked_parents q.parents (graph_of commits) in
          chosen_from_check (Listed (graph_of commits) q) (IsReady along (Listed (graph_of commits) q)) (NewestFirst (λ x. (graph_of commits x).time)) (is_ready nat_eq along ys) (newest_first (λ x. (graph_of commits x).time)) out
          (list_is (Listed (graph_of commits) q) ys out members (and_parts (is_list_of ys out) _ e).0)
          (is_ready_yes nat_eq nat_eq_apart along (Listed (graph_of commits) q) ys (λ x s. (members.each x).1 s) (λ x c. (members.each x).0 c))
          (is_ready_too nat_eq nat_eq_apart along (Listed (graph_of commits) q) ys (λ x s. (members.each x).1 s) (λ x c. (members.each x).0 c))
          (λ b x y t. le_z_yes (T_from t))
          (and_parts (is_list_of ys out) _ e).1

      pub newest_is : (out : List ℕ) → newest_rows commits q out ≡ true → ByNewest (graph_of commits) q out
      newest_is out e =
          let ys = unwrap_or (slow_list commits q) [] in
          let along = asked_parents q.parents (graph_of commits) in
          chosen_from_check (Listed (graph_of commits) q) (IsOpen along q.tips) (NewestFirst (λ x. (graph_of commits x).time)) (is_open nat_eq along q.tips) (newest_first (λ x. (graph_of commits x).time)) out
          (list_is (Listed (graph_of commits) q) ys out members (and_parts (is_list_of ys out) _ e).0)
          (is_open_yes nat_eq nat_eq_apart along q.tips)
          (is_open_too nat_eq nat_eq_apart along q.tips)
          (λ b x y t. le_z_yes (T_from t))
          (and_parts (is_list_of ys out) _ e).1

      pub oldest_is : (out : List ℕ) → oldest_rows commits q out ≡ true → ByOldest (graph_of commits) q out
      oldest_is out e =
          let ys = unwrap_or (slow_list commits q) [] in
          let along = asked_parents q.parents (graph_of commits) in
          chosen_from_check (Listed (graph_of commits) q) (IsOpen along q.tips) (OldestFirst (λ x. (graph_of commits x).time)) (is_open nat_eq along q.tips) (oldest_first (λ x. (graph_of commits x).time)) out
          (list_is (Listed (graph_of commits) q) ys out members (and_parts (is_list_of ys out) _ e).0)
          (is_open_yes nat_eq nat_eq_apart along q.tips)
          (is_open_too nat_eq nat_eq_apart along q.tips)
          (λ b x y t. le_z_yes (T_from t))
          (and_parts (is_list_of ys out) _ e).1
