-- A walk before its first commit.
use Rattle.std.proofs.Common.{◌≡◌, ℕ, zero, suc, ◌+◌, ◌-◌, ◌<◌, ◌≤◌, ◌⊎◌, inl, inr, List, [], ◌∷◌, ◌++◌, length, refl, sym, ◌∙◌, ap, subst, arith, Some, Bool, true, false, cond, get_or}
use Rattle.std.specs.Prelude.{Contains, ⊤, ℤ, ◌<ℤ◌, ◌↔◌, IsPermutation}
use Rattle.std.specs.Cmp.{IsTotalOrder}
use Rattle.std.specs.List.Sorted.{IsSorted}
use Rattle.std.specs.Ordering.{nat_cmp, int_cmp, ordering_then, is_lt, MatchOrdering}
use Rattle.std.specs.declared.cmp.Ordering.{Ordering}
use Rattle.std.specs.declared.cmp.Ordering.TheVariants.{Less, Equal, Greater}
use Rattle.std.proofs.lemmas.Cmp.{int_ranked, ranked, int_cmp_total, nat_cmp_total, on_total, then_total}
use Rattle.std.proofs.lemmas.List.Elements.{Contains-append_cases}
use Rattle.std.proofs.lemmas.List.Sorted.{sorted_far, ranks_by, Contains-permutation, IsPermutation-sym}
use Rattle.std.proofs.lemmas.Option.{slice_get_within, get_or_from_slice_get}
use Rattle.gix_hash.specs.declared.object_id.ObjectId.{ObjectId}
use Rattle.gix_object_lookup.specs.Table.{Table}
use Rattle.gix_traverse_graph.specs.Commits.{Commit, Commits, asked_parents, Reached, tip, parent, Passes, Listed}
use Rattle.gix_traverse_graph.specs.Numbered.{same_id}
use Rattle.gix_traverse_graph.specs.Order.{At, Outranks}
use Rattle.gix_traverse_commit_known.specs.Painting.{ReachedFrom}
use Rattle.gix_traverse_graph.specs.Standing.{NotIn}
use Rattle.gix_traverse_commit_known.specs.Told.{AreTold}
use Rattle.gix_traverse_graph.specs.declared.parents.Parents.{Parents}
use Rattle.gix_traverse_graph.specs.declared.rows.Row.{Row}
use Rattle.gix_traverse_graph.proofs.Ids.{same_id_apart}
use Rattle.gix_traverse_graph.proofs.Listing.{listed_reached}
use Rattle.gix_traverse_graph.proofs.Lists.{at_one, at_from_contains, contains_from_at, none_at_nil, three}
use Rattle.gix_traverse_topo.specs.Exploring.{Numbers, IsExplored}
use Rattle.gix_traverse_topo.specs.Nodes.{all_facts, counts, IsOnce, Tells, hidden_in}
use Rattle.gix_traverse_topo.specs.Standing.{id_at, ids_of, Comes, Ranks, Standing, Stands, Begins, as_read, topo_request, all_accepted}
use Rattle.gix_traverse_topo.specs.Turns.{times, names_of, Waits}
use Rattle.gix_traverse_topo.specs.Waiting.{pending_cmp, waiting, Sorted, IsFree}
use Rattle.gix_traverse_topo.specs.declared.init.Sorting.{Sorting}
use Rattle.gix_traverse_topo.specs.declared.init.Sorting.TheVariants.{DateOrder, TopoOrder}
use Rattle.gix_traverse_topo.specs.declared.known.Known.{Known}
use Rattle.gix_traverse_topo.specs.declared.known.Node.{Node}
use Rattle.gix_traverse_topo.specs.declared.known.Facts.{Facts}
use Rattle.gix_traverse_topo.specs.declared.ready.Pending.{Pending}
use Rattle.gix_traverse_topo.specs.declared.ready.Ready.{Ready}
use Rattle.gix_traverse_topo.specs.declared.ready.Ready.TheVariants.{ByDate, Topological}
use Rattle.gix_traverse_topo.proofs.Begins.{waits_first, first_outranks}
use Rattle.gix_traverse_topo.proofs.Counting.{at_id, number_in, in_set}
use Rattle.gix_traverse_topo.proofs.Found.{read_is, edges_read, reached_read, fault_in, fault_at, causes, tells_so, parents_so, once_tail}
use Rattle.gix_traverse_topo.proofs.Meeting.{at_length_append, length_map, at_map, from_map}
use Rattle.gix_traverse_topo.proofs.Stepping.{ids_permuted, from_ids}
use Rattle.gix_traverse_topo.proofs.Turning.{in_walk}
use Rattle.gix_traverse_topo.proofs.Turns.{contains_times, times_at}
use Rattle.gix_traverse_topo.proofs.Updates.{at_within}

-- ---- the order of those that wait

pending_order : IsTotalOrder pending_cmp
pending_order = then_total (on_total (λ (p : Pending). p.time) int_cmp_total) (on_total (λ (p : Pending). p.number.0) nat_cmp_total)

-- what comes later in a sorted list is newer, or as old and of no lower number
pub later_ranks : (p q : Pending) → is_lt (pending_cmp q p) ≡ false → (p.time <ℤ q.time) ⊎ ((p.time ≡ q.time) × (p.number.0 ≤ q.number.0))
later_ranks p q e = go (int_cmp q.time p.time) refl (int_ranked q.time p.time (int_cmp q.time p.time) refl)
  where
    go : (r : Ordering) → int_cmp q.time p.time ≡ r → MatchOrdering r (q.time <ℤ p.time) (q.time ≡ p.time) (p.time <ℤ q.time) → (p.time <ℤ q.time) ⊎ ((p.time ≡ q.time) × (p.number.0 ≤ q.number.0))
    go Less f m = let z : is_lt (ordering_then Less (nat_cmp q.number.0 p.number.0)) ≡ false = ap (λ (o : Ordering). is_lt (ordering_then o (nat_cmp q.number.0 p.number.0))) (sym f) ∙ e in let w : ⊥ = cc in absurd w
    go Greater f m = inl m
    go Equal f m = inr (sym m, by_number (nat_cmp q.number.0 p.number.0) (ap (λ (o : Ordering). is_lt (ordering_then o (nat_cmp q.number.0 p.number.0))) (sym f) ∙ e) (ranked q.number.0 p.number.0 (nat_cmp q.number.0 p.number.0) refl))
      where
        by_number : (r : Ordering) → is_lt r ≡ false → MatchOrdering r (q.number.0 < p.number.0) (q.number.0 ≡ p.number.0) (p.number.0 < q.number.0) → p.number.0 ≤ q.number.0
        by_number Less g k = let w : ⊥ = cc in absurd w
        by_number Equal g k = omega arith
        by_number Greater g k = omega arith

pub sorted_ranks : (stack : List Pending) (k l : ℕ) (p q : Pending) → IsSorted pending_cmp stack → k < l → At stack k p → At stack l q → (p.time <ℤ q.time) ⊎ ((p.time ≡ q.time) × (p.number.0 ≤ q.number.0))
sorted_ranks stack k l p q sorted lt a b =
    let far = sorted_far (λ x y. is_lt (pending_cmp x y)) (ranks_by pending_order (λ (v : Pending). v)) stack sorted k l p (omega arith) (slice_get_within stack l q b) in
    later_ranks p q (subst (λ (v : Pending). is_lt (pending_cmp q v) ≡ false) (get_or_from_slice_get stack k p p a) (subst (λ (v : Pending). is_lt (pending_cmp v (get_or stack k p)) ≡ false) (get_or_from_slice_get stack l q p b) far))

-- ---- each once

once_times : (xs : List ObjectId) (y : ObjectId) → IsOnce xs → times (same_id y) xs ≤ 1
once_times [] y once = omega arith
once_times (x ∷ xs) y once = go (same_id y x) refl (once_times xs y (once_tail x xs once))
  where
    one : same_id y x ≡ true → (n : ℕ) → times (same_id y) xs ≡ n → times (same_id y) xs ≤ 0
    one e zero f = omega arith
    one e (suc n) f =
        let (k, a) = at_from_contains xs y (contains_times same_id same_id_apart xs y (omega arith)) in
        let here : At (x ∷ xs) 0 y = ap Some (sym (same_id_apart.same y x e)) in
        let z = once 0 (suc k) y here a in
        absurd (omega arith)

    go : (t : Bool) → same_id y x ≡ t → times (same_id y) xs ≤ 1 → cond (same_id y x) 1 0 + times (same_id y) xs ≤ 1
    go true e m = let l = one e (times (same_id y) xs) refl in rw e (omega arith)
    go false e m = rw e (omega arith)

-- two places of a list that has y once are one
times_once : (xs : List ObjectId) (k l : ℕ) (y : ObjectId) → times (same_id y) xs ≤ 1 → k < l → At xs k y → At xs l y → ⊥
times_once [] k l y t lt a b = none_at_nil k y a
times_once (x ∷ xs) zero zero y t lt a b = absurd (omega arith)
times_once (x ∷ xs) (suc k) zero y t lt a b = absurd (omega arith)
times_once (x ∷ xs) zero (suc l) y t lt a b =
    let e : x ≡ y = cc in
    let f : same_id y x ≡ true = ap (same_id y) e ∙ same_id_apart.itself y in
    let m = times_at (same_id y) xs l y b (same_id_apart.itself y) in
    let u : cond true 1 0 + times (same_id y) xs ≤ 1 = rw f at t in
    omega arith
times_once (x ∷ xs) (suc k) (suc l) y t lt a b = times_once xs k l y (omega arith) (omega arith) a b

-- the commits, as far as the walk read them
abbrev pub found_in : Known → Commits ObjectId → Commits ObjectId
found_in known g = as_read (fault_in known.ids.keys (all_facts known.nodes.items)) g

module _ (honest may_fail : Type 0) (rows : List Row) (table : Table) (tips ends : List ObjectId) (parents : Parents) (known : Known) (e : IsExplored honest may_fail rows table tips ends parents known) (sorting : Sorting) (first : List Pending) (ready : Ready) (f : IsFree (hidden_in known.nodes.items) (all_facts known.nodes.items) (counts known.nodes.items) first) (same : IsPermutation first (waiting ready)) (sorted : Sorted sorting ready) where
  long_told : length (all_facts known.nodes.items) ≡ length known.ids.keys
  long_told = length_map (λ (v : Node). v.facts) known.nodes.items ∙ e.all_read

  long_counts : length (counts known.nodes.items) ≡ length known.ids.keys
  long_counts = length_map (λ (v : Node). v.names) known.nodes.items ∙ e.all_read

  from_waiting : (p : Pending) → Contains (waiting ready) p → Contains first p
  from_waiting p c = Contains-permutation (waiting ready) first p (IsPermutation-sym first (waiting ready) same) c

  -- no commit waits twice
  single : (x : ObjectId) → times (same_id x) (ids_of known.ids.keys (waiting ready)) ≤ 1
  single x = let bag = ids_permuted known.ids.keys first (waiting ready) same x in let l = once_times (ids_of known.ids.keys first) x ids_once in omega arith
    where
      key_of : (p : Pending) → Contains first p → (x : ObjectId) × At known.ids.keys p.number.0 x
      key_of p c = let (l, a, (r, b, t)) = f.each p c in at_within known.ids.keys p.number.0 (omega (arith, slice_get_within (all_facts known.nodes.items) p.number.0 r b, long_told))

      number_same : (p q : Pending) → Contains first p → Contains first q → id_at known.ids.keys p.number.0 ≡ id_at known.ids.keys q.number.0 → p.number.0 ≡ q.number.0
      number_same p q c d same_ids =
          let (x, a) = key_of p c in
          let (y, b) = key_of q d in
          let g : y ≡ x = sym (at_id known.ids.keys q.number.0 y b) ∙ sym same_ids ∙ at_id known.ids.keys p.number.0 x a in
          e.once p.number.0 q.number.0 x a (subst (λ (z : ObjectId). At known.ids.keys q.number.0 z) g b)

      ids_once : IsOnce (ids_of known.ids.keys first)
      ids_once j k x a b =
          let (p, c, g) = from_map (λ (v : Pending). id_at known.ids.keys v.number.0) first j x a in
          let (q, d, i) = from_map (λ (v : Pending). id_at known.ids.keys v.number.0) first k x b in
          let n = number_same p q (contains_from_at first j p c) (contains_from_at first k q d) (g ∙ sym i) in
          elim (three j k) [
            | inl lt ↦ absurd (let m = f.ascending j k p q lt c d in omega arith)
            | inr (inl s) ↦ s
            | inr (inr gt) ↦ absurd (let m = f.ascending k j q p gt d c in omega arith)
          ]

  module _ (yes : honest) (g : Commits ObjectId) (are : AreTold rows table g) where
    tells : (n : ℕ) (x : ObjectId) (facts : Facts) → At known.ids.keys n x → At (all_facts known.nodes.items) n facts → Tells rows (found_in known g) x facts
    tells n x facts a b = tells_so honest may_fail rows table known.ids.keys (all_facts known.nodes.items) e.once e.read yes g are n x facts a b

    num : Numbers (found_in known g) tips ends parents known
    num = e.numbers (found_in known g) (parents_so honest may_fail rows table known.ids.keys (all_facts known.nodes.items) e.once e.read yes g are)

    -- one that waits has a number, and none names it
    free : (p : Pending) → Contains (waiting ready) p → (x : ObjectId) × (hidden_in known.nodes.items ≤ p.number.0) × At known.ids.keys p.number.0 x × (p.time ≡ ((found_in known g) x).time) × Contains num.xs x × (names_of same_id (asked_parents parents (found_in known g)) x num.xs ≡ 0)
    free p c =
        let (l, a, (r, b, t)) = f.each p (from_waiting p c) in
        let (x, k) = at_within known.ids.keys p.number.0 (omega (arith, slice_get_within (all_facts known.nodes.items) p.number.0 r b, long_told)) in
        (x, l, k, t ∙ (tells p.number.0 x r k b).time, in_set known.ids.keys num.hs num.xs p.number.0 x num.keys_are (omega (arith, num.hidden_are)) k, sym (num.counted p.number.0 x 0 l k a))

    some : (x : ObjectId) → Contains (ids_of known.ids.keys (waiting ready)) x → Contains num.xs x × (names_of same_id (asked_parents parents (found_in known g)) x num.xs ≡ 0)
    some x c =
        let (p, d, i) = from_ids known.ids.keys (waiting ready) x c in
        let (y, l, k, t, s, n) = free p d in
        subst (λ (z : ObjectId). Contains num.xs z × (names_of same_id (asked_parents parents (found_in known g)) z num.xs ≡ 0)) (sym (at_id known.ids.keys p.number.0 y k) ∙ i) (s, n)

    named : (p : Pending) → Contains first p → (m : ℕ) (x : ObjectId) → p.number.0 ≡ m → At known.ids.keys m x → Contains (ids_of known.ids.keys (waiting ready)) x
    named p c m x i k =
        let (j, d) = at_from_contains (waiting ready) p (Contains-permutation first (waiting ready) p same c) in
        let here = contains_from_at (ids_of known.ids.keys (waiting ready)) j (id_at known.ids.keys p.number.0) (at_map (λ (v : Pending). id_at known.ids.keys v.number.0) (waiting ready) j p d) in
        subst (λ (z : ObjectId). Contains (ids_of known.ids.keys (waiting ready)) z) (ap (id_at known.ids.keys) i ∙ at_id known.ids.keys m x k) here

    every : (x : ObjectId) → Contains num.xs x → names_of same_id (asked_parents parents (found_in known g)) x num.xs ≡ 0 → Contains (ids_of known.ids.keys (waiting ready)) x
    every x s n =
        let (m, l, k) = number_in known.ids.keys num.hs num.xs x num.keys_are s in
        let within = slice_get_within known.ids.keys m x k in
        let (facts, b) = at_within (all_facts known.nodes.items) m (omega (arith, long_told)) in
        let (count, a) = at_within (counts known.nodes.items) m (omega (arith, long_counts)) in
        let low : hidden_in known.nodes.items ≤ m = omega (arith, num.hidden_are) in
        let zero_is : count ≡ 0 = num.counted m x count low k a ∙ n in
        let (p, c, i) = f.every m facts low (subst (λ (v : ℕ). At (counts known.nodes.items) m v) zero_is a) b in
        named p c m x i k

    waits : (Comes : List ObjectId → ObjectId → ObjectId → Type 0) → Waits same_id (asked_parents parents (found_in known g)) (Contains num.xs) Comes [] (ids_of known.ids.keys (waiting ready))
    waits Comes = waits_first same_id same_id_apart (asked_parents parents (found_in known g)) num.xs num.breadth.list.once Comes (ids_of known.ids.keys (waiting ready)) some every single

    place_of : (p : Pending) (x : ObjectId) → Contains (waiting ready) p → At known.ids.keys p.number.0 x → At num.xs (p.number.0 - length num.hs) x
    place_of p x c a =
        let (y, l, k, t, s, n) = free p c in
        at_length_append num.hs num.xs (p.number.0 - length num.hs) x (subst (λ (n : ℕ). At (num.hs ++ num.xs) n x) (omega (arith, l, num.hidden_are)) (subst (λ (zs : List ObjectId). At zs p.number.0 x) num.keys_are a))

    outranks : (p q : Pending) (k l : ℕ) (x y : ObjectId) → At (waiting ready) k p → At (waiting ready) l q → k < l → id_at known.ids.keys p.number.0 ≡ x → id_at known.ids.keys q.number.0 ≡ y → (p.time <ℤ q.time) ⊎ ((p.time ≡ q.time) × (p.number.0 ≤ q.number.0)) → Outranks (asked_parents parents (found_in known g)) tips (λ z. ((found_in known g) z).time) [] y x
    outranks p q k l x y a b lt is_x is_y ranks =
        let cp = contains_from_at (waiting ready) k p a in
        let cq = contains_from_at (waiting ready) l q b in
        let (px, low_p, kp, tp, sp, np) = free p cp in
        let (py, low_q, kq, tq, sq, nq) = free q cq in
        let ex : px ≡ x = sym (at_id known.ids.keys p.number.0 px kp) ∙ is_x in
        let ey : py ≡ y = sym (at_id known.ids.keys q.number.0 py kq) ∙ is_y in
        let kp' : At known.ids.keys p.number.0 x = subst (λ (z : ObjectId). At known.ids.keys p.number.0 z) ex kp in
        let kq' : At known.ids.keys q.number.0 y = subst (λ (z : ObjectId). At known.ids.keys q.number.0 z) ey kq in
        let ids_x : At (ids_of known.ids.keys (waiting ready)) k x = subst (λ (z : ObjectId). At (ids_of known.ids.keys (waiting ready)) k z) is_x (at_map (λ (v : Pending). id_at known.ids.keys v.number.0) (waiting ready) k p a) in
        let ids_y : At (ids_of known.ids.keys (waiting ready)) l y = subst (λ (z : ObjectId). At (ids_of known.ids.keys (waiting ready)) l z) is_y (at_map (λ (v : Pending). id_at known.ids.keys v.number.0) (waiting ready) l q b) in
        let rx = (waits (λ _ _ _. ⊤)).ready x (contains_from_at (ids_of known.ids.keys (waiting ready)) k x ids_x) in
        let ry = (waits (λ _ _ _. ⊤)).ready y (contains_from_at (ids_of known.ids.keys (waiting ready)) l y ids_y) in
        let time_x : p.time ≡ ((found_in known g) x).time = tp ∙ ap (λ (z : ObjectId). ((found_in known g) z).time) ex in
        let time_y : q.time ≡ ((found_in known g) y).time = tq ∙ ap (λ (z : ObjectId). ((found_in known g) z).time) ey in
        let apart : p.number.0 ≡ q.number.0 → ⊥ = λ s. times_once (ids_of known.ids.keys (waiting ready)) k l y (single y) lt (subst (λ (z : ObjectId). At (ids_of known.ids.keys (waiting ready)) k z) (at_one known.ids.keys q.number.0 x y (subst (λ (n : ℕ). At known.ids.keys n x) s kp') kq') ids_x) ids_y in
        first_outranks same_id same_id_apart (asked_parents parents (found_in known g)) num.xs num.breadth.list.once tips (Reached (asked_parents parents (found_in known g)) (NotIn num.hs) tips) num.breadth (λ z. ((found_in known g) z).time) x y (p.number.0 - length num.hs) (q.number.0 - length num.hs) (place_of p x cp kp') (place_of q y cq kq') rx.2 ry.2
        (elim ranks [
          | inl newer ↦ inl (subst (λ (t : ℤ). t <ℤ ((found_in known g) y).time) time_x (subst (λ (t : ℤ). p.time <ℤ t) time_y newer))
          | inr (s, le) ↦ inr (sym time_x ∙ s ∙ time_y, above low_p low_q le apart)
        ])
      where
        above : hidden_in known.nodes.items ≤ p.number.0 → hidden_in known.nodes.items ≤ q.number.0 → p.number.0 ≤ q.number.0 → (p.number.0 ≡ q.number.0 → ⊥) → p.number.0 - length num.hs < q.number.0 - length num.hs
        above a b c d = elim (three p.number.0 q.number.0) [
          | inl lt ↦ omega (arith, num.hidden_are)
          | inr (inl s) ↦ absurd (d s)
          | inr (inr gt) ↦ absurd (omega arith)
        ]

    ranks : Ranks sorting (asked_parents parents (found_in known g)) tips (λ z. ((found_in known g) z).time) known.ids.keys [] ready
    ranks = go sorting ready refl sorted
      where
        go : (s : Sorting) (r : Ready) → r ≡ ready → Sorted s r → Ranks s (asked_parents parents (found_in known g)) tips (λ z. ((found_in known g) z).time) known.ids.keys [] r
        go DateOrder (ByDate heap) i k = k
        go DateOrder (Topological stack) i k = absurd k
        go TopoOrder (ByDate heap) i k = absurd k
        go TopoOrder (Topological stack) i k = record {
          over = λ m l x y lt a b.
              let (p, c, is_x) = from_map (λ (v : Pending). id_at known.ids.keys v.number.0) stack.items m x a in
              let (q, d, is_y) = from_map (λ (v : Pending). id_at known.ids.keys v.number.0) stack.items l y b in
              outranks p q m l x y (subst (λ (w : Ready). At (waiting w) m p) i c) (subst (λ (w : Ready). At (waiting w) l q) i d) lt is_x is_y (sorted_ranks stack.items m l p q k lt c d);
        }

    standing : Standing sorting rows (found_in known g) tips parents num.hs num.xs [] known ready
    standing = record {
      keys_are = num.keys_are;
      hidden_are = num.hidden_are;
      keys_once = e.once;
      all_read = e.all_read;
      tells = λ n x facts l a b out. tells n x facts a b;
      counted = λ n x count l a b. let c = num.counted n x count l a b in omega arith;
      numbered = λ p c. let (x, l, k, t, s, n) = free p c in (x, l, k, t);
      waits = waits (Comes sorting (asked_parents parents (found_in known g)) tips (λ z. ((found_in known g) z).time));
      ranks = ranks;
    }

    -- the ends' commits are read
    hidden_read : (x : ObjectId) → Contains num.hs x → (found_in known g) x ≡ g x
    hidden_read x c =
        let (k, a) = at_from_contains num.hs x c in
        let within = slice_get_within num.hs k x a in
        let there : At known.ids.keys k x = subst (λ (zs : List ObjectId). At zs k x) (sym num.keys_are) (in_front num.hs num.xs k x a) in
        let (facts, b) = at_within (all_facts known.nodes.items) k (omega (arith, slice_get_within known.ids.keys k x there, long_told)) in
        read_is (fault_in known.ids.keys (all_facts known.nodes.items)) g x (fault_at known.ids.keys (all_facts known.nodes.items) k x facts e.once there b ∙ e.no_fault k facts (omega (arith, num.hidden_are)) b)
      where
        in_front : (hs xs : List ObjectId) (k : ℕ) (x : ObjectId) → At hs k x → At (hs ++ xs) k x
        in_front [] xs k x a = absurd (none_at_nil k x a)
        in_front (y ∷ hs) xs zero x a = a
        in_front (y ∷ hs) xs (suc k) x a = in_front hs xs k x a

    hidden_back : {x : ObjectId} → ReachedFrom g ends x → ReachedFrom (found_in known g) ends x
    hidden_back (tip t p) = tip t tt
    hidden_back (parent {x = c} {y = y} r n p) =
        let before = hidden_back r in
        parent before (subst (λ (v : Commit ObjectId). Contains v.parents y) (sym (hidden_read c ((num.hides c).1 before))) n) tt

    lists : (x : ObjectId) → Contains num.xs x ↔ Listed (found_in known g) (topo_request tips ends parents all_accepted) x
    lists x = (
      λ c. let r = (num.breadth.list.each x).0 c in (passing r, λ k. visible r ((num.hides x).1 k)),
      λ l. (num.breadth.list.each x).1 (past (listed_reached (found_in known g) (topo_request tips ends parents all_accepted) l.0 l.1)),
    )
      where
        passing : {y : ObjectId} → Reached (asked_parents parents (found_in known g)) (NotIn num.hs) tips y → Reached (asked_parents parents (found_in known g)) (Passes (found_in known g) (topo_request tips ends parents all_accepted)) tips y
        passing (tip t p) = tip t (refl, tt)
        passing (parent r n p) = parent (passing r) n (refl, tt)

        visible : {y : ObjectId} → Reached (asked_parents parents (found_in known g)) (NotIn num.hs) tips y → NotIn num.hs y
        visible (tip t p) = p
        visible (parent r n p) = p

        past : {y : ObjectId} → Reached (asked_parents parents (found_in known g)) (Listed (found_in known g) (topo_request tips ends parents all_accepted)) tips y → Reached (asked_parents parents (found_in known g)) (NotIn num.hs) tips y
        past (tip {x = y} t l) = tip t (λ c. l.1 ((num.hides y).0 c))
        past (parent {y = y} r n l) = parent (past r) n (λ c. l.1 ((num.hides y).0 c))

    stands : (accepts : ObjectId → Bool) → Stands sorting rows (fault_in known.ids.keys (all_facts known.nodes.items)) g tips ends parents accepts [] known ready
    stands accepts = record {
      hs = num.hs;
      xs = num.xs;
      finished = [];
      standing = standing;
      lists = lists;
      hides = λ x. ((λ r. reached_read (fault_in known.ids.keys (all_facts known.nodes.items)) g ends r), (λ r. hidden_back r));
      faulty = λ n x facts l a b out. sym (fault_at known.ids.keys (all_facts known.nodes.items) n x facts e.once a b);
      finished_read = λ x c. let (k, a) = at_from_contains [] x c in absurd (none_at_nil k x a);
      given_are = refl;
    }

    -- what is known, ends or tips reach
    reached : (x : ObjectId) → Contains known.ids.keys x → ReachedFrom g ends x ⊎ Listed g (topo_request tips ends parents all_accepted) x
    reached x c = elim (Contains-append_cases num.hs num.xs x (subst (λ (zs : List ObjectId). Contains zs x) num.keys_are c)) [
      | inl d ↦ inl (reached_read (fault_in known.ids.keys (all_facts known.nodes.items)) g ends ((num.hides x).0 d))
      | inr d ↦ inr (in_walk sorting rows (fault_in known.ids.keys (all_facts known.nodes.items)) g tips ends parents all_accepted (found_in known g) num.xs lists (λ y. ((λ r. reached_read (fault_in known.ids.keys (all_facts known.nodes.items)) g ends r), (λ r. hidden_back r))) (λ y z s n. edges_read (fault_in known.ids.keys (all_facts known.nodes.items)) g y z n) x d)
    ]

  pub begins : (accepts : ObjectId → Bool) → Begins honest may_fail sorting rows table tips ends parents accepts known ready
  begins accepts = record {
    faults = fault_in known.ids.keys (all_facts known.nodes.items);
    causes = causes honest may_fail rows table known.ids.keys (all_facts known.nodes.items) e.once e.read;
    known_reached = λ yes g are. reached yes g are;
    stands = λ yes g are. stands yes g are accepts;
  }
