-- A walk gives the commit whose turn it is.
use Rattle.std.proofs.Common.{◌≡◌, ℕ, zero, suc, ◌+◌, ◌≤◌, ◌⊎◌, inl, inr, List, [], ◌∷◌, ◌++◌, length, take, refl, sym, ◌∙◌, ap, subst, arith, Bool, cond}
use Rattle.std.specs.Prelude.{Contains, IsPermutation, ℤ, ◌≤ℤ◌}
use Rattle.std.specs.BinaryHeap.{heap_items}
use Rattle.std.proofs.lemmas.Option.{slice_get_within}
use Rattle.std.proofs.lemmas.List.Elements.{Contains-append_left, Contains-append_right, Contains-append_cases, Contains-push}
use Rattle.std.proofs.lemmas.List.Sorted.{IsPermutation-map, sum_by-IsPermutation, Contains-permutation, IsPermutation-sym}
use Rattle.std.proofs.lemmas.List.Recursion.{is_sum_by}
use Rattle.gix_hash.specs.declared.object_id.ObjectId.{ObjectId}
use Rattle.gix_traverse_graph.specs.Commits.{Commits, asked_parents}
use Rattle.gix_traverse_graph.specs.Numbered.{same_id}
use Rattle.gix_traverse_graph.specs.Order.{At, IsReady, Outranks}
use Rattle.gix_traverse_graph.specs.declared.parents.Parents.{Parents}
use Rattle.gix_traverse_graph.specs.declared.rows.Row.{Row}
use Rattle.gix_traverse_graph.proofs.Ids.{same_id_apart}
use Rattle.gix_traverse_graph.proofs.Lists.{at_one, at_from_contains, contains_from_at, none_at_nil, at_append}
use Rattle.gix_traverse_topo.specs.Nodes.{all_facts, counts, IsOnce, hidden_in}
use Rattle.gix_traverse_topo.specs.Standing.{id_at, ids_of, Comes, Ranks, GoesOff, RowOff, Standing}
use Rattle.gix_traverse_topo.specs.Turns.{times, names_of, named_so_far, SameBag, Fresh, Rising, Waits, Ranked}
use Rattle.gix_traverse_topo.specs.Waiting.{waiting, Joined, Popped}
use Rattle.gix_traverse_topo.specs.declared.init.Sorting.{Sorting}
use Rattle.gix_traverse_topo.specs.declared.init.Sorting.TheVariants.{DateOrder, TopoOrder}
use Rattle.gix_traverse_topo.specs.declared.known.Known.{Known}
use Rattle.gix_traverse_topo.specs.declared.known.Facts.{Facts}
use Rattle.gix_traverse_topo.specs.declared.ready.Pending.{Pending}
use Rattle.gix_traverse_topo.specs.declared.ready.Ready.{Ready}
use Rattle.gix_traverse_topo.specs.declared.ready.Ready.TheVariants.{ByDate, Topological}
use Rattle.gix_traverse_topo.proofs.Counting.{at_id}
use Rattle.gix_traverse_topo.proofs.Degree.{total_push}
use Rattle.gix_traverse_topo.proofs.Freeing as freeing
use Rattle.gix_traverse_topo.proofs.Turns as turns

pub times_permuted : (p : ObjectId → Bool) (xs ys : List ObjectId) → IsPermutation xs ys → times p xs ≡ times p ys
times_permuted p xs ys h =
    let a = is_sum_by (times p) (λ x. cond (p x) 1 0) refl (λ x zs. refl) xs in
    let b = is_sum_by (times p) (λ x. cond (p x) 1 0) refl (λ x zs. refl) ys in
    a ∙ sym (sum_by-IsPermutation (λ x. cond (p x) 1 0) xs ys h) ∙ sym b

pub ids_append : (keys : List ObjectId) (ps qs : List Pending) → ids_of keys (ps ++ qs) ≡ ids_of keys ps ++ ids_of keys qs
ids_append keys [] qs = refl
ids_append keys (p ∷ ps) qs = ap (λ (zs : List ObjectId). id_at keys p.number.0 ∷ zs) (ids_append keys ps qs)

pub ids_permuted : (keys : List ObjectId) (ps qs : List Pending) → IsPermutation ps qs → SameBag same_id (ids_of keys ps) (ids_of keys qs)
ids_permuted keys ps qs h y = times_permuted (same_id y) (ids_of keys ps) (ids_of keys qs) (IsPermutation-map (λ (p : Pending). id_at keys p.number.0) ps qs h)

-- ---- those that wait, before and after

pub popped_bag : (keys : List ObjectId) (a b : Ready) (p : Pending) → Popped a p b → SameBag same_id (ids_of keys (waiting a)) (id_at keys p.number.0 ∷ ids_of keys (waiting b))
popped_bag keys (ByDate a) (ByDate b) p (h, i) y = ids_permuted keys (heap_items a) (p ∷ heap_items b) h y
popped_bag keys (Topological a) (Topological b) p e y =
    let f = ap (λ (zs : List Pending). times (same_id y) (ids_of keys zs)) e in
    let g = ap (times (same_id y)) (ids_append keys b.items (p ∷ [])) in
    let k = turns.times_append (same_id y) (ids_of keys b.items) (id_at keys p.number.0 ∷ []) in
    omega arith
popped_bag keys (ByDate a) (Topological b) p h y = absurd h
popped_bag keys (Topological a) (ByDate b) p h y = absurd h

pub joined_bag : (keys : List ObjectId) (a b : Ready) (ps : List Pending) → Joined a ps b → SameBag same_id (ids_of keys (waiting b)) (ids_of keys (waiting a) ++ ids_of keys ps)
joined_bag keys (ByDate a) (ByDate b) ps (h, i) y =
    let f = ids_permuted keys (heap_items a ++ ps) (heap_items b) h y in
    let g = ap (times (same_id y)) (ids_append keys (heap_items a) ps) in
    sym f ∙ g
joined_bag keys (Topological a) (Topological b) ps e y = ap (λ (zs : List Pending). times (same_id y) (ids_of keys zs)) e ∙ ap (times (same_id y)) (ids_append keys a.items ps)
joined_bag keys (ByDate a) (Topological b) ps h y = absurd h
joined_bag keys (Topological a) (ByDate b) ps h y = absurd h

pub popped_in : (a b : Ready) (p : Pending) → Popped a p b → Contains (waiting a) p
popped_in (ByDate a) (ByDate b) p (h, i) = Contains-permutation (p ∷ heap_items b) (heap_items a) p (IsPermutation-sym (heap_items a) (p ∷ heap_items b) h) (contains_from_at (p ∷ heap_items b) 0 p refl)
popped_in (Topological a) (Topological b) p e = subst (λ (zs : List Pending). Contains zs p) (sym e) (Contains-push b.items p)
popped_in (ByDate a) (Topological b) p h = absurd h
popped_in (Topological a) (ByDate b) p h = absurd h

pub popped_rest : (a b : Ready) (p q : Pending) → Popped a p b → Contains (waiting b) q → Contains (waiting a) q
popped_rest (ByDate a) (ByDate b) p q (h, i) c = Contains-permutation (p ∷ heap_items b) (heap_items a) q (IsPermutation-sym (heap_items a) (p ∷ heap_items b) h) (Contains-append_right (p ∷ []) (heap_items b) q c)
popped_rest (Topological a) (Topological b) p q e c = subst (λ (zs : List Pending). Contains zs q) (sym e) (Contains-append_left b.items (p ∷ []) q c)
popped_rest (ByDate a) (Topological b) p q h c = absurd h
popped_rest (Topological a) (ByDate b) p q h c = absurd h

pub joined_in : (a b : Ready) (ps : List Pending) (q : Pending) → Joined a ps b → Contains (waiting b) q → Contains (waiting a) q ⊎ Contains ps q
joined_in (ByDate a) (ByDate b) ps q (h, i) c = Contains-append_cases (heap_items a) ps q (Contains-permutation (heap_items b) (heap_items a ++ ps) q (IsPermutation-sym (heap_items a ++ ps) (heap_items b) h) c)
joined_in (Topological a) (Topological b) ps q e c = Contains-append_cases a.items ps q (subst (λ (zs : List Pending). Contains zs q) e c)
joined_in (ByDate a) (Topological b) ps q h c = absurd h
joined_in (Topological a) (ByDate b) ps q h c = absurd h

-- of the ids of those that wait each is that of one that waits
pub from_ids : (keys : List ObjectId) (ps : List Pending) (y : ObjectId) → Contains (ids_of keys ps) y → (p : Pending) × Contains ps p × (id_at keys p.number.0 ≡ y)
from_ids keys ps y c = let (k, a) = at_from_contains (ids_of keys ps) y c in go ps k a
  where
    go : (ps : List Pending) (k : ℕ) → At (ids_of keys ps) k y → (p : Pending) × Contains ps p × (id_at keys p.number.0 ≡ y)
    go [] k a = absurd (none_at_nil k y a)
    go (p ∷ ps) zero a = (p, contains_from_at (p ∷ ps) 0 p refl, cc)
    go (p ∷ ps) (suc k) a = let (q, c, e) = go ps k a in (q, Contains-append_right (p ∷ []) ps q c, e)

-- ---- the order

module _ (way : ObjectId → List ObjectId) (tips : List ObjectId) (time : ObjectId → ℤ) (keys before : List ObjectId) where
  -- the one whose turn it is comes before the others
  pub popped_first : (sorting : Sorting) (a b : Ready) (p : Pending) → Popped a p b → Ranks sorting way tips time keys before a → ((q : Pending) → Contains (waiting a) q → q.time ≡ time (id_at keys q.number.0)) → (y : ObjectId) → Contains (ids_of keys (waiting b)) y → Comes sorting way tips time before (id_at keys p.number.0) y
  popped_first DateOrder (ByDate a) (ByDate b) p (h, i) heap timed y c =
      let (q, d, e) = from_ids keys (heap_items b) y c in
      let l = (i heap).1 q d in
      let tp = timed p (popped_in (ByDate a) (ByDate b) p (h, i)) in
      let tq = timed q (popped_rest (ByDate a) (ByDate b) p q (h, i) d) in
      subst (λ (z : ObjectId). time z ≤ℤ time (id_at keys p.number.0)) e (subst (λ (n : ℤ). time (id_at keys q.number.0) ≤ℤ n) tp (subst (λ (n : ℤ). n ≤ℤ p.time) tq l))
  popped_first TopoOrder (Topological a) (Topological b) p e ranked timed y c =
      let (k, at) = at_from_contains (ids_of keys b.items) y c in
      let within = slice_get_within (ids_of keys b.items) k y at in
      let same : ids_of keys a.items ≡ ids_of keys b.items ++ id_at keys p.number.0 ∷ [] = ap (ids_of keys) e ∙ ids_append keys b.items (p ∷ []) in
      ranked.over k (length (ids_of keys b.items)) y (id_at keys p.number.0) within
      (subst (λ (zs : List ObjectId). At zs k y) (sym same) (push_at (ids_of keys b.items) (id_at keys p.number.0) k y at))
      (subst (λ (zs : List ObjectId). At zs (length (ids_of keys b.items)) (id_at keys p.number.0)) (sym same) (at_append (ids_of keys b.items) (id_at keys p.number.0) []))
    where
      push_at : (zs : List ObjectId) (v : ObjectId) (k : ℕ) (w : ObjectId) → At zs k w → At (zs ++ v ∷ []) k w
      push_at [] v k w a = absurd (none_at_nil k w a)
      push_at (z ∷ zs) v zero w a = a
      push_at (z ∷ zs) v (suc k) w a = push_at zs v k w a
  popped_first DateOrder (ByDate a) (Topological b) p h r timed y c = absurd h
  popped_first DateOrder (Topological a) b p h r timed y c = absurd r
  popped_first TopoOrder (ByDate a) b p h r timed y c = absurd r
  popped_first TopoOrder (Topological a) (ByDate b) p h r timed y c = absurd h

  -- those that wait then are in the order that is wanted
  pub ranks_step : (S : ObjectId → Type 0) (sorting : Sorting) (a b c : Ready) (p : Pending) (more : List Pending) → Popped a p b → Joined b more c → Ranks sorting way tips time keys before a → Waits same_id way S (Comes sorting way tips time) before (ids_of keys (waiting a)) → ((y : ObjectId) → Contains (ids_of keys more) y → Contains (way (id_at keys p.number.0)) y) → Rising (way (id_at keys p.number.0)) (ids_of keys more) → Ranks sorting way tips time keys (before ++ id_at keys p.number.0 ∷ []) c
  ranks_step S DateOrder (ByDate a) (ByDate b) (ByDate c) p more (h, i) (j, k) heap w some up = k (i heap).0
  ranks_step S TopoOrder (Topological a) (Topological b) (Topological c) p more e j ranked w some up =
      let x = id_at keys p.number.0 in
      let same : ids_of keys a.items ≡ ids_of keys b.items ++ x ∷ [] = ap (ids_of keys) e ∙ ids_append keys b.items (p ∷ []) in
      let goal : ids_of keys c.items ≡ ids_of keys b.items ++ ids_of keys more = ap (ids_of keys) j ∙ ids_append keys b.items more in
      subst (λ (zs : List ObjectId). Ranked way tips time (before ++ x ∷ []) zs) (sym goal)
      (turns.ranked_step same_id same_id_apart way S (Outranks way tips time) before (ids_of keys a.items) (ids_of keys b.items) x w (popped_bag keys (Topological a) (Topological b) p e) tips time (ids_of keys more) some up (subst (λ (zs : List ObjectId). Ranked way tips time before zs) same ranked))
  ranks_step S DateOrder (ByDate a) (ByDate b) (Topological c) p more h j r w some up = absurd j
  ranks_step S DateOrder (ByDate a) (Topological b) c p more h j r w some up = absurd h
  ranks_step S DateOrder (Topological a) b c p more h j r w some up = absurd r
  ranks_step S TopoOrder (ByDate a) b c p more h j r w some up = absurd r
  ranks_step S TopoOrder (Topological a) (ByDate b) c p more h j r w some up = absurd h
  ranks_step S TopoOrder (Topological a) (Topological b) (ByDate c) p more h j r w some up = absurd j

-- ---- one step

module _ (sorting : Sorting) (rows : List Row) (h : Commits ObjectId) (tips : List ObjectId) (parents : Parents) (hs xs finished : List ObjectId) (known : Known) (ready : Ready) (st : Standing sorting rows h tips parents hs xs finished known ready) (p : Pending) (ready' : Ready) (popped : Popped ready p ready') where
  pub x_of : (x : ObjectId) × (hidden_in known.nodes.items ≤ p.number.0) × At known.ids.keys p.number.0 x × (p.time ≡ (h x).time)
  x_of = st.numbered p (popped_in ready ready' p popped)

  module _ (x : ObjectId) (here : At known.ids.keys p.number.0 x) where
    pub x_is : id_at known.ids.keys p.number.0 ≡ x
    x_is = at_id known.ids.keys p.number.0 x here

    pub bag : SameBag same_id (ids_of known.ids.keys (waiting ready)) (x ∷ ids_of known.ids.keys (waiting ready'))
    bag = subst (λ (z : ObjectId). SameBag same_id (ids_of known.ids.keys (waiting ready)) (z ∷ ids_of known.ids.keys (waiting ready'))) x_is (popped_bag known.ids.keys ready ready' p popped)

    pub top : Contains xs x × (Contains finished x → ⊥) × IsReady (asked_parents parents h) (Contains xs) finished x
    top = turns.top same_id same_id_apart (asked_parents parents h) (Contains xs) (Comes sorting (asked_parents parents h) tips (λ y. (h y).time)) finished (ids_of known.ids.keys (waiting ready)) (ids_of known.ids.keys (waiting ready')) x st.waits bag

    pub xs_once : IsOnce xs
    xs_once j k y a b =
        let at' : (i : ℕ) → At xs i y → At known.ids.keys (length hs + i) y = λ i c. subst (λ (zs : List ObjectId). At zs (length hs + i) y) (sym st.keys_are) (behind hs i c) in
        let e = st.keys_once (length hs + j) (length hs + k) y (at' j a) (at' k b) in
        omega arith
      where
        behind : (zs : List ObjectId) (i : ℕ) → At xs i y → At (zs ++ xs) (length zs + i) y
        behind [] i c = let f : 0 + i ≡ i = omega arith in subst (λ (n : ℕ). At xs n y) (sym f) c
        behind (z ∷ zs) i c = let f : suc (length zs) + i ≡ suc (length zs + i) = omega arith in subst (λ (n : ℕ). At (z ∷ (zs ++ xs)) n y) (sym f) (behind zs i c)

    -- its names may be counted off
    pub goes_off : (row : List ObjectId) → row ≡ asked_parents parents h x → GoesOff (asked_parents parents h) h finished row hs xs known
    goes_off row e = record {
      keys_are = st.keys_are;
      hidden_are = st.hidden_are;
      keys_once = st.keys_once;
      all_read = st.all_read;
      room = λ m y a c. freeing.room_in_row same_id same_id_apart (asked_parents parents h) xs xs_once finished row x e st.waits.before_once st.waits.inside top.0 top.1 m y a;
      timed = λ n y facts l a c b. (st.tells n y facts l a b (λ f. turns.child_inside same_id same_id_apart (asked_parents parents h) (Contains xs) (Comes sorting (asked_parents parents h) tips (λ z. (h z).time)) finished (ids_of known.ids.keys (waiting ready)) (ids_of known.ids.keys (waiting ready')) x st.waits bag y f (subst (λ (zs : List ObjectId). Contains zs y) e c))).time;
      counted = λ n y count l a b. let o = st.counted n y count l a b in let z : times (same_id y) (take 0 row) ≡ 0 = none y row in omega arith;
    }
      where
        none : (y : ObjectId) (zs : List ObjectId) → times (same_id y) (take 0 zs) ≡ 0
        none y [] = refl
        none y (z ∷ zs) = refl

    -- the step
    pub step : (row : List ObjectId) (m : ℕ) (known' : Known) (ready'' : Ready) → row ≡ asked_parents parents h x → length row ≤ m → RowOff (hidden_in known.nodes.items) known.ids.keys (asked_parents parents h) h finished row xs ready' m (counts known'.nodes.items) ready'' → known'.ids ≡ known.ids → hidden_in known'.nodes.items ≡ hidden_in known.nodes.items → length known'.nodes.items ≡ length known.nodes.items → ((k : ℕ) (facts : Facts) → (k ≡ p.number.0 → ⊥) → At (all_facts known'.nodes.items) k facts → At (all_facts known.nodes.items) k facts) → Standing sorting rows h tips parents hs xs (finished ++ x ∷ []) known' ready''
    step row m known' ready'' e long r same_ids same_hidden same_length others = record {
      keys_are = ap (λ i. i.keys) same_ids ∙ st.keys_are;
      hidden_are = same_hidden ∙ st.hidden_are;
      keys_once = subst (λ (zs : List ObjectId). IsOnce zs) (sym keys_same) st.keys_once;
      all_read = same_length ∙ st.all_read ∙ sym (ap length keys_same);
      tells = λ n y facts l a b out. st.tells n y facts (subst (λ (k : ℕ). k ≤ n) same_hidden l) (back n y a) (others n facts (λ f. out (subst (λ (z : ObjectId). Contains (finished ++ x ∷ []) z) (at_one known.ids.keys p.number.0 x y here (subst (λ (k : ℕ). At known.ids.keys k y) f (back n y a))) (Contains-push finished x))) b) (λ f. out (Contains-append_left finished (x ∷ []) y f));
      counted = λ n y count l a b. let o = r.counted n y count (subst (λ (k : ℕ). k ≤ n) same_hidden l) (back n y a) b in let g = so_far y in omega arith;
      numbered = λ q c. numbered q (joined_in ready' ready'' r.more q r.joined c);
      waits = subst (λ (zs : List ObjectId). Waits same_id (asked_parents parents h) (Contains xs) (Comes sorting (asked_parents parents h) tips (λ y. (h y).time)) (finished ++ x ∷ []) (ids_of zs (waiting ready''))) (sym keys_same)
          (turns.waits_step same_id same_id_apart (asked_parents parents h) (Contains xs) (Comes sorting (asked_parents parents h) tips (λ y. (h y).time)) finished (ids_of known.ids.keys (waiting ready)) (ids_of known.ids.keys (waiting ready')) x st.waits bag (ids_of known.ids.keys r.more) (ids_of known.ids.keys (waiting ready'')) all.0 (joined_bag known.ids.keys ready' ready'' r.more r.joined)
          (λ y c. subst (λ (z : ObjectId). Comes sorting (asked_parents parents h) tips (λ v. (h v).time) finished z y) x_is (popped_first (asked_parents parents h) tips (λ v. (h v).time) known.ids.keys finished sorting ready ready' p popped st.ranks timed y c)));
      ranks = subst (λ (zs : List ObjectId). Ranks sorting (asked_parents parents h) tips (λ y. (h y).time) zs (finished ++ x ∷ []) ready'') (sym keys_same)
          (subst (λ (z : ObjectId). Ranks sorting (asked_parents parents h) tips (λ y. (h y).time) known.ids.keys (finished ++ z ∷ []) ready'') x_is
          (ranks_step (asked_parents parents h) tips (λ y. (h y).time) known.ids.keys finished (Contains xs) sorting ready ready' ready'' p r.more popped r.joined st.ranks st.waits
          (λ y c. subst (λ (z : ObjectId). Contains (asked_parents parents h z) y) (sym x_is) (all.0.some y c).1)
          (subst (λ (z : ObjectId). Rising (asked_parents parents h z) (ids_of known.ids.keys r.more)) (sym x_is) all.1)));
    }
      where
        keys_same : known'.ids.keys ≡ known.ids.keys
        keys_same = ap (λ i. i.keys) same_ids

        back : (n : ℕ) (y : ObjectId) → At known'.ids.keys n y → At known.ids.keys n y
        back n y a = subst (λ (zs : List ObjectId). At zs n y) keys_same a

        all : Fresh same_id (asked_parents parents h) (Contains xs) finished x (ids_of known.ids.keys r.more) × Rising (asked_parents parents h x) (ids_of known.ids.keys r.more)
        all = freeing.freed_all same_id same_id_apart (asked_parents parents h) xs xs_once finished row x m (ids_of known.ids.keys r.more) e st.waits.before_once st.waits.inside top.0 top.1 long r.freed

        timed : (q : Pending) → Contains (waiting ready) q → q.time ≡ (h (id_at known.ids.keys q.number.0)).time
        timed q c = let (y, l, a, t) = st.numbered q c in t ∙ ap (λ (z : ObjectId). (h z).time) (sym (at_id known.ids.keys q.number.0 y a))

        whole : (zs : List ObjectId) (n : ℕ) → length zs ≤ n → take n zs ≡ zs
        whole [] zero l = refl
        whole [] (suc n) l = refl
        whole (y ∷ zs) zero l = absurd (omega arith)
        whole (y ∷ zs) (suc n) l = ap (λ (ys : List ObjectId). y ∷ ys) (whole zs n (omega arith))

        so_far : (y : ObjectId) → named_so_far same_id (asked_parents parents h) finished row m y ≡ names_of same_id (asked_parents parents h) y (finished ++ x ∷ [])
        so_far y =
            let a = total_push (λ c. times (same_id y) (asked_parents parents h c)) finished x in
            let b : times (same_id y) (take m row) ≡ times (same_id y) (asked_parents parents h x) = ap (times (same_id y)) (whole row m long ∙ e) in
            omega arith

        numbered : (q : Pending) → Contains (waiting ready') q ⊎ Contains r.more q → (y : ObjectId) × (hidden_in known'.nodes.items ≤ q.number.0) × At known'.ids.keys q.number.0 y × (q.time ≡ (h y).time)
        numbered q (inl c) = let (y, l, a, t) = st.numbered q (popped_rest ready ready' p q popped c) in (y, subst (λ (k : ℕ). k ≤ q.number.0) (sym same_hidden) l, subst (λ (zs : List ObjectId). At zs q.number.0 y) (sym keys_same) a, t)
        numbered q (inr c) = let (y, l, a, t) = r.numbered q c in (y, subst (λ (k : ℕ). k ≤ q.number.0) (sym same_hidden) l, subst (λ (zs : List ObjectId). At zs q.number.0 y) (sym keys_same) a, t)
