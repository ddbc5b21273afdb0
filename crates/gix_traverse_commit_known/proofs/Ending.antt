-- No commit comes more often than it may.
use Rattle.std.proofs.Common.{◌≡◌, ◌∙◌, ℕ, zero, suc, ◌+◌, ◌≤◌, ◌<◌, ◌⊎◌, inl, inr, refl, sym, ap, subst, arith, List, [], ◌∷◌, ◌++◌, map, Bool, true, false, cond}
use Rattle.std.specs.Prelude.{Contains, not, ◌&&◌}
use Rattle.std.specs.List.{count_by, sum_by}
use Rattle.std.proofs.lemmas.List.Elements.{Contains-append_left, Contains-append_right}
use Rattle.std.proofs.lemmas.List.Sums.{sum_by-cons, sum_by_push}
use Rattle.gix_hash.specs.Id.{Id, id_of}
use Rattle.gix_hash.specs.Order.{id_eq}
use Rattle.gix_hash.specs.OrderLaws.{id_eq-itself, id_eq-same}
use Rattle.gix_hash.specs.Packed.{object_id_of, object_id_of-id_of}
use Rattle.gix_hash.specs.declared.object_id.ObjectId.{ObjectId}
use Rattle.gix_traverse_commit_known.specs.Ending.{NoneGains, is_empty, may_come, met_under, times_in, times_waiting, known_ids}
use Rattle.gix_traverse_commit_known.specs.Nodes.{Node, has, is_met, flags_in}
use Rattle.gix_traverse_graph.specs.Numbered.{same_id}
use Rattle.gix_traverse_graph.specs.Order.{At}
use Rattle.gix_traverse_commit_known.specs.Asked.{IsKnown}
use Rattle.gix_traverse_commit_known.specs.Timely.{IsTaken, Waits}
use Rattle.gix_traverse_graph.specs.declared.rows.Row.{Row}
use Rattle.gix_traverse_graph.specs.declared.sorting.CommitTimeOrder.{CommitTimeOrder}
use Rattle.gix_traverse_graph.specs.declared.sorting.CommitTimeOrder.TheVariants.{NewestFirst, OldestFirst}
use Rattle.gix_traverse_commit_known.specs.declared.waiting.Turn.{Turn}
use Rattle.gix_traverse_graph.proofs.Ids.{same_from_test}
use Rattle.gix_traverse_graph.proofs.Lists.{at_from_contains, none_at_nil}
use Rattle.gix_traverse_commit_known.proofs.NodeLemmas.{find_none}
use Rattle.gix_traverse_commit_known.proofs.Pending.{in_head, in_tail}
use Rattle.std.proofs.lemmas.Bool.{false_from_ne_true}
use Rattle.gix_traverse_commit_known.specs.declared.nodes.TheConstants.WalkFlags.{SEEN}

-- ---- counting

abbrev one : Bool → ℕ
one b = cond b 1 0

abbrev none_yet : Bool → ℕ
none_yet b = cond b 0 1

-- how often an id is in a list of one
pub times_one : (y : ObjectId) (id : Id) → times_in (y ∷ []) id ≡ cond (id_eq id (id_of y)) 1 0
times_one y id = let e = sum_by-cons (λ (x : ObjectId). cond (id_eq id (id_of x)) 1 0) y [] in omega (arith, e)

pub times_push : (xs : List ObjectId) (y : ObjectId) (id : Id) → times_in (xs ++ y ∷ []) id ≡ times_in xs id + times_in (y ∷ []) id
times_push xs y id = sum_by_push (λ (x : ObjectId). cond (id_eq id (id_of x)) 1 0) xs y ∙ ap (λ (n : ℕ). times_in xs id + n) (sym (times_one y id))

pub times_first : (y : ObjectId) (xs : List ObjectId) (id : Id) → times_in (y ∷ xs) id ≡ times_in (y ∷ []) id + times_in xs id
times_first y xs id = sum_by-cons (λ (x : ObjectId). cond (id_eq id (id_of x)) 1 0) y xs ∙ ap (λ (n : ℕ). n + times_in xs id) (sym (times_one y id))

-- one of the list passes
count_some : {X : Type 0} (p : X → Bool) (xs : List X) (x : X) → Contains xs x → p x ≡ true → 1 ≤ count_by p xs
count_some {X} p xs x c e = let (k, a) = at_from_contains xs x c in go xs k a
  where
    go : (xs : List X) (k : ℕ) → At xs k x → 1 ≤ count_by p xs
    go [] k a = absurd (none_at_nil k x a)
    go (y ∷ ys) zero a =
        let same : y ≡ x = cc in
        let yes : one (p y) ≡ 1 = ap one (subst (λ (z : X). p z ≡ true) (sym same) e) in
        let f = sum_by-cons (λ (z : X). cond (p z) 1 0) y ys in
        omega (arith, yes, f)
    go (y ∷ ys) (suc k) a =
        let next = go ys k a in
        let f = sum_by-cons (λ (z : X). cond (p z) 1 0) y ys in
        omega (arith, next, f)

-- none of the list passes
count_none : {X : Type 0} (p : X → Bool) (xs : List X) → ((x : X) → p x ≡ false) → count_by p xs ≡ 0
count_none p [] none = refl
count_none {X} p (x ∷ xs) none =
    let next = count_none p xs none in
    let f = sum_by-cons (λ (z : X). cond (p z) 1 0) x xs in
    let e : one (p x) ≡ 0 = ap one (none x) in
    omega (arith, next, f, e)

pub times_some : (xs : List ObjectId) (x : ObjectId) → Contains xs x → 1 ≤ times_in xs (id_of x)
times_some xs x c = count_some (λ (y : ObjectId). id_eq (id_of x) (id_of y)) xs x c (id_eq-itself (id_of x))

pub waiting_some : (turns : List Turn) (x : ObjectId) → Waits turns x → 1 ≤ times_waiting turns (id_of x)
waiting_some turns x (t, c, e) = count_some (λ (t : Turn). id_eq (id_of x) (id_of t.id)) turns t c (subst (λ (y : ObjectId). id_eq (id_of x) (id_of y) ≡ true) (sym e) (id_eq-itself (id_of x)))

-- ---- one less waits

pub taken_less : (order : CommitTimeOrder) (old : List Turn) (turn : Turn) (new : List Turn) → IsTaken order old turn new → (id : Id) → times_waiting old id ≡ times_in (turn.id ∷ []) id + times_waiting new id
taken_less NewestFirst old turn new (e, all) id =
    let a = ap (λ (ts : List Turn). times_waiting ts id) e in
    let b = sum_by_push (λ (t : Turn). cond (id_eq id (id_of t.id)) 1 0) new turn in
    let f = times_one turn.id id in
    omega (arith, a, b, f)
taken_less OldestFirst old turn new (e, all) id =
    let a = ap (λ (ts : List Turn). times_waiting ts id) e in
    let b = sum_by-cons (λ (t : Turn). cond (id_eq id (id_of t.id)) 1 0) turn new in
    let f = times_one turn.id id in
    omega (arith, a, b, f)

-- ---- a commit is met

-- what stays met may come no more often
still : (a b : Bool) → (a ≡ true → b ≡ true) → none_yet b ≤ none_yet a
still true b h = let f : none_yet b ≡ 0 = ap none_yet (h refl) in omega (arith, f)
still false true h = omega arith
still false false h = omega arith

pub gains_none : (nodes : List Node) (f : Id → ℕ) → NoneGains nodes f nodes f
gains_none nodes f x = omega arith

pub gains_more : (n₁ n₂ n₃ : List Node) (f₁ f₂ f₃ : Id → ℕ) → NoneGains n₁ f₁ n₂ f₂ → NoneGains n₂ f₂ n₃ f₃ → NoneGains n₁ f₁ n₃ f₃
gains_more n₁ n₂ n₃ f₁ f₂ f₃ h k x = let a = h x in let b = k x in omega (arith, a, b)

module _ (nodes nodes' : List Node) (f f' : Id → ℕ) where
  -- the same, with what is queued elsewhere
  pub gains_before : (k : Id → ℕ) → NoneGains nodes f nodes' f' → NoneGains nodes (λ id. f id + k id) nodes' (λ id. f' id + k id)
  gains_before k h x = let a = h x in omega (arith, a)

  pub gains_behind : (k : Id → ℕ) → NoneGains nodes f nodes' f' → NoneGains nodes (λ id. k id + f id) nodes' (λ id. k id + f' id)
  gains_behind k h x = let a = h x in omega (arith, a)

  -- nothing is queued any more, and what isn't met wasn't, or was queued
  pub gains_gathered : ((id : Id) → f' id ≡ 0) → ((x : ObjectId) → is_met nodes' x ≡ false → (is_met nodes x ≡ false) ⊎ (1 ≤ f (id_of x))) → NoneGains nodes f nodes' f'
  gains_gathered empty from x = go (is_met nodes' x) refl
    where
      none : f' (id_of x) ≡ 0
      none = empty (id_of x)

      go : (b : Bool) → is_met nodes' x ≡ b → may_come nodes' f' (id_of x) ≤ may_come nodes f (id_of x)
      go true e = let a : none_yet (is_met nodes' x) ≡ 0 = ap none_yet e in omega (arith, a, none)
      go false e =
          let a : none_yet (is_met nodes' x) ≡ 1 = ap none_yet e in
          elim (from x e) [
            | inl g ↦ (let b : none_yet (is_met nodes x) ≡ 1 = ap none_yet g in omega (arith, a, b, none))
            | inr l ↦ omega (arith, a, l, none)
          ]

  module _ (grown : (x : ObjectId) → is_met nodes x ≡ true → is_met nodes' x ≡ true) where
    pub gains_same : ((id : Id) → f' id ≤ f id) → NoneGains nodes f nodes' f'
    gains_same less x = let a = less (id_of x) in let b = still (is_met nodes x) (is_met nodes' x) (grown x) in omega (arith, a, b)

    -- a commit that wasn't met is met, and queued once at most
    pub gains_met : (y : ObjectId) → is_met nodes y ≡ false → is_met nodes' y ≡ true → ((id : Id) → f' id ≤ f id + times_in (y ∷ []) id) → NoneGains nodes f nodes' f'
    gains_met y before now more x = go (same_id x y) refl
      where
        go : (b : Bool) → same_id x y ≡ b → may_come nodes' f' (id_of x) ≤ may_come nodes f (id_of x)
        go true e =
            let same : y ≡ x = sym (same_from_test x y e) in
            let a : none_yet (is_met nodes' x) ≡ 0 = ap none_yet (subst (λ (z : ObjectId). is_met nodes' z ≡ true) same now) in
            let b : none_yet (is_met nodes x) ≡ 1 = ap none_yet (subst (λ (z : ObjectId). is_met nodes z ≡ false) same before) in
            let yes : times_in (y ∷ []) (id_of x) ≡ 1 = times_one y (id_of x) ∙ ap one e in
            let m = more (id_of x) in
            omega (arith, a, b, yes, m)
        go false e =
            let none : times_in (y ∷ []) (id_of x) ≡ 0 = times_one y (id_of x) ∙ ap one e in
            let b = still (is_met nodes x) (is_met nodes' x) (grown x) in
            let m = more (id_of x) in
            omega (arith, b, none, m)

-- what passes a test and isn't hidden isn't hidden
pub and_not : (a b : Bool) → (not a && b) ≡ true → a ≡ false
and_not true b e = let z : ⊥ = cc in absurd z
and_not false b e = refl

-- a commit is queued if it wasn't met and joins
pub gains_queued : (nodes nodes' : List Node) (queue queue' : List ObjectId) (y : ObjectId) (joins : Bool) → ((x : ObjectId) → is_met nodes x ≡ true → is_met nodes' x ≡ true) → (joins ≡ true → is_met nodes' y ≡ true) → queue' ≡ cond (is_met nodes y) queue (cond joins (queue ++ y ∷ []) queue) → NoneGains nodes (times_in queue) nodes' (times_in queue')
gains_queued nodes nodes' queue queue' y joins grown now e = go (is_met nodes y) refl joins refl
  where
    stays : queue' ≡ queue → NoneGains nodes (times_in queue) nodes' (times_in queue')
    stays s = gains_same nodes nodes' (times_in queue) (times_in queue') grown (λ id. let t = ap (λ (zs : List ObjectId). times_in zs id) s in omega (arith, t))

    go : (m : Bool) → is_met nodes y ≡ m → (j : Bool) → joins ≡ j → NoneGains nodes (times_in queue) nodes' (times_in queue')
    go true f j k = stays (e ∙ ap (λ (b : Bool). cond b queue (cond joins (queue ++ y ∷ []) queue)) f)
    go false f false k = stays (e ∙ ap (λ (b : Bool). cond b queue (cond joins (queue ++ y ∷ []) queue)) f ∙ ap (λ (b : Bool). cond b (queue ++ y ∷ []) queue) k)
    go false f true k =
        let s : queue' ≡ queue ++ y ∷ [] = e ∙ ap (λ (b : Bool). cond b queue (cond joins (queue ++ y ∷ []) queue)) f ∙ ap (λ (b : Bool). cond b (queue ++ y ∷ []) queue) k in
        gains_met nodes nodes' (times_in queue) (times_in queue') grown y f (now k) (λ id. let t = ap (λ (zs : List ObjectId). times_in zs id) s in let u = times_push queue y id in omega (arith, t, u))

-- ---- a commit comes

-- the id is that of a value, or of none
value_of : (id : Id) → ((y : ObjectId) × (id_of y ≡ id)) ⊎ ((y : ObjectId) → id_eq id (id_of y) ≡ false)
value_of id = go (id_eq id (id_of (object_id_of id))) refl
  where
    go : (b : Bool) → id_eq id (id_of (object_id_of id)) ≡ b → ((y : ObjectId) × (id_of y ≡ id)) ⊎ ((y : ObjectId) → id_eq id (id_of y) ≡ false)
    go true e = inl (object_id_of id, sym (id_eq-same id (id_of (object_id_of id)) e))
    go false e = inr (λ y. false_from_ne_true (id_eq id (id_of y)) (λ t.
        let s : object_id_of id ≡ y = ap object_id_of (id_eq-same id (id_of y) t) ∙ object_id_of-id_of y in
        let u : id_eq id (id_of (object_id_of id)) ≡ true = subst (λ (z : ObjectId). id_eq id (id_of z) ≡ true) (sym s) t in
        let z : ⊥ = cc in z))

-- no id may come more often, if no commit may
each_id : (nodes nodes' : List Node) (queue queue' : List ObjectId) (turns turns' : List Turn)
    → NoneGains nodes (λ id. times_in queue id + times_waiting turns id) nodes' (λ id. times_in queue' id + times_waiting turns' id)
    → (id : Id) → may_come nodes' (λ id. times_in queue' id + times_waiting turns' id) id ≤ may_come nodes (λ id. times_in queue id + times_waiting turns id) id
each_id nodes nodes' queue queue' turns turns' h id = elim (value_of id) [
  | inl v ↦ subst (λ (i : Id). may_come nodes' (λ id. times_in queue' id + times_waiting turns' id) i ≤ may_come nodes (λ id. times_in queue id + times_waiting turns id) i) v.1 (h v.0)
  | inr none ↦ (
      let a : met_under nodes id ≡ false = ap (λ r. has (flags_in r) SEEN) (find_none (λ (node : Node). id_eq id (id_of node.id)) nodes (λ y j c t. let f = none y.id in let z : ⊥ = cc in z)) in
      let b : none_yet (met_under nodes id) ≡ 1 = ap none_yet a in
      let q = count_none (λ (x : ObjectId). id_eq id (id_of x)) queue' (λ x. none x) in
      let w = count_none (λ (t : Turn). id_eq id (id_of t.id)) turns' (λ t. none t.id) in
      let s = still false (met_under nodes' id) (λ e. let z : ⊥ = cc in absurd z) in
      omega (arith, b, q, w, s))
]

sum_rises : (f g : Id → ℕ) (ids : List Id) → ((id : Id) → f id ≤ g id) → sum_by f ids ≤ sum_by g ids
sum_rises f g [] less = omega arith
sum_rises f g (id ∷ ids) less =
    let next = sum_rises f g ids less in
    let here = less id in
    let a = sum_by-cons f id ids in
    let b = sum_by-cons g id ids in
    omega (arith, next, here, a, b)

sum_falls : (f g : Id → ℕ) (ids : List Id) (id : Id) → ((id : Id) → f id ≤ g id) → f id < g id → Contains ids id → sum_by f ids < sum_by g ids
sum_falls f g ids id less falls c = let (k, a) = at_from_contains ids id c in go ids k a
  where
    go : (ids : List Id) (k : ℕ) → At ids k id → sum_by f ids < sum_by g ids
    go [] k a = absurd (none_at_nil k id a)
    go (i ∷ is) zero a =
        let same : i ≡ id = cc in
        let here : f i < g i = subst (λ (z : Id). f z < g z) (sym same) falls in
        let next = sum_rises f g is less in
        let x = sum_by-cons f i is in
        let y = sum_by-cons g i is in
        omega (arith, next, here, x, y)
    go (i ∷ is) (suc k) a =
        let next = go is k a in
        let here = less i in
        let x = sum_by-cons f i is in
        let y = sum_by-cons g i is in
        omega (arith, next, here, x, y)

-- what is known is among the ids that are
known_among : (rows : List Row) (ids : List Id) (x : ObjectId) → IsKnown rows ids x → Contains (known_ids rows ids) (id_of x)
known_among rows ids x (inl (row, c, e)) = Contains-append_left (map (λ (row : Row). id_of row.id) rows) ids (id_of x) (subst (λ (y : ObjectId). Contains (map (λ (row : Row). id_of row.id) rows) (id_of y)) e (let (k, a) = at_from_contains rows row c in go rows k a))
  where
    go : (rs : List Row) (k : ℕ) → At rs k row → Contains (map (λ (row : Row). id_of row.id) rs) (id_of row.id)
    go [] k a = absurd (none_at_nil k row a)
    go (r ∷ rs) zero a = let same : r ≡ row = cc in subst (λ (q : Row). Contains (map (λ (row : Row). id_of row.id) (r ∷ rs)) (id_of q.id)) same (in_head (id_of r.id) (map (λ (row : Row). id_of row.id) rs))
    go (r ∷ rs) (suc k) a = in_tail (id_of r.id) (map (λ (row : Row). id_of row.id) rs) (id_of row.id) (go rs k a)
known_among rows ids x (inr c) = Contains-append_right (map (λ (row : Row). id_of row.id) rows) ids (id_of x) c

-- a known commit comes, and then less is left
pub left_falls : (rows : List Row) (ids : List Id) (nodes nodes' : List Node) (queue queue' : List ObjectId) (turns turns' : List Turn) (y : ObjectId)
    → IsKnown rows ids y
    → ((x : ObjectId) → may_come nodes' (λ id. times_in queue' id + times_waiting turns' id) (id_of x) + times_in (y ∷ []) (id_of x) ≤ may_come nodes (λ id. times_in queue id + times_waiting turns id) (id_of x))
    → sum_by (may_come nodes' (λ id. times_in queue' id + times_waiting turns' id)) (known_ids rows ids) < sum_by (may_come nodes (λ id. times_in queue id + times_waiting turns id)) (known_ids rows ids)
left_falls rows ids nodes nodes' queue queue' turns turns' y known less =
    let yes : times_in (y ∷ []) (id_of y) ≡ 1 = times_one y (id_of y) ∙ ap one (id_eq-itself (id_of y)) in
    sum_falls (may_come nodes' (λ id. times_in queue' id + times_waiting turns' id)) (may_come nodes (λ id. times_in queue id + times_waiting turns id)) (known_ids rows ids) (id_of y)
    (each_id nodes nodes' queue queue' turns turns' (λ x. let a = less x in omega (arith, a)))
    (let a = less y in omega (arith, a, yes))
    (known_among rows ids y known)

-- ---- an answer comes

pub empty_from : {X : Type 0} (xs : List X) → is_empty xs ≡ true → xs ≡ []
empty_from [] e = refl
empty_from (x ∷ xs) e = let z : ⊥ = cc in absurd z

pub empty_test : {X : Type 0} (xs : List X) → xs ≡ [] → is_empty xs ≡ true
empty_test xs e = ap is_empty e

-- a commit comes, and then fewer answers may
pub fewer_left : (b b' : Bool) (m m' : ℕ) → (b ≡ true → ⊥) → m' < m → cond b' 0 (m' + 1) < cond b 0 (m + 1)
fewer_left true b' m m' on less = absurd (on refl)
fewer_left false true m m' on less = omega arith
fewer_left false false m m' on less = omega (arith, less)

-- an error comes, and then none may
pub none_left : (b b' : Bool) (m m' : ℕ) → (b ≡ true → ⊥) → b' ≡ true → cond b' 0 (m' + 1) < cond b 0 (m + 1)
none_left true b' m m' on over = absurd (on refl)
none_left false true m m' on over = omega arith
none_left false false m m' on over = let z : ⊥ = cc in absurd z
