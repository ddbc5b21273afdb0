-- What is queued and what waits, by numbers.
use Rattle.std.proofs.Common.{◌≡◌, ◌∙◌, ℕ, ◌+◌, ◌≤◌, ◌⊎◌, zero, suc, ℤ, arith, inl, inr, refl, sym, ap, subst, List, [], ◌∷◌, ◌++◌, Option, None, Bool, true, false, cond}
use Rattle.std.specs.List.{count_by, list_any}
use Rattle.std.specs.Prelude.{◌↔◌, ◌≤ℤ◌, Contains, map, slice_get, unwrap_or}
use Rattle.std.specs.BTreeMap.Range.{IsLtBy}
use Rattle.std.proofs.lemmas.List.{map-append}
use Rattle.std.proofs.lemmas.List.Elements.{All-contains, Contains-append_cases, Contains-append_left, Contains-push}
use Rattle.std.proofs.lemmas.List.Sums.{sum_by-cons}
use Rattle.gix_hash.specs.Id.{Id, id_of}
use Rattle.gix_hash.specs.Order.{id_eq}
use Rattle.gix_hash.specs.declared.object_id.ObjectId.{ObjectId}
use Rattle.gix_hash.specs.declared.object_id.ObjectId.TheVariants.{Sha1}
use Rattle.gix_traverse_commit_known.specs.Known.{HaveNodes, KnownCommits, id_at, ids_at, turn_at, turns_of, waited_of}
use Rattle.gix_traverse_commit_known.specs.Ending.{times_in, times_waiting}
use Rattle.gix_traverse_commit_known.specs.Timely.{IsTaken, Joins, Waits}
use Rattle.gix_traverse_commit_known.specs.Waiting.{IsFirst, numbers_of, pending_cmp, still_among}
use Rattle.gix_traverse_commit_known.specs.Nodes.{Node, ids_of}
use Rattle.gix_traverse_graph.specs.Numbered.{same_id}
use Rattle.gix_traverse_graph.specs.Order.{At}
use Rattle.gix_traverse_commit_known.specs.declared.nodes.Number.{Number}
use Rattle.gix_traverse_graph.specs.declared.sorting.CommitTimeOrder.{CommitTimeOrder}
use Rattle.gix_traverse_graph.specs.declared.sorting.CommitTimeOrder.TheVariants.{NewestFirst, OldestFirst}
use Rattle.gix_traverse_commit_known.specs.declared.waiting.Pending.{Pending}
use Rattle.gix_traverse_commit_known.specs.declared.waiting.Turn.{Turn}
use Rattle.gix_traverse_commit_known.proofs.Ending.{times_one}
use Rattle.gix_traverse_graph.proofs.Lists.{at_from_contains, at_push, none_at_nil}
use Rattle.gix_traverse_commit_known.proofs.Pending.{from_map, in_head, in_tail, nothing_in}
use Rattle.gix_traverse_commit_known.proofs.Timely.{in_nil}
use Rattle.gix_traverse_commit_known.proofs.WaitingLemmas.{never_less, older_from_less, same_pending, still_waits}
use Rattle.gix_traverse_commit_known.proofs.Simply.{in_push}

-- each id that had a node has it still
abbrev pub Keeps : List Node → List Node → Type 0
Keeps nodes nodes' = (k : ℕ) (x : ObjectId) → At (ids_of nodes) k x → At (ids_of nodes') k x

pub keeps_named : (nodes nodes' : List Node) (id : ObjectId) → ids_of nodes' ≡ cond (list_any (same_id id) (ids_of nodes)) (ids_of nodes) (ids_of nodes ++ id ∷ []) → Keeps nodes nodes'
keeps_named nodes nodes' id e k x a = subst (λ (xs : List ObjectId). At xs k x) (sym e) (go (list_any (same_id id) (ids_of nodes)))
  where
    go : (b : Bool) → At (cond b (ids_of nodes) (ids_of nodes ++ id ∷ [])) k x
    go true = a
    go false = at_push (ids_of nodes) id k x a

pub id_from_at : (nodes : List Node) (n : Number) (x : ObjectId) → At (ids_of nodes) n.0 x → id_at nodes n ≡ x
id_from_at nodes n x a = ap (λ (o : Option ObjectId). unwrap_or o (Sha1 [])) a

pub have_kept : (nodes nodes' : List Node) (ns : List Number) → HaveNodes nodes ns → Keeps nodes nodes' → HaveNodes nodes' ns
have_kept nodes nodes' ns w up n c = let (x, a) = w n c in (x, up n.0 x a)

pub have_rest : (nodes : List Node) (n : Number) (ns : List Number) → HaveNodes nodes (n ∷ ns) → HaveNodes nodes ns
have_rest nodes n ns w m c = w m (in_tail n ns m c)

pub have_none : (nodes : List Node) → HaveNodes nodes []
have_none nodes n c = absurd (in_nil n c)

pub have_both : (nodes : List Node) (ms ns : List Number) → HaveNodes nodes ms → HaveNodes nodes ns → HaveNodes nodes (ms ++ ns)
have_both nodes ms ns w v n c = elim (Contains-append_cases ms ns n c) [ inl d ↦ w n d | inr d ↦ v n d ]

pub have_push : (nodes : List Node) (ns : List Number) (n : Number) (x : ObjectId) → HaveNodes nodes ns → At (ids_of nodes) n.0 x → HaveNodes nodes (ns ++ n ∷ [])
have_push nodes ns n x w a m c = elim (in_push ns n m c) [
  | inl d ↦ w m d
  | inr e ↦ subst (λ (z : Number). (y : ObjectId) × At (ids_of nodes) z.0 y) (sym e) (x, a)
]

pub ids_kept : (nodes nodes' : List Node) (ns : List Number) → HaveNodes nodes ns → Keeps nodes nodes' → ids_at nodes' ns ≡ ids_at nodes ns
ids_kept nodes nodes' [] w up = refl
ids_kept nodes nodes' (n ∷ ns) w up =
    let (x, a) = w n (in_head n ns) in
    let here : id_at nodes' n ≡ id_at nodes n = id_from_at nodes' n x (up n.0 x a) ∙ sym (id_from_at nodes n x a) in
    let rest : ids_at nodes' ns ≡ ids_at nodes ns = ids_kept nodes nodes' ns (have_rest nodes n ns w) up in
    ap (λ (z : ObjectId). z ∷ ids_at nodes' ns) here ∙ ap (λ (zs : List ObjectId). id_at nodes n ∷ zs) rest

pub ids_push : (nodes : List Node) (ns : List Number) (n : Number) (x : ObjectId) → At (ids_of nodes) n.0 x → ids_at nodes (ns ++ n ∷ []) ≡ ids_at nodes ns ++ x ∷ []
ids_push nodes ns n x a = map-append (id_at nodes) ns (n ∷ []) ∙ ap (λ (z : ObjectId). ids_at nodes ns ++ z ∷ []) (id_from_at nodes n x a)

-- ---- what waits

in_map : {A B : Type 0} (f : A → B) (xs : List A) (x : A) → Contains xs x → Contains (map f xs) (f x)
in_map {A} {B} f xs x c = let (k, a) = at_from_contains xs x c in go xs k a
  where
    go : (xs : List A) (k : ℕ) → At xs k x → Contains (map f xs) (f x)
    go [] k a = absurd (none_at_nil k x a)
    go (y ∷ ys) zero a = let same : y ≡ x = cc in subst (λ (z : A). Contains (f y ∷ map f ys) (f z)) same (in_head (f y) (map f ys))
    go (y ∷ ys) (suc k) a = in_tail (f y) (map f ys) (f x) (go ys k a)

pub turns_kept : (nodes nodes' : List Node) (ps : List Pending) → HaveNodes nodes (numbers_of ps) → Keeps nodes nodes' → map (turn_at nodes') ps ≡ map (turn_at nodes) ps
turns_kept nodes nodes' [] w up = refl
turns_kept nodes nodes' (p ∷ ps) w up =
    let (x, a) = w p.number (in_head p.number (numbers_of ps)) in
    let here : id_at nodes' p.number ≡ id_at nodes p.number = id_from_at nodes' p.number x (up p.number.0 x a) ∙ sym (id_from_at nodes p.number x a) in
    let rest : map (turn_at nodes') ps ≡ map (turn_at nodes) ps = turns_kept nodes nodes' ps (have_rest nodes p.number (numbers_of ps) w) up in
    ap (λ (z : ObjectId). record { time = p.time; id = z } ∷ map (turn_at nodes') ps) here ∙ ap (λ (ts : List Turn). turn_at nodes p ∷ ts) rest

-- all that wait have nodes, if those did that waited, and the one more does
pub have_joined : (nodes : List Node) (old new : List Pending) (pending : Pending) (x : ObjectId) → ((p : Pending) → Contains new p ↔ ((p ≡ pending) ⊎ Contains old p)) → HaveNodes nodes (numbers_of old) → At (ids_of nodes) pending.number.0 x → HaveNodes nodes (numbers_of new)
have_joined nodes old new pending x joins w a n c =
    let (p, k, e) = from_map (λ (p : Pending). p.number) new n c in
    elim ((joins p).0 k) [
      | inl s ↦ (x, subst (λ (m : Number). At (ids_of nodes) m.0 x) (ap (λ (q : Pending). q.number) (sym s) ∙ e) a)
      | inr d ↦ w n (subst (λ (m : Number). Contains (numbers_of old) m) e (in_map (λ (p : Pending). p.number) old p d))
    ]

-- those that wait have nodes, if they were among these
pub have_among : (nodes : List Node) (old new : List Pending) → ((p : Pending) → Contains new p → Contains old p) → HaveNodes nodes (numbers_of old) → HaveNodes nodes (numbers_of new)
have_among nodes old new from w n c =
    let (p, k, e) = from_map (λ (p : Pending). p.number) new n c in
    w n (subst (λ (m : Number). Contains (numbers_of old) m) e (in_map (λ (p : Pending). p.number) old p (from p k)))

pub turns_join : (f : Pending → Turn) (old new : List Pending) (pending : Pending) (turn : Turn) → ((p : Pending) → Contains new p ↔ ((p ≡ pending) ⊎ Contains old p)) → f pending ≡ turn → Joins true (map f old) turn (map f new)
turns_join f old new pending turn joins same t = (
  (λ c.
      let (p, k, e) = from_map f new t c in
      elim ((joins p).0 k) [
        | inl s ↦ inl (refl, sym e ∙ ap f s ∙ same)
        | inr d ↦ inr (subst (λ (u : Turn). Contains (map f old) u) e (in_map f old p d))
      ]),
  (λ d. elim d [
    | inl s ↦ subst (λ (u : Turn). Contains (map f new) u) (same ∙ sym s.1) (in_map f new pending ((joins pending).1 (inl refl)))
    | inr c ↦ (let (p, k, e) = from_map f old t c in subst (λ (u : Turn). Contains (map f new) u) e (in_map f new p ((joins p).1 (inr k))))
  ]),
)

count_map : (passes : Turn → Bool) (f : Pending → Turn) (ps : List Pending) → count_by passes (map f ps) ≡ count_by (λ (p : Pending). passes (f p)) ps
count_map passes f [] = refl
count_map passes f (p ∷ ps) =
    let next = count_map passes f ps in
    let a = sum_by-cons (λ (t : Turn). cond (passes t) 1 0) (f p) (map f ps) in
    let b = sum_by-cons (λ (q : Pending). cond (passes (f q)) 1 0) p ps in
    omega (arith, next, a, b)

abbrev one_where : Bool → ℕ
one_where b = cond b 1 0

pub turns_once : (f : Pending → Turn) (old new : List Pending) (pending : Pending) (turn : Turn) → ((passes : Pending → Bool) → count_by passes new ≤ count_by passes old + cond (passes pending) 1 0) → f pending ≡ turn → (id : Id) → times_waiting (map f new) id ≤ times_waiting (map f old) id + times_in (turn.id ∷ []) id
turns_once f old new pending turn once same id =
    let passes : Turn → Bool = λ (t : Turn). id_eq id (id_of t.id) in
    let a = count_map passes f new in
    let b = count_map passes f old in
    let c = once (λ (p : Pending). passes (f p)) in
    let d = times_one turn.id id in
    let e = ap (λ (t : Turn). one_where (passes t)) same in
    omega (arith, a, b, c, d, e)

-- the one whose turn it is
pub turn_taken : (nodes : List Node) (order : CommitTimeOrder) (old new : List Pending) (pending : Pending) (turn : Turn) → HaveNodes nodes (numbers_of old) → ((j k : ℕ) (x : ObjectId) → At (ids_of nodes) j x → At (ids_of nodes) k x → j ≡ k) → IsFirst order old pending new → turn_at nodes pending ≡ turn → IsTaken order (map (turn_at nodes) old) turn (map (turn_at nodes) new)
turn_taken nodes order old new pending turn w once first same = go order first
  where
    f : Pending → Turn
    f = turn_at nodes

    -- no other that waits is of the same commit and time
    other : (p : Pending) → Contains old p → Contains old pending → f p ≡ turn → p ≡ pending
    other p c d e =
        let (x, a) = w p.number (in_map (λ (q : Pending). q.number) old p c) in
        let (y, b) = w pending.number (in_map (λ (q : Pending). q.number) old pending d) in
        let both : f p ≡ f pending = e ∙ sym same in
        let ids : x ≡ y = sym (id_from_at nodes p.number x a) ∙ ap (λ (t : Turn). t.id) both ∙ id_from_at nodes pending.number y b in
        same_pending p pending (ap (λ (t : Turn). t.time) both) (once p.number.0 pending.number.0 y (subst (λ (z : ObjectId). At (ids_of nodes) p.number.0 z) ids a) b)

    time : pending.time ≡ turn.time
    time = ap (λ (t : Turn). t.time) same

    go : (o : CommitTimeOrder) → IsFirst o old pending new → IsTaken o (map f old) turn (map f new)
    go NewestFirst (e, all) = (
      ap (map f) e ∙ map-append f new (pending ∷ []) ∙ ap (λ (t : Turn). map f new ++ t ∷ []) same,
      (λ t c.
          let (p, k, h) = from_map f new t c in
          let less : IsLtBy pending_cmp p pending = All-contains (λ q. IsLtBy pending_cmp q pending) new p all k in
          let in_old : (q : Pending) → Contains (new ++ pending ∷ []) q → Contains old q = λ q. subst (λ (ps : List Pending). Contains ps q) (sym e) in (
            subst (λ (n : ℤ). t.time ≤ℤ n) time (subst (λ (u : Turn). u.time ≤ℤ pending.time) h (older_from_less p pending less)),
            (λ s. never_less pending (subst (λ (q : Pending). IsLtBy pending_cmp q pending) (other p (in_old p (Contains-append_left new (pending ∷ []) p k)) (in_old pending (Contains-push new pending)) (h ∙ s)) less)),
          )),
    )
    go OldestFirst (e, all) = (
      ap (map f) e ∙ ap (λ (t : Turn). t ∷ map f new) same,
      (λ t c.
          let (p, k, h) = from_map f new t c in
          let less : IsLtBy pending_cmp pending p = All-contains (IsLtBy pending_cmp pending) new p all k in
          let in_old : (q : Pending) → Contains (pending ∷ new) q → Contains old q = λ q. subst (λ (ps : List Pending). Contains ps q) (sym e) in (
            subst (λ (n : ℤ). n ≤ℤ t.time) time (subst (λ (u : Turn). pending.time ≤ℤ u.time) h (older_from_less pending p less)),
            (λ s. never_less pending (subst (λ (q : Pending). IsLtBy pending_cmp pending q) (other p (in_old p (in_tail pending new p k)) (in_old pending (in_head pending new)) (h ∙ s)) less)),
          )),
    )

-- the one whose turn it is, and those that wait after it, waited
pub first_among : (order : CommitTimeOrder) (old new : List Pending) (pending : Pending) → IsFirst order old pending new → Contains old pending × ((p : Pending) → Contains new p → Contains old p)
first_among NewestFirst old new pending (e, all) = (
  subst (λ (ps : List Pending). Contains ps pending) (sym e) (Contains-push new pending),
  (λ p c. subst (λ (ps : List Pending). Contains ps p) (sym e) (Contains-append_left new (pending ∷ []) p c)),
)
first_among OldestFirst old new pending (e, all) = (
  subst (λ (ps : List Pending). Contains ps pending) (sym e) (in_head pending new),
  (λ p c. subst (λ (ps : List Pending). Contains ps p) (sym e) (in_tail pending new p c)),
)

pub have_queued : (nodes : List Node) (waiting order : List Pending) → HaveNodes nodes (numbers_of waiting) → HaveNodes nodes (numbers_of (still_among waiting order))
have_queued nodes waiting order = have_among nodes waiting (still_among waiting order) (still_waits waiting order)

pub waited_waits : (known : KnownCommits) (x : ObjectId) → Contains (waited_of known) x → Waits (turns_of known) x
waited_waits known x c =
    let (n, k, e) = from_map (id_at known.nodes) (numbers_of (still_among known.pending known.order)) x c in
    let (p, l, f) = from_map (λ (p : Pending). p.number) (still_among known.pending known.order) n k in
    (turn_at known.nodes p, in_map (turn_at known.nodes) known.pending p (still_waits known.pending known.order p l), ap (id_at known.nodes) f ∙ e)

pub none_waited : (known : KnownCommits) → turns_of known ≡ [] → waited_of known ≡ []
none_waited known e = nothing_in (waited_of known) (λ x c. let (t, k, f) = waited_waits known x c in let (j, a) = at_from_contains [] t (subst (λ (ts : List Turn). Contains ts t) e k) in none_at_nil j t a)

pub empty_turns : (nodes : List Node) (ps : List Pending) → map (turn_at nodes) ps ≡ [] → ps ≡ []
empty_turns nodes [] e = refl
empty_turns nodes (p ∷ ps) e = let z : ⊥ = cc in absurd z

-- the one whose turn it is has a node
pub none_lacking : (nodes : List Node) (order : CommitTimeOrder) (old new : List Pending) (pending : Pending) → HaveNodes nodes (numbers_of old) → IsFirst order old pending new → None ≡ slice_get (ids_of nodes) pending.number.0 → ⊥
none_lacking nodes order old new pending w first none =
    let (x, a) = w pending.number (in_map (λ (p : Pending). p.number) old pending (first_among order old new pending first).0) in
    let z : ⊥ = cc in z
