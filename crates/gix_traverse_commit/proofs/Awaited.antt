-- What steps of a walk look up, and which commits begin to wait.
use Rattle.std.proofs.Common.{◌≡◌, ◌∙◌, ℕ, ℤ, ◌+◌, ◌≤◌, sym, ap, refl, subst, arith, inl, inr, ◌⊎◌, List, [], ◌∷◌, Bool, true, false, cond, Option, None, Some, length, take}
use Rattle.std.specs.Prelude.{Contains, IsSome, not, ◌&&◌}
use Rattle.std.proofs.lemmas.Bool.{and_from, and_parts}
use Rattle.std.proofs.lemmas.List.Elements.{Contains-append_left, Contains-append_right, Contains-push}
use Rattle.gix_hash.specs.Id.{Id, id_of}
use Rattle.gix_hash.specs.declared.object_id.ObjectId.{ObjectId}
use Rattle.gix_object_lookup.specs.Table.{Table}
use Rattle.gix_traverse_graph.proofs.Ids.{same_from_test}
use Rattle.gix_traverse_graph.specs.Commits.{Commits}
use Rattle.gix_traverse_graph.specs.Numbered.{same_id}
use Rattle.gix_traverse_graph.specs.Order.{At}
use Rattle.gix_traverse_graph.specs.Rows.{AllHeld}
use Rattle.gix_traverse_graph.specs.Sorting.{in_time}
use Rattle.gix_traverse_commit_known.specs.Fetching.{LooksUpAtMost}
use Rattle.gix_traverse_commit.specs.Awaited.{AwaitsSome, MeetsToo, PaintsOnly, times_of}
use Rattle.gix_traverse_commit_known.specs.Ending.{times_in, times_waiting}
use Rattle.gix_traverse_commit_known.specs.Known.{KnownCommits, turns_of}
use Rattle.gix_traverse_commit_known.specs.Meeting.{CountsAll, CountsTimes, IsFresh, MarksAll, MarksMet}
use Rattle.gix_traverse_commit_known.specs.Nodes.{Node, has, is_hidden, is_met, flags_of}
use Rattle.gix_traverse_commit_known.specs.Painting.{StaysPainted}
use Rattle.gix_traverse_commit_known.specs.Queueing.{QueuesBehind}
use Rattle.gix_traverse_commit_known.specs.Timely.{AllRowed, CountsAs, IsMetSoFar, Joins, LetsWait, Waits, keep_since}
use Rattle.gix_traverse_commit_known.specs.Told.{AreTold, OverTold, rows_of}
use Rattle.gix_traverse_commit_known.specs.declared.fetch.Source.{Source}
use Rattle.gix_traverse_commit_known.specs.declared.nodes.WalkFlags.{WalkFlags}
use Rattle.gix_traverse_commit_known.specs.declared.waiting.Turn.{Turn}
use Rattle.gix_traverse_graph.specs.declared.rows.Row.{Row}
use Rattle.gix_traverse_graph.specs.declared.sorting.Timing.{Timing}
use Rattle.gix_traverse_commit_known.proofs.Awaiting.{waits_none}
use Rattle.gix_traverse_commit_known.proofs.Ending.{and_not, gains_met, gains_more, gains_none, gains_same}
use Rattle.gix_traverse_commit_known.proofs.Keeping.{met_itself, met_more}
use Rattle.gix_traverse_commit_known.proofs.Queueing.{queues_same, some_more, some_none, some_one}
use Rattle.gix_traverse_commit_known.proofs.Simply.{take_push}
use Rattle.gix_traverse_commit_known.proofs.Timely.{in_first, in_rest}
use Rattle.gix_traverse_commit_known.specs.declared.nodes.TheConstants.WalkFlags.{SEEN, UNINTERESTING}

-- ---- what is read

pub reads_none : {F : Type 0} (source : Source F) → LooksUpAtMost 0 source source
reads_none source = record { objects = refl; rows = refl; least = omega arith; most = omega arith }

pub reads_within : {F : Type 0} (m n : ℕ) (a b : Source F) → m ≤ n → LooksUpAtMost m a b → LooksUpAtMost n a b
reads_within m n a b l w = record { objects = w.objects; rows = w.rows; least = w.least; most = omega (arith, l, w.most) }

pub reads_more : {F : Type 0} (m n : ℕ) (a b c : Source F) → LooksUpAtMost m a b → LooksUpAtMost n b c → LooksUpAtMost (m + n) a c
reads_more m n a b c v w = record {
  objects = w.objects ∙ v.objects;
  rows = w.rows ∙ v.rows;
  least = omega (arith, v.least, w.least);
  most = omega (arith, v.most, w.most);
}

pub times_most : (t : Option Timing) (xs : List ObjectId) → times_of t xs ≤ length xs
times_most None xs = omega arith
times_most (Some timing) xs = omega arith

pub reads_timed : {F : Type 0} (t : Option Timing) (xs : List ObjectId) (a b : Source F) → IsSome t → LooksUpAtMost (length xs) a b → LooksUpAtMost (times_of t xs) a b
reads_timed None xs a b s w = let z : ⊥ = cc in absurd z
reads_timed (Some timing) xs a b s w = w

pub counts_timed : (t : Option Timing) (rows : List Row) (xs : List ObjectId) (a b : ℕ) → IsSome t → CountsAll rows xs a b → CountsTimes t rows xs a b
counts_timed None rows xs a b s w = let z : ⊥ = cc in absurd z
counts_timed (Some timing) rows xs a b s w = w

-- what holds over the same objects and rows
pub told_over : {F : Type 0} (IsHonest MayFail : F → Type 0) (table : F → Table) (What : Type 0 → Commits ObjectId → Type 0) (a b : Source F) → b.objects ≡ a.objects → b.rows ≡ a.rows → OverTold IsHonest table b (What (MayFail b.objects)) → OverTold IsHonest table a (What (MayFail a.objects))
told_over {F} IsHonest MayFail table What a b objects rows w =
    subst (λ (r : Option (List Row)). IsHonest a.objects → (g : Commits ObjectId) → AreTold (rows_of r) (table a.objects) g → What (MayFail a.objects) g) rows
    (subst (λ (o : F). IsHonest o → (g : Commits ObjectId) → AreTold (rows_of b.rows) (table o) g → What (MayFail o) g) objects w)

-- what has rows isn't looked up
pub counts_held : (rows : List Row) (xs : List ObjectId) (a b : ℕ) → AllHeld rows xs → CountsAll rows xs a b → b ≡ a
counts_held rows [] a b all e = e
counts_held rows (x ∷ xs) a b all (mid, one, later) = counts_held rows xs mid b (λ y c. all y (in_rest x xs y c)) later ∙ one.rowed (all x (in_first x xs))

pub paints_more : (old mid new : KnownCommits) → PaintsOnly old mid → PaintsOnly mid new → PaintsOnly old new
paints_more old mid new v w = record {
  met = λ q. w.met q ∙ v.met q;
  queue = w.queue ∙ v.queue;
  turns = w.turns ∙ v.turns;
}

pub times_held : (t : Option Timing) (rows : List Row) (xs : List ObjectId) (a b : ℕ) → AllHeld rows xs → CountsTimes t rows xs a b → b ≡ a
times_held None rows xs a b all e = e
times_held (Some timing) rows xs a b all w = counts_held rows xs a b all w

-- ---- which commits begin to wait

pub awaits_none : (known : KnownCommits) (xs : List ObjectId) → AwaitsSome known xs known
awaits_none known xs = record {
  queue = refl;
  painted = λ q. refl;
  gains = gains_none known.nodes (times_waiting (turns_of known));
  others = λ t c. inl c;
  behind = some_none known known xs (queues_same known);
}

pub awaits_met : (old new : KnownCommits) (id : ObjectId) → new.queue ≡ old.queue → turns_of new ≡ turns_of old → StaysPainted old.nodes new.nodes → MeetsToo old.nodes id new.nodes → QueuesBehind old [] new → AwaitsSome old (id ∷ []) new
awaits_met old new id queue turns painted met behind = record {
  queue = queue;
  painted = painted;
  gains = gains_same old.nodes new.nodes (times_waiting (turns_of old)) (times_waiting (turns_of new)) (λ x h. met_more (is_met old.nodes) (is_met new.nodes) id x met h) (λ i. let e = ap (λ (ts : List Turn). times_waiting ts i) turns in omega (arith, e));
  others = λ t c. inl (subst (λ (ts : List Turn). Contains ts t) turns c);
  behind = some_none old new (id ∷ []) behind;
}

marked_painted : (nodes nodes' : List Node) (id : ObjectId) (flags : WalkFlags) → ((q : ObjectId) → flags_of nodes' q ≡ cond (same_id id q) flags (flags_of nodes q)) → is_hidden nodes id ≡ has flags UNINTERESTING → StaysPainted nodes nodes'
marked_painted nodes nodes' id flags marked same q = ap (λ (m : WalkFlags). has m UNINTERESTING) (marked q) ∙ go (same_id id q) refl
  where
    go : (b : Bool) → same_id id q ≡ b → has (cond b flags (flags_of nodes q)) UNINTERESTING ≡ is_hidden nodes q
    go true e = sym same ∙ ap (is_hidden nodes) (same_from_test id q e)
    go false e = refl

marked_met : (nodes nodes' : List Node) (id : ObjectId) (flags : WalkFlags) → ((q : ObjectId) → flags_of nodes' q ≡ cond (same_id id q) flags (flags_of nodes q)) → has flags SEEN ≡ true → MeetsToo nodes id nodes'
marked_met nodes nodes' id flags marked now q = ap (λ (m : WalkFlags). has m SEEN) (marked q) ∙ go (same_id id q)
  where
    go : (b : Bool) → has (cond b flags (flags_of nodes q)) SEEN ≡ cond b true (is_met nodes q)
    go true = now
    go false = refl

pub awaits_one : (old new : KnownCommits) (time : ℤ) (id : ObjectId) (flags : WalkFlags) → ((q : ObjectId) → flags_of new.nodes q ≡ cond (same_id id q) flags (flags_of old.nodes q)) → has flags SEEN ≡ true → is_hidden old.nodes id ≡ has flags UNINTERESTING → is_met old.nodes id ≡ false → new.queue ≡ old.queue
    → Joins true (turns_of old) (record { time = time; id = id }) (turns_of new) → ((i : Id) → times_waiting (turns_of new) i ≤ times_waiting (turns_of old) i + times_in (id ∷ []) i) → QueuesBehind old (id ∷ []) new → AwaitsSome old (id ∷ []) new
awaits_one old new time id flags marked now same unmet queue joins once behind = let met = marked_met old.nodes new.nodes id flags marked now in record {
  queue = queue;
  painted = marked_painted old.nodes new.nodes id flags marked same;
  gains = gains_met old.nodes new.nodes (times_waiting (turns_of old)) (times_waiting (turns_of new)) (λ x h. met_more (is_met old.nodes) (is_met new.nodes) id x met h) id unmet (met_itself (is_met old.nodes) (is_met new.nodes) id met) once;
  others = λ t c. elim ((joins t).0 c) [
    | inl s ↦ inr (subst (λ (x : ObjectId). Contains (id ∷ []) x) (sym (ap (λ (u : Turn). u.id) s.1)) (Contains-push [] id))
    | inr d ↦ inl d
  ];
  behind = some_one old new id behind;
}

-- first some of these, and then the next one or not
pub awaits_next : (old mid new : KnownCommits) (xs : List ObjectId) (i : ℕ) (x : ObjectId) → At xs i x → AwaitsSome old (take i xs) mid → AwaitsSome mid (x ∷ []) new → AwaitsSome old (take (i + 1) xs) new
awaits_next old mid new xs i x here v w = subst (λ (ys : List ObjectId). AwaitsSome old ys new) (sym (take_push xs i x here)) (record {
  queue = w.queue ∙ v.queue;
  painted = λ q. w.painted q ∙ v.painted q;
  gains = gains_more old.nodes mid.nodes new.nodes (times_waiting (turns_of old)) (times_waiting (turns_of mid)) (times_waiting (turns_of new)) v.gains w.gains;
  others = λ t c. elim (w.others t c) [
    | inl d ↦ elim (v.others t d) [ inl o ↦ inl o | inr k ↦ inr (Contains-append_left (take i xs) (x ∷ []) t.id k) ]
    | inr k ↦ inr (Contains-append_right (take i xs) (x ∷ []) t.id k)
  ];
  behind = some_more old mid new (take i xs) (x ∷ []) v.behind w.behind;
})

-- none of none
pub waits_out : (may_fail : Type 0) (since : Option ℤ) (g : Commits ObjectId) (xs : List ObjectId) (turns : List Turn) → xs ≡ [] → LetsWait may_fail since g (Contains xs) turns turns
waits_out may_fail since g xs turns e = subst (λ (ys : List ObjectId). LetsWait may_fail since g (Contains ys) turns turns) (sym e) (waits_none may_fail since g turns)

-- what waits has rows still, if these have
pub awaits_rowed : (rows : List Row) (old : KnownCommits) (xs : List ObjectId) (new : KnownCommits) → AwaitsSome old xs new → AllHeld rows xs → AllRowed rows (turns_of old) → AllRowed rows (turns_of new)
awaits_rowed rows old xs new w held rowed t c = elim (w.others t c) [ inl o ↦ rowed t o | inr k ↦ held t.id k ]

-- ---- the state of a walk by time once they wait

pub met_or_fresh : (nodes : List Node) (xs : List ObjectId) (x : ObjectId) → Contains xs x → is_hidden nodes x ≡ false → (is_met nodes x ≡ true) ⊎ IsFresh nodes xs x
met_or_fresh nodes xs x c h = go (is_met nodes x) refl
  where
    go : (b : Bool) → is_met nodes x ≡ b → (is_met nodes x ≡ true) ⊎ IsFresh nodes xs x
    go true e = inl e
    go false e = inr (c, e, h)

-- a set of commits begins to wait that were named and not met, and each that is kept is among them
module _ (g : Commits ObjectId) (keep has has' : ObjectId → Bool) (S named named' : ObjectId → Type 0) (listed : List ObjectId) (may_fail : Type 0) (since : Option ℤ) (old new : List Turn) (sure : ¬ may_fail) (w : LetsWait may_fail since g S old new) (timely : (x : ObjectId) → keep x ≡ true → in_time since (g x).time ≡ true) (fit : (x : ObjectId) → S x → in_time since (g x).time ≡ true → keep x ≡ true)
    (unmet : (x : ObjectId) → S x → has x ≡ false) (now : (x : ObjectId) → S x → has' x ≡ true) (here : (x : ObjectId) → S x → named' x) (stays : (x : ObjectId) → has x ≡ true → has' x ≡ true) (up : (x : ObjectId) → named x → named' x) (met : (x : ObjectId) → has' x ≡ true → keep x ≡ true → (has x ≡ true) ⊎ S x) (down : (x : ObjectId) → named' x → keep x ≡ true → named x ⊎ ((has x ≡ true) ⊎ S x)) (before : IsMetSoFar g keep has named listed old) where
  counted : (x : ObjectId) (time : ℤ) → CountsAs may_fail g x time → time ≡ (g x).time
  counted x time c = elim c [ inl e ↦ e | inr f ↦ absurd (sure f.1) ]

  grow : (x : ObjectId) → Contains listed x ⊎ Waits old x → Contains listed x ⊎ Waits new x
  grow x d = elim d [ inl l ↦ inl l | inr p ↦ inr (p.0, w.stay p.0 p.1, p.2) ]

  joined : (x : ObjectId) → S x → keep x ≡ true → Waits new x
  joined x s k = let (time, c, at) = w.join x s in (record { time = time; id = x }, at (ap (in_time since) (counted x time c) ∙ timely x k), refl)

  from : (t : Turn) → Contains new t → Contains old t ⊎ (S t.id × (keep t.id ≡ true) × (t.time ≡ (g t.id).time))
  from t c = elim (w.only t c) [
    | inl o ↦ inl o
    | inr s ↦ (let e = counted t.id t.time s.1 in inr (s.0, fit t.id s.0 (sym (ap (in_time since) e) ∙ s.2), e))
  ]

  waits : (x : ObjectId) → Waits new x → Waits old x ⊎ (S x × (keep x ≡ true))
  waits x (t, c, e) = elim (from t c) [
    | inl o ↦ inl (t, o, e)
    | inr s ↦ inr (subst S e s.0, subst (λ (z : ObjectId). keep z ≡ true) e s.1)
  ]

  pub met_awaited : IsMetSoFar g keep has' named' listed new
  met_awaited = record {
    timed = λ t c. elim (from t c) [ inl o ↦ before.timed t o | inr s ↦ s.2 ];
    some = λ x p. elim (waits x p) [
      | inl o ↦ (let r = before.some x o in (r.0, r.1, up x r.2))
      | inr s ↦ (s.1, (λ l. let a = before.known x (inl l) in let b = unmet x s.0 in let z : ⊥ = cc in z), here x s.0)
    ];
    every = λ x n k. elim (down x n k) [
      | inl m ↦ grow x (before.every x m k)
      | inr d ↦ elim d [ inl h ↦ grow x (before.met x h k) | inr s ↦ inr (joined x s k) ]
    ];
    met = λ x h k. elim (met x h k) [ inl m ↦ grow x (before.met x m k) | inr s ↦ inr (joined x s k) ];
    known = λ x c. elim c [
      | inl l ↦ stays x (before.known x (inl l))
      | inr p ↦ elim (waits x p) [ inl o ↦ stays x (before.known x (inr o)) | inr s ↦ now x s.0 ]
    ];
  }

-- the same of tips, and of parents
module _ (g : Commits ObjectId) (since : Option ℤ) (nodes nodes' : List Node) (accepts : Id → Bool) (may_fail : Type 0) (old new : List Turn) (sure : ¬ may_fail) where
  timely : (x : ObjectId) → keep_since since g (is_hidden nodes) accepts x ≡ true → in_time since (g x).time ≡ true
  timely x k = (and_parts (accepts (id_of x)) (in_time since (g x).time) (and_parts (not (is_hidden nodes x)) (accepts (id_of x) && in_time since (g x).time) k).1).1

  accepted_too : (x : ObjectId) → keep_since since g (is_hidden nodes) accepts x ≡ true → accepts (id_of x) ≡ true
  accepted_too x k = (and_parts (accepts (id_of x)) (in_time since (g x).time) (and_parts (not (is_hidden nodes x)) (accepts (id_of x) && in_time since (g x).time) k).1).0

  shown : (x : ObjectId) → keep_since since g (is_hidden nodes) accepts x ≡ true → is_hidden nodes x ≡ false
  shown x k = and_not (is_hidden nodes x) (accepts (id_of x) && in_time since (g x).time) k

  passes : (x : ObjectId) → is_hidden nodes x ≡ false → accepts (id_of x) ≡ true → in_time since (g x).time ≡ true → keep_since since g (is_hidden nodes) accepts x ≡ true
  passes x h a t = and_from (not (is_hidden nodes x)) (accepts (id_of x) && in_time since (g x).time) (ap not h) (and_from (accepts (id_of x)) (in_time since (g x).time) a t)

  pub tips_awaited : (tips : List ObjectId) → MarksAll nodes tips nodes' → LetsWait may_fail since g (IsFresh nodes tips) old new → ((x : ObjectId) → Contains tips x → is_met nodes x ≡ false → accepts (id_of x) ≡ true)
      → IsMetSoFar g (keep_since since g (is_hidden nodes) accepts) (is_met nodes) (λ _. ⊥) [] old → IsMetSoFar g (keep_since since g (is_hidden nodes) accepts) (is_met nodes') (Contains tips) [] new
  tips_awaited tips flags w which before = met_awaited g (keep_since since g (is_hidden nodes) accepts) (is_met nodes) (is_met nodes') (IsFresh nodes tips) (λ _. ⊥) (Contains tips) [] may_fail since old new sure w timely
      (λ x f t. passes x f.2 (which x f.0 f.1) t) (λ x f. f.1) (λ x f. (flags x).1 (inr f.0)) (λ x f. f.0) (λ x h. (flags x).1 (inl h)) (λ x z. absurd z)
      (λ x h k. elim ((flags x).0 h) [ inl m ↦ inl m | inr c ↦ met_or_fresh nodes tips x c (shown x k) ])
      (λ x c k. inr (met_or_fresh nodes tips x c (shown x k))) before

  pub parents_awaited : (accepts' : Id → Bool) (named : ObjectId → Type 0) (listed parents : List ObjectId) → MarksMet nodes parents nodes' → LetsWait may_fail since g (λ x. IsFresh nodes parents x × (accepts' (id_of x) ≡ true)) old new → ((x : ObjectId) → is_met nodes x ≡ false → accepts' (id_of x) ≡ accepts (id_of x))
      → IsMetSoFar g (keep_since since g (is_hidden nodes) accepts) (is_met nodes) named listed old → IsMetSoFar g (keep_since since g (is_hidden nodes) accepts) (is_met nodes') (λ x. named x ⊎ Contains parents x) listed new
  parents_awaited accepts' named listed parents flags w which before = met_awaited g (keep_since since g (is_hidden nodes) accepts) (is_met nodes) (is_met nodes') (λ x. IsFresh nodes parents x × (accepts' (id_of x) ≡ true)) named (λ x. named x ⊎ Contains parents x) listed may_fail since old new sure w timely
      (λ x f t. passes x f.0.2 (sym (which x f.0.1) ∙ f.1) t) (λ x f. f.0.1) (λ x f. (flags x).1 (inr f.0)) (λ x f. inr f.0.0) (λ x h. (flags x).1 (inl h)) (λ x n. inl n)
      (λ x h k. elim ((flags x).0 h) [ inl m ↦ inl m | inr f ↦ inr (f, which x f.1 ∙ accepted_too x k) ])
      (λ x d k. elim d [ inl n ↦ inl n | inr c ↦ inr (elim (met_or_fresh nodes parents x c (shown x k)) [ inl m ↦ inl m | inr f ↦ inr (f, which x f.1 ∙ accepted_too x k) ]) ]) before
