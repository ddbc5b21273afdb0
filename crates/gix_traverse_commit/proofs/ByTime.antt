-- The state of a walk by time over rows and objects.
use Rattle.std.proofs.Common.{◌≡◌, ℕ, ◌<◌, ◌+◌, ◌∙◌, inl, inr, sym, ap, subst, arith, List, [], ◌∷◌, ◌++◌, length, length-append, Bool, true, Some, None, Option}
use Rattle.std.specs.Prelude.{Contains, IsTrue, not, ◌&&◌, ◌↔◌}
use Rattle.gix_hash.specs.Id.{Id, id_of}
use Rattle.gix_hash.specs.declared.object_id.ObjectId.{ObjectId}
use Rattle.gix_traverse_graph.specs.Commits.{Commits, asked_parents, Reached, tip, parent, Passes, Listed}
use Rattle.gix_traverse_graph.specs.Order.{At, IsChosen, IsOpen}
use Rattle.gix_traverse_commit_known.specs.Painting.{ReachedFrom}
use Rattle.gix_traverse_commit_known.specs.Nodes.{is_met}
use Rattle.gix_traverse_commit_known.specs.Asked.{Answers, Asked, IsKnown, IsSure, keep_of, request_in, timing, IsTurn}
use Rattle.gix_traverse_commit.specs.Simply.{IsAtTurn, IsUnderWay}
use Rattle.gix_traverse_graph.specs.Sorting.{ComesFirst, InOrder, InTimeOrder, IsNextIn, in_time, timing_of}
use Rattle.gix_traverse_commit_known.specs.Told.{rows_of}
use Rattle.gix_hash.specs.declared.kind.Kind.{Kind}
use Rattle.gix_traverse_commit_known.specs.declared.fetch.Source.{Source}
use Rattle.gix_traverse_graph.specs.declared.parents.Parents.{Parents}
use Rattle.gix_traverse_commit.specs.declared.simple.Simple.{Simple}
use Rattle.gix_traverse_graph.specs.declared.sorting.Sorting.{Sorting}
use Rattle.gix_traverse_commit_known.specs.Timely.{IsChosenSoFar, IsMetSoFar, IsTaken, keep_since}
use Rattle.gix_traverse_graph.specs.declared.rows.Row.{Row}
use Rattle.gix_traverse_graph.specs.declared.sorting.CommitTimeOrder.{CommitTimeOrder}
use Rattle.gix_traverse_graph.specs.declared.sorting.CommitTimeOrder.TheVariants.{NewestFirst, OldestFirst}
use Rattle.gix_traverse_graph.specs.declared.sorting.Timing.{Timing}
use Rattle.gix_traverse_commit_known.specs.declared.waiting.Turn.{Turn}
use Rattle.gix_traverse_commit_known.proofs.Chosen.{reached_turn, taken_next, timed_end}
use Rattle.gix_traverse_graph.proofs.Cutoff.{in_time_too, in_time_yes}
use Rattle.gix_traverse_graph.proofs.Listing.{listed_reached, reached_more}
use Rattle.gix_traverse_commit_known.proofs.Painting.{known_fit}
use Rattle.gix_traverse_commit_known.proofs.Simply.{fewer_known, from_not, known_push}
use Rattle.gix_traverse_graph.proofs.Check.{not_from}
use Rattle.std.proofs.lemmas.Bool.{and_from, and_parts}

module _ (g : Commits ObjectId) (a : Asked) (t : Timing) (is : timing a ≡ Some t) (hides : ObjectId → Bool) (painted : (x : ObjectId) → (hides x ≡ true) ↔ ReachedFrom g a.hidden x) where
  pub keeps_since : (y : ObjectId) → Listed g (request_in (Some t) a) y → keep_since t.since g hides a.accepts y ≡ true
  keeps_since y l = and_from (not (hides y)) (a.accepts (id_of y) && in_time t.since (g y).time) (not_from (hides y) (λ h. l.1 ((painted y).0 h))) (passes l.0)
    where
      passes : {y : ObjectId} → Reached (asked_parents a.parents g) (Passes g (request_in (Some t) a)) a.tips y → (a.accepts (id_of y) && in_time t.since (g y).time) ≡ true
      passes (tip {x = y} c p) = and_from (a.accepts (id_of y)) (in_time t.since (g y).time) p.0 (in_time_too t.since (g y).time p.1)
      passes (parent {y = y} r n p) = and_from (a.accepts (id_of y)) (in_time t.since (g y).time) p.0 (in_time_too t.since (g y).time p.1)

  to_since : (x : ObjectId) → Listed g (request_in (Some t) a) x → Reached (asked_parents a.parents g) (λ y. IsTrue (keep_since t.since g hides a.accepts y)) a.tips x
  to_since x l = reached_more (asked_parents a.parents g) (Listed g (request_in (Some t) a)) (λ y. IsTrue (keep_since t.since g hides a.accepts y)) a.tips keeps_since (listed_reached g (request_in (Some t) a) l.0 l.1)

  passes_from : (y : ObjectId) → keep_since t.since g hides a.accepts y ≡ true → Passes g (request_in (Some t) a) y
  passes_from y k =
      let r = (and_parts (not (hides y)) (a.accepts (id_of y) && in_time t.since (g y).time) k).1 in
      ((and_parts (a.accepts (id_of y)) (in_time t.since (g y).time) r).0, in_time_yes t.since (g y).time (and_parts (a.accepts (id_of y)) (in_time t.since (g y).time) r).1)

  pub from_since : (x : ObjectId) → Reached (asked_parents a.parents g) (λ y. IsTrue (keep_since t.since g hides a.accepts y)) a.tips x → Listed g (request_in (Some t) a) x
  from_since x r = (
    reached_more (asked_parents a.parents g) (λ y. IsTrue (keep_since t.since g hides a.accepts y)) (Passes g (request_in (Some t) a)) a.tips passes_from r,
    (λ h. from_not (hides x) (and_parts (not (hides x)) (a.accepts (id_of x) && in_time t.since (g x).time) (kept r)).0 ((painted x).1 h)),
  )
    where
      kept : {y : ObjectId} → Reached (asked_parents a.parents g) (λ z. IsTrue (keep_since t.since g hides a.accepts z)) a.tips y → keep_since t.since g hides a.accepts y ≡ true
      kept (tip c k) = k
      kept (parent r n k) = k

  ordered : (order : CommitTimeOrder) (listed : List ObjectId) → IsChosen (Listed g (request_in (Some t) a)) (IsOpen (asked_parents a.parents g) a.tips) (ComesFirst order (λ x. (g x).time)) listed → InTimeOrder order g (request_in (Some t) a) listed
  ordered NewestFirst listed c = c
  ordered OldestFirst listed c = c

  -- nothing waits any more
  pub since_end : (has : ObjectId → Bool) (listed : List ObjectId) (turns : List Turn) → IsMetSoFar g (keep_since t.since g hides a.accepts) has (IsOpen (asked_parents a.parents g) a.tips listed) listed turns → IsChosenSoFar (asked_parents a.parents g) a.tips (keep_since t.since g hides a.accepts) (ComesFirst t.order (λ x. (g x).time)) listed → turns ≡ [] → Answers g a listed
  since_end has listed turns w v e = subst (λ (o : Option Timing). InOrder o g (request_in o a) listed) (sym is)
      (ordered t.order listed (timed_end g (asked_parents a.parents g) a.tips (keep_since t.since g hides a.accepts) t.order has listed turns w v e (Listed g (request_in (Some t) a)) to_since from_since))

  -- the one that is taken comes next
  pub since_turn : (has : ObjectId → Bool) (listed : List ObjectId) (old : List Turn) (turn : Turn) (new : List Turn) → IsMetSoFar g (keep_since t.since g hides a.accepts) has (IsOpen (asked_parents a.parents g) a.tips listed) listed old → IsChosenSoFar (asked_parents a.parents g) a.tips (keep_since t.since g hides a.accepts) (ComesFirst t.order (λ x. (g x).time)) listed → IsTaken t.order old turn new → IsTurn g a listed turn.id
  since_turn has listed old turn new w v k = subst (λ (o : Option Timing). IsNextIn o g (request_in o a) listed turn.id) (sym is)
      (taken_next g (asked_parents a.parents g) a.tips (keep_since t.since g hides a.accepts) t.order has listed old turn new w k (Listed g (request_in (Some t) a))
      (from_since turn.id (reached_turn g (asked_parents a.parents g) a.tips (keep_since t.since g hides a.accepts) t.order has listed old turn new w k v)) keeps_since)

-- fewer were given before than are known
pub fewer_listed : (rows : List Row) (ids : List Id) (listed : List ObjectId) (id : ObjectId) → ((j k : ℕ) (x : ObjectId) → At (listed ++ id ∷ []) j x → At (listed ++ id ∷ []) k x → j ≡ k) → ((x : ObjectId) → Contains (listed ++ id ∷ []) x → IsKnown rows ids x) → length listed < length rows + length ids
fewer_listed rows ids listed id once known =
    let fits = known_fit rows ids (listed ++ id ∷ []) once known in
    omega (arith, length-append listed (id ∷ []))

-- ---- walks in one order are in no other

pub timing_same : (a : Asked) (parents : Parents) (sorting : Sorting) → parents ≡ a.parents → sorting ≡ a.sorting → timing_of parents sorting ≡ timing a
timing_same a parents sorting e f = ap (λ (p : Parents). timing_of p sorting) e ∙ ap (timing_of a.parents) f

pub none_some : (t : Timing) → None ≡ Some t → ⊥
none_some t e = cc

pub one_timing : (t u : Timing) → ◌≡◌ {A = Option Timing} (Some t) (Some u) → t ≡ u
one_timing t u e = cc

-- a walk by time is over a store whose lookups don't fail
pub is_sure : (may_fail : Type 0) (a : Asked) (t : Timing) → IsSure may_fail a → timing a ≡ Some t → may_fail → ⊥
is_sure may_fail a t s e = elim s [ inl n ↦ absurd (none_some t (sym n ∙ e)) | inr h ↦ h ]

module _ {F P : Type 0} (accepts : P → Id → Bool) (ids : List Id) (g : Commits ObjectId) (a : Asked) (listed : List ObjectId) (id : ObjectId) where
  pub at_order : (walk : Simple F P) → IsAtTurn accepts ids g a listed id walk → (walk.parents ≡ a.parents) × (walk.sorting ≡ a.sorting)
  at_order walk t = elim t [ inl w ↦ (w.parents, w.sorting) | inr w ↦ (w.parents, w.sorting) ]

  -- the same with a source that has the same rows
  pub at_source : (walk : Simple F P) (source : Source F) → source.rows ≡ walk.source.rows → IsAtTurn accepts ids g a listed id walk → IsAtTurn accepts ids g a listed id (record walk { source = source })
  at_source walk source e t = elim t [
    | inl w ↦ inl (record { begun = w.begun; hidden_same = w.hidden_same; parents = w.parents; sorting = w.sorting; in_breadth = w.in_breadth; none_waits = w.none_waits; accepts_as = w.accepts_as; hides = w.hides; hidden = w.hidden; painted = w.painted; known = moved w.known; walked = w.walked; reads = w.reads })
    | inr w ↦ inr (record { begun = w.begun; hidden_same = w.hidden_same; parents = w.parents; sorting = w.sorting; by_time = w.by_time; is_by_time = w.is_by_time; empty = w.empty; accepts_as = w.accepts_as; hides = w.hides; hidden = w.hidden; painted = w.painted; known = moved w.known; met = w.met; chosen = w.chosen })
  ]
    where
      moved : ((x : ObjectId) → Contains listed x → IsKnown (rows_of walk.source.rows) ids x) → (x : ObjectId) → Contains listed x → IsKnown (rows_of source.rows) ids x
      moved h = subst (λ (r : Option (List Row)). (x : ObjectId) → Contains listed x → IsKnown (rows_of r) ids x) (sym e) h

  pub at_fewer : (walk : Simple F P) (rows : List Row) → rows ≡ rows_of walk.source.rows → IsKnown rows ids id → IsAtTurn accepts ids g a listed id walk → length listed < length rows + length ids
  at_fewer walk rows e k t = elim t [
    | inl w ↦ fewer_known rows ids (asked_parents a.parents g) a.tips (keep_of w.hides a.accepts) (is_met walk.known.nodes) listed walk.known.queue id (length (listed ++ id ∷ [])) 0 w.walked (known_push rows ids listed id (moved w.known) k)
    | inr w ↦ fewer_listed rows ids listed id w.chosen.once (known_push rows ids listed id (moved w.known) k)
  ]
    where
      moved : ((x : ObjectId) → Contains listed x → IsKnown (rows_of walk.source.rows) ids x) → (x : ObjectId) → Contains listed x → IsKnown rows ids x
      moved h = subst (λ (r : List Row). (x : ObjectId) → Contains listed x → IsKnown r ids x) (sym e) h

-- the same with a source that has the same rows
pub under_source : {F P : Type 0} (accepts : P → Id → Bool) (ids : List Id) (g : Commits ObjectId) (a : Asked) (listed : List ObjectId) (walk : Simple F P) (source : Source F) (kind : Kind) → source.rows ≡ walk.source.rows → IsUnderWay accepts ids g a listed walk → IsUnderWay accepts ids g a listed (record walk { source = source; kind = kind })
under_source accepts ids g a listed walk source kind e t = elim t [
  | inl w ↦ inl (record { begun = w.begun; hidden_same = w.hidden_same; parents = w.parents; sorting = w.sorting; in_breadth = w.in_breadth; none_waits = w.none_waits; accepts_as = w.accepts_as; hides = w.hides; hidden = w.hidden; painted = w.painted; known = moved w.known; walked = w.walked })
  | inr w ↦ inr (record { begun = w.begun; hidden_same = w.hidden_same; parents = w.parents; sorting = w.sorting; by_time = w.by_time; is_by_time = w.is_by_time; empty = w.empty; accepts_as = w.accepts_as; hides = w.hides; hidden = w.hidden; painted = w.painted; known = moved w.known; met = w.met; chosen = w.chosen })
]
  where
    moved : ((x : ObjectId) → Contains listed x → IsKnown (rows_of walk.source.rows) ids x) → (x : ObjectId) → Contains listed x → IsKnown (rows_of source.rows) ids x
    moved h = subst (λ (r : Option (List Row)). (x : ObjectId) → Contains listed x → IsKnown (rows_of r) ids x) (sym e) h
