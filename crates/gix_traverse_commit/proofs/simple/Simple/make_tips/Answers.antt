use Rattle.std.proofs.Common.{arith, ◌+◌, ◌≡◌, ◌∙◌, ◌⊎◌, sym, ap, subst, refl, inl, inr, List, [], ◌++◌, Bool, true, false}
use Rattle.std.specs.Prelude.{Contains}
use Rattle.gix_hash.specs.declared.object_id.ObjectId.{ObjectId}
use Rattle.gix_traverse_graph.specs.Rows.{AllHeld}
use Rattle.std.proofs.lemmas.List.Elements.{Contains-append_cases}
use Rattle.gix_traverse_commit_known.specs.Ending.{times_in, times_waiting}
use Rattle.gix_traverse_commit_known.specs.Known.{turns_of, waited_of}
use Rattle.gix_traverse_commit_known.specs.Nodes.{Node, is_met}
use Rattle.gix_traverse_commit.specs.Simply.{times_queued}
use Rattle.gix_traverse_commit_known.specs.Timely.{AllRowed}
use Rattle.gix_traverse_commit_known.specs.declared.waiting.Turn.{Turn}
use Rattle.gix_traverse_commit_known.proofs.Ending.{gains_gathered, gains_none, times_some, waiting_some}
use Rattle.gix_traverse_commit_known.specs.Told.{rows_of}
use Rattle.gix_traverse_graph.specs.declared.rows.Row.{Row}
use Rattle.gix_traverse_commit_known.proofs.KnownLemmas.{waited_waits}
use Rattle.gix_traverse_commit_known.proofs.Pending.{held_both, held_waited, none_held, none_rowed}
use Rattle.gix_traverse_commit.proofs.simple.Simple.make_tips.Goals as goal

pub returns-clause-rowed : goal.returns-clause-rowed
returns-clause-rowed g c = λ r.
    let rows : List Row = rows_of c.args.self.now.source.rows in
    let tips : List ObjectId = c.args.self.now.tips.items in
    let queue : List ObjectId = c.args.self.now.known.queue in
    let old = c.args.self.now.known in
    let waited : AllHeld rows (waited_of old) = held_waited rows (turns_of old) (waited_of old) r.waiting_rows (λ x k. waited_waits old x k) in
    let all : c.unpaint.new.known.queue ≡ queue ++ waited_of old = c.in_ok-unpaint.ensures.queue ∙ c.in_ok-queue_waiting.ensures.queued in
    let queued : AllHeld rows c.unpaint.new.known.queue = subst (AllHeld rows) (sym all) (held_both rows queue (waited_of old) r.queue waited) in
    let none : turns_of c.take_all.new.known ≡ [] = c.in_ok-take_all.ensures.turns ∙ c.in_ok-unpaint.ensures.turns ∙ c.in_ok-queue_waiting.ensures.emptied in
    record {
      tips = subst (AllHeld rows) (sym c.in_ok-take_all.ensures.tips) (held_both rows tips c.unpaint.new.known.queue r.tips queued);
      hidden = r.hidden;
      queue = subst (AllHeld rows) (sym c.in_ok-take_all.ensures.emptied) (none_held rows);
      waiting_rows = subst (AllRowed rows) (sym none) (none_rowed rows);
    }

pub returns-then-is_idle-clause-made : goal.returns-then-is_idle-clause-made
returns-then-is_idle-clause-made g c = λ a m. elim m [
  | inl n ↦ record { new = n; met = λ x. ((λ d. d), (λ d. d)) }
  | inr t ↦ (let both = c.is_idle.ensures.0 c.if-is_idle.true in absurd (t.goes_on both.0 both.1))
]

pub returns-then-is_idle-clause-left : goal.returns-then-is_idle-clause-left
returns-then-is_idle-clause-left g c = gains_none c.args.self.now.known.nodes (times_queued c.args.self.now)

pub returns-clause-left : goal.returns-clause-left
returns-clause-left g c =
    let old = c.args.self.now.known in
    let queue : List ObjectId = old.queue in
    let all : c.unpaint.new.known.queue ≡ queue ++ waited_of old = c.in_ok-unpaint.ensures.queue ∙ c.in_ok-queue_waiting.ensures.queued in
    let none : turns_of c.take_all.new.known ≡ [] = c.in_ok-take_all.ensures.turns ∙ c.in_ok-unpaint.ensures.turns ∙ c.in_ok-queue_waiting.ensures.emptied in
    gains_gathered old.nodes c.take_all.new.known.nodes (times_queued c.args.self.now) (λ id. times_in c.take_all.new.known.queue id + times_waiting (turns_of c.take_all.new.known) id)
    (λ id. let a = ap (λ (zs : List ObjectId). times_in zs id) c.in_ok-take_all.ensures.emptied in let b = ap (λ (ts : List Turn). times_waiting ts id) none in omega (arith, a, b))
    (λ x f. elim (c.in_ok-take_all.ensures.unmet x f) [
      | inl u ↦ inl (sym (c.in_ok-unpaint.ensures.met x ∙ ap (λ (ns : List Node). is_met ns x) c.queue_waiting.ensures.nodes) ∙ u)
      | inr k ↦ elim (Contains-append_cases queue (waited_of old) x (subst (λ (zs : List ObjectId). Contains zs x) all k)) [
        | inl d ↦ inr (let a = times_some queue x d in omega (arith, a))
        | inr d ↦ inr (let a = waiting_some (turns_of old) x (waited_waits old x d) in omega (arith, a))
      ]
    ])

-- what was met is met still, or has come
met_or_come : (has has' : ObjectId → Bool) (tips : List ObjectId) (x : ObjectId) → (has' x ≡ false → (has x ≡ false) ⊎ Contains tips x) → has x ≡ true → (has' x ≡ true) ⊎ Contains tips x
met_or_come has has' tips x unmet h = go (has' x) refl
  where
    go : (b : Bool) → has' x ≡ b → (has' x ≡ true) ⊎ Contains tips x
    go true e = inl e
    go false e = elim (unmet e) [ inl f ↦ (let z : ⊥ = cc in absurd z) | inr k ↦ inr k ]

pub returns-clause-made : goal.returns-clause-made
returns-clause-made g c = λ a m. elim m [
  | inl n ↦ (let f = c.if-is_idle.false in let t = c.is_idle.ensures.1 (n.empty, n.none_waits) in let z : ⊥ = cc in absurd z)
  | inr t ↦ (
      let all : c.unpaint.new.known.queue ≡ a.tips = c.in_ok-unpaint.ensures.queue ∙ c.in_ok-queue_waiting.ensures.queued ∙ t.queued in
      let was : (x : ObjectId) → is_met c.unpaint.new.known.nodes x ≡ is_met c.args.self.now.known.nodes x = λ x. c.in_ok-unpaint.ensures.met x ∙ ap (λ (ns : List Node). is_met ns x) c.queue_waiting.ensures.nodes in
      record {
        new = record {
          begun = t.begun;
          tips = c.in_ok-take_all.ensures.tips ∙ ap (λ (zs : List ObjectId). zs ++ c.unpaint.new.known.queue) t.no_tips ∙ all;
          hidden = t.hidden;
          parents = t.parents;
          sorting = t.sorting;
          accepts_as = record {
            given = t.accepts_as.given;
            unmet = λ x n. elim (c.in_ok-take_all.ensures.unmet x n) [
              | inl f ↦ t.accepts_as.unmet x (sym (was x) ∙ f)
              | inr k ↦ (let yes = t.accepted x (subst (λ (zs : List ObjectId). Contains zs x) all k) in t.accepts_as.given x yes ∙ sym yes)
            ];
          };
          asked = record {
            refused = (λ x m. let (met, out) = c.in_ok-take_all.ensures.met x m in t.refused x (sym (was x) ∙ met) (λ k. out (subst (λ (zs : List ObjectId). Contains zs x) (sym all) k)));
            accepted = λ x k u. t.accepted x k;
            unpainted = λ x. c.in_ok-take_all.ensures.hidden x ∙ c.in_ok-unpaint.ensures.unpainted x;
          };
          empty = c.in_ok-take_all.ensures.emptied;
          none_waits = c.in_ok-take_all.ensures.turns ∙ c.in_ok-unpaint.ensures.turns ∙ c.in_ok-queue_waiting.ensures.emptied;
        };
        met = λ x. (
          (λ d. elim d [ inl h ↦ inl (sym (was x) ∙ (c.in_ok-take_all.ensures.met x h).0) | inr k ↦ inr k ]),
          (λ d. elim d [
            | inl h ↦ met_or_come (is_met c.unpaint.new.known.nodes) (is_met c.take_all.new.known.nodes) a.tips x (λ f. subst (λ (zs : List ObjectId). (is_met c.unpaint.new.known.nodes x ≡ false) ⊎ Contains zs x) all (c.in_ok-take_all.ensures.unmet x f)) (was x ∙ h)
            | inr k ↦ inr k
          ]),
        );
      })
]
