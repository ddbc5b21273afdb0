use Rattle.std.proofs.Common.{ap, arith, rules, ◌≡◌, sym, ◌∙◌, refl, subst, inl, inr, List, [], ◌∷◌, ◌++◌, length, Some, None, Option, true, false}
use Rattle.gix_hash.specs.Id.{Id}
use Rattle.gix_hash.specs.declared.object_id.ObjectId.{ObjectId}
use Rattle.gix_traverse_graph.specs.Commits.{Commits, asked_parents}
use Rattle.gix_traverse_commit_known.specs.Nodes.{Node, is_hidden, is_met}
use Rattle.gix_traverse_commit_known.specs.Asked.{AcceptsAs, Answers, Asked, keep_of}
use Rattle.gix_traverse_commit.specs.Simply.{IsUnderWay}
use Rattle.gix_traverse_commit.specs.Giving.{HasEnded}
use Rattle.gix_traverse_graph.specs.Sorting.{timing_of}
use Rattle.gix_traverse_commit_known.specs.Timely.{AllRowed, IsMetSoFar, IsTaken, keep_since, TakesTurn}
use Rattle.gix_traverse_commit_known.specs.Keeping.{Kept}
use Rattle.gix_traverse_graph.specs.Order.{IsOpen}
use Rattle.gix_traverse_graph.specs.Rows.{AllHeld}
use Rattle.gix_traverse_commit_known.specs.Known.{turns_of}
use Rattle.gix_traverse_commit_known.specs.Told.{rows_of}
use Rattle.gix_traverse_graph.specs.declared.sorting.Timing.{Timing}
use Rattle.gix_traverse_commit_known.specs.Ending.{times_in, times_waiting}
use Rattle.gix_traverse_commit_known.specs.declared.waiting.Turn.{Turn}
use Rattle.gix_traverse_commit_known.proofs.Ending.{taken_less, times_first}
use Rattle.gix_traverse_commit.proofs.ByTime.{none_some, one_timing, timing_same, since_end, since_turn}
use Rattle.gix_traverse_commit_known.proofs.Chosen.{taken_chosen, taken_met}
use Rattle.gix_traverse_commit_known.proofs.Keeping.{kept_pop}
use Rattle.gix_traverse_commit_known.proofs.Simply.{held_first, kept_breadth, kept_turn}
use Rattle.gix_traverse_commit_known.proofs.Timely.{taken_some}
use Rattle.std.specs.Prelude.{IsSome}
use Rattle.gix_traverse_commit.proofs.simple.Simple.take.Goals as goal

pub returns-in_default-clause-takes : goal.returns-in_default-clause-takes
returns-in_default-clause-takes g c =
    record {
      nodes = c.take_queued.ensures.nodes;
      waiting = (let none : timing_of c.args.self.now.parents c.args.self.now.sorting ≡ None = search rules in
          subst (λ (t : Option Timing). TakesTurn t (turns_of c.args.self.now.known) c.in_ok-id.id (turns_of c.take_queued.new.self)) (sym none) c.take_queued.ensures.turns);
      queueing = (λ some.
          let none : timing_of c.args.self.now.parents c.args.self.now.sorting ≡ None = search rules in
          absurd (let s : false ≡ true = subst (λ (t : Option Timing). IsSome t) none some in let z : ⊥ = cc in z));
      less = (λ x.
          let a = ap (λ (zs : List ObjectId). times_in zs x) c.in_ok-id.ensures.first in
          let b = times_first c.in_ok-id.id c.take_queued.new.self.queue x in
          let d = ap (λ (ts : List Turn). times_waiting ts x) c.take_queued.ensures.turns in
          omega (arith, a, b, d));
      rowed = (λ r.
          let h = held_first (rows_of c.args.self.now.source.rows) c.args.self.now.known.queue c.take_queued.new.self.queue c.in_ok-id.id c.in_ok-id.ensures.first r.queue in
          (record { tips = r.tips; hidden = r.hidden; queue = h.1; waiting_rows = subst (AllRowed (rows_of c.args.self.now.source.rows)) (sym c.take_queued.ensures.turns) r.waiting_rows }, h.0));
      turn = (λ ids commits a listed u.
          let none : timing_of c.args.self.now.parents c.args.self.now.sorting ≡ None = search rules in
          let queue : List ObjectId = c.args.self.now.known.queue in
          let queue' : List ObjectId = c.take_queued.new.self.queue in
          let id : ObjectId = c.in_ok-id.id in
          elim u [
            | inl w ↦ (
                let r = kept_pop (asked_parents a.parents commits) a.tips (keep_of w.hides a.accepts) (is_met c.args.self.now.known.nodes) listed queue (listed ++ id ∷ []) queue' id w.walked c.in_ok-id.ensures.first refl in (
                  inl (record {
                    begun = w.begun;
                    hidden_same = w.hidden_same;
                    parents = w.parents;
                    sorting = w.sorting;
                    in_breadth = w.in_breadth;
                    none_waits = c.take_queued.ensures.turns ∙ w.none_waits;
                    accepts_as = subst (λ (ns : List Node). AcceptsAs (g.P.Accept.accepts c.args.self.now.predicate) ns a) (sym c.take_queued.ensures.nodes) w.accepts_as;
                    hides = w.hides;
                    hidden = λ x. ap (λ (ns : List Node). is_hidden ns x) c.take_queued.ensures.nodes ∙ w.hidden x;
                    painted = w.painted;
                    known = w.known;
                    walked = subst (λ (ns : List Node). Kept (asked_parents a.parents commits) a.tips (keep_of w.hides a.accepts) (is_met ns) ((listed ++ id ∷ []) ++ queue') (length (listed ++ id ∷ [])) 0) (sym c.take_queued.ensures.nodes) r.0;
                    reads = r.1;
                  }),
                  kept_turn commits a w.hides w.painted (is_met c.args.self.now.known.nodes) listed queue queue' id w.walked c.in_ok-id.ensures.first w.in_breadth,
                ))
            | inr w ↦ absurd (none_some w.by_time (sym none ∙ (timing_same a c.args.self.now.parents c.args.self.now.sorting w.parents w.sorting ∙ w.is_by_time)))
          ]);
    }

pub returns-clause-takes : goal.returns-clause-takes
returns-clause-takes g c =
    record {
      nodes = c.take_turn.ensures.nodes;
      queueing = λ some. c.take_turn.ensures.order;
      waiting = (let is : timing_of c.args.self.now.parents c.args.self.now.sorting ≡ Some c.in-Some.timing = sym c.time_order.ensures ∙ c.in-Some.is in
          subst (λ (t : Option Timing). TakesTurn t (turns_of c.args.self.now.known) c.in_ok-turn.turn.id (turns_of c.take_turn.new.self)) (sym is) (c.in_ok-turn.turn, refl, c.in_ok-turn.ensures.taken));
      less = (λ x.
          let a = taken_less c.in-Some.timing.order (turns_of c.args.self.now.known) c.in_ok-turn.turn (turns_of c.take_turn.new.self) c.in_ok-turn.ensures.taken x in
          let b = ap (λ (zs : List ObjectId). times_in zs x) c.take_turn.ensures.queue in
          omega (arith, a, b));
      rowed = (λ r.
          let old = turns_of c.args.self.now.known in
          let new = turns_of c.take_turn.new.self in
          let turn = c.in_ok-turn.turn in
          let some = taken_some c.in-Some.timing.order old turn new c.in_ok-turn.ensures.taken in
          (record { tips = r.tips; hidden = r.hidden; queue = subst (AllHeld (rows_of c.args.self.now.source.rows)) (sym c.take_turn.ensures.queue) r.queue; waiting_rows = λ t d. r.waiting_rows t ((some t).1 (inr d)) }, r.waiting_rows turn ((some turn).1 (inl refl))));
      turn = (λ ids commits a listed u.
          let is : timing_of c.args.self.now.parents c.args.self.now.sorting ≡ Some c.in-Some.timing = sym c.time_order.ensures ∙ c.in-Some.is in
          let old = turns_of c.args.self.now.known in
          let new = turns_of c.take_turn.new.self in
          let turn = c.in_ok-turn.turn in
          elim u [
            | inl w ↦ absurd (none_some c.in-Some.timing (sym w.in_breadth ∙ (sym (timing_same a c.args.self.now.parents c.args.self.now.sorting w.parents w.sorting) ∙ is)))
            | inr w ↦ (
                let one : w.by_time ≡ c.in-Some.timing = one_timing w.by_time c.in-Some.timing (sym w.is_by_time ∙ (sym (timing_same a c.args.self.now.parents c.args.self.now.sorting w.parents w.sorting) ∙ is)) in
                let taken : IsTaken w.by_time.order old turn new = subst (λ (t : Timing). IsTaken t.order old turn new) (sym one) c.in_ok-turn.ensures.taken in
                let along = asked_parents a.parents commits in
                let keep = keep_since w.by_time.since commits w.hides a.accepts in (
                  inr (record {
                    begun = w.begun;
                    hidden_same = w.hidden_same;
                    parents = w.parents;
                    sorting = w.sorting;
                    by_time = w.by_time;
                    is_by_time = w.is_by_time;
                    empty = c.take_turn.ensures.queue ∙ w.empty;
                    accepts_as = subst (λ (ns : List Node). AcceptsAs (g.P.Accept.accepts c.args.self.now.predicate) ns a) (sym c.take_turn.ensures.nodes) w.accepts_as;
                    hides = w.hides;
                    hidden = λ x. ap (λ (ns : List Node). is_hidden ns x) c.take_turn.ensures.nodes ∙ w.hidden x;
                    painted = w.painted;
                    known = w.known;
                    met = subst (λ (ns : List Node). IsMetSoFar commits keep (is_met ns) (IsOpen along a.tips listed) (listed ++ turn.id ∷ []) new) (sym c.take_turn.ensures.nodes) (taken_met commits along a.tips keep w.by_time.order (is_met c.args.self.now.known.nodes) listed old turn new w.met taken);
                    chosen = taken_chosen commits along a.tips keep w.by_time.order (is_met c.args.self.now.known.nodes) listed old turn new w.met taken w.chosen;
                  }),
                  since_turn commits a w.by_time w.is_by_time w.hides w.painted (is_met c.args.self.now.known.nodes) listed old turn new w.met w.chosen taken,
                ))
          ]);
    }

pub returns-in_err-id-clause-ends : goal.returns-in_err-id-clause-ends
returns-in_err-id-clause-ends g c =
    let end : (ids : List Id) (commits : Commits ObjectId) (a : Asked) (listed : List ObjectId) → IsUnderWay g.P.Accept.accepts ids commits a listed c.args.self.now → Answers commits a listed = (λ ids commits a listed u.
    let none : timing_of c.args.self.now.parents c.args.self.now.sorting ≡ None = search rules in
    elim u [
      | inl w ↦ kept_breadth commits a w.hides w.painted (is_met c.args.self.now.known.nodes) listed c.args.self.now.known.queue w.walked c.in_err-id.ensures.none w.in_breadth
      | inr w ↦ absurd (none_some w.by_time (sym none ∙ (timing_same a c.args.self.now.parents c.args.self.now.sorting w.parents w.sorting ∙ w.is_by_time)))
    ]) in
    let none : timing_of c.args.self.now.parents c.args.self.now.sorting ≡ None = search rules in
    let out : IsSome (timing_of c.args.self.now.parents c.args.self.now.sorting) → turns_of c.args.self.now.known ≡ [] = (λ some. absurd (let s : false ≡ true = subst (λ (t : Option Timing). IsSome t) none some in let z : ⊥ = cc in z)) in
    let ended : HasEnded g.P.Accept.accepts c.args.self.now = record { none_waits = out; end = end } in
    rw c.from_residual.ensures ended

pub returns-in_err-turn-clause-ends : goal.returns-in_err-turn-clause-ends
returns-in_err-turn-clause-ends g c =
    let is : timing_of c.args.self.now.parents c.args.self.now.sorting ≡ Some c.in-Some.timing = sym c.time_order.ensures ∙ c.in-Some.is in
    let end : (ids : List Id) (commits : Commits ObjectId) (a : Asked) (listed : List ObjectId) → IsUnderWay g.P.Accept.accepts ids commits a listed c.args.self.now → Answers commits a listed = (λ ids commits a listed u. elim u [
      | inl w ↦ absurd (none_some c.in-Some.timing (sym w.in_breadth ∙ (sym (timing_same a c.args.self.now.parents c.args.self.now.sorting w.parents w.sorting) ∙ is)))
      | inr w ↦ since_end commits a w.by_time w.is_by_time w.hides w.painted (is_met c.args.self.now.known.nodes) listed (turns_of c.args.self.now.known) w.met w.chosen c.in_err-turn.ensures.none
    ]) in
    let out : IsSome (timing_of c.args.self.now.parents c.args.self.now.sorting) → turns_of c.args.self.now.known ≡ [] = (λ some. c.in_err-turn.ensures.none) in
    let ended : HasEnded g.P.Accept.accepts c.args.self.now = record { none_waits = out; end = end } in
    rw c.from_residual-in_err-turn.ensures ended
