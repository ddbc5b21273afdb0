use Rattle.std.proofs.Common.{refl, ◌+◌, rules, ◌≡◌, ◌⊎◌, sym, ◌∙◌, ap, subst, inl, inr, List, [], ◌∷◌, ◌++◌, Option, Some, None, Bool, true, false}
use Rattle.std.specs.Prelude.{Contains, IsSome, not, ◌&&◌}
use Rattle.gix_hash.specs.Id.{id_of}
use Rattle.gix_hash.specs.declared.object_id.ObjectId.{ObjectId}
use Rattle.gix_traverse_graph.specs.Commits.{asked_parents}
use Rattle.gix_traverse_commit_known.specs.Meeting.{CountsTimes, accepted}
use Rattle.gix_traverse_commit_known.specs.Known.{turns_of}
use Rattle.gix_traverse_commit_known.specs.Nodes.{is_hidden, is_met}
use Rattle.gix_traverse_graph.specs.Rows.{AllHeld}
use Rattle.gix_traverse_commit_known.specs.Asked.{IsKnown, keep_of}
use Rattle.gix_traverse_commit.specs.Simply.{times_queued}
use Rattle.gix_traverse_commit.specs.Giving.{IsMetWith}
use Rattle.gix_traverse_graph.specs.Sorting.{in_time, timing_of}
use Rattle.gix_traverse_commit_known.specs.Timely.{AllRowed, IsMetSoFar, keep_since, LetsWaitIn}
use Rattle.gix_traverse_commit_known.specs.Told.{rows_of}
use Rattle.gix_traverse_graph.specs.declared.rows.Row.{Row}
use Rattle.gix_traverse_commit_known.specs.declared.waiting.Turn.{Turn}
use Rattle.gix_traverse_graph.specs.declared.sorting.Timing.{Timing}
use Rattle.gix_traverse_commit_known.specs.Ending.{NoneGains, times_in, times_waiting}
use Rattle.gix_traverse_commit_known.proofs.Ending.{gains_before, gains_behind}
use Rattle.gix_traverse_commit.proofs.ByTime.{is_sure, none_some, one_timing, timing_same}
use Rattle.gix_traverse_graph.specs.Order.{IsOpen}
use Rattle.gix_traverse_commit_known.proofs.Chosen.{met_parents}
use Rattle.gix_traverse_commit_known.proofs.Simply.{accepts_more, known_push}
use Rattle.gix_traverse_commit_known.proofs.Timely.{met_kept}
use Rattle.gix_traverse_commit_known.specs.Fetching.{LooksUpAtMost}
use Rattle.gix_traverse_commit.specs.Awaited.{times_of}
use Rattle.gix_traverse_commit.proofs.Awaited.{awaits_rowed, counts_held, parents_awaited}
use Rattle.gix_traverse_commit.proofs.Rest.{in_rows}
use Rattle.gix_traverse_commit_known.proofs.Awaiting.{of_accepted}
use Rattle.gix_traverse_commit.proofs.simple.Simple.meet_all.Goals as goal

pub returns-clause-reads : goal.returns-clause-reads
returns-clause-reads g c =
    let is : timing_of c.args.self.now.parents c.args.self.now.sorting ≡ Some c.in-Some.timing = sym c.time_order.ensures ∙ c.in-Some.is in
    subst (λ (t : Option Timing). LooksUpAtMost (times_of t c.args.parents.now) c.args.self.now.source c.await_parents.new.source) (sym is) c.await_parents.ensures.reads

pub returns-in_err-await_parents-clause-reads : goal.returns-in_err-await_parents-clause-reads
returns-in_err-await_parents-clause-reads g c =
    let is : timing_of c.args.self.now.parents c.args.self.now.sorting ≡ Some c.in-Some.timing = sym c.time_order.ensures ∙ c.in-Some.is in
    subst (λ (t : Option Timing). LooksUpAtMost (times_of t c.args.parents.now) c.args.self.now.source c.await_parents.new.source) (sym is) c.await_parents.ensures.reads

pub returns-in_default-clause-going : goal.returns-in_default-clause-going
returns-in_default-clause-going g c = λ honest commits told ids a listed id sure same known at.
    let none : timing_of c.args.self.now.parents c.args.self.now.sorting ≡ None = search rules in
    elim at [
      | inl n ↦ inl (record {
        begun = n.begun;
        hidden_same = n.hidden_same;
        parents = n.parents;
        sorting = n.sorting;
        in_breadth = n.in_breadth;
        none_waits = c.in_ok-meet_parents.ensures.alone.turns ∙ n.none_waits;
        accepts_as = accepts_more (g.P.Accept.accepts c.args.self.now.predicate) (g.P.Accept.accepts c.meet_parents.new.predicate) c.args.self.now.known.nodes c.meet_parents.new.known.nodes a c.meet_parents.ensures.accepts (λ x h. (c.in_ok-meet_parents.ensures.flags x).1 (inl h)) n.accepts_as;
        hides = n.hides;
        hidden = λ x. c.in_ok-meet_parents.ensures.alone.painted x ∙ n.hidden x;
        painted = n.painted;
        known = known_push (rows_of c.args.self.now.source.rows) ids listed id n.known known;
        walked = c.in_ok-meet_parents.ensures.walked (asked_parents a.parents commits) (keep_of n.hides a.accepts) a.tips (listed ++ id ∷ []) id
            (λ x f. ap (λ (b : Bool). not b && a.accepts (id_of x)) (sym (n.hidden x)) ∙ ap (λ (b : Bool). not (is_hidden c.args.self.now.known.nodes x) && b) (sym (n.accepts_as.unmet x f)))
            same n.walked n.reads;
      })
      | inr n ↦ absurd (none_some n.by_time (sym none ∙ (timing_same a c.args.self.now.parents c.args.self.now.sorting n.parents n.sorting ∙ n.is_by_time)))
    ]

pub returns-clause-going : goal.returns-clause-going
returns-clause-going g c = λ honest commits told ids a listed id sure same known at.
    let is : timing_of c.args.self.now.parents c.args.self.now.sorting ≡ Some c.in-Some.timing = sym c.time_order.ensures ∙ c.in-Some.is in
    elim at [
      | inl n ↦ absurd (none_some c.in-Some.timing (sym n.in_breadth ∙ (sym (timing_same a c.args.self.now.parents c.args.self.now.sorting n.parents n.sorting) ∙ is)))
      | inr n ↦ (
          let one : n.by_time ≡ c.in-Some.timing = one_timing n.by_time c.in-Some.timing (sym n.is_by_time ∙ (sym (timing_same a c.args.self.now.parents c.args.self.now.sorting n.parents n.sorting) ∙ is)) in
          let along = asked_parents a.parents commits in
          let keep = keep_since n.by_time.since commits n.hides a.accepts in
          let keep' = keep_since c.in-Some.timing.since commits (is_hidden c.args.self.now.known.nodes) a.accepts in
          let alike : (x : ObjectId) → keep x ≡ keep' x = (λ x.
          ap (λ (b : Bool). not b && (a.accepts (id_of x) && in_time n.by_time.since (commits x).time)) (sym (n.hidden x))
          ∙ ap (λ (t : Timing). not (is_hidden c.args.self.now.known.nodes x) && (a.accepts (id_of x) && in_time t.since (commits x).time)) one) in
          let before = met_kept commits keep (listed ++ id ∷ []) keep' (is_met c.args.self.now.known.nodes) (IsOpen along a.tips listed) (turns_of c.args.self.now.known) alike n.met in
          let after = parents_awaited commits c.in-Some.timing.since c.args.self.now.known.nodes c.await_parents.new.known.nodes a.accepts (g.F.Lookup.may_fail c.args.self.now.source.objects) (turns_of c.args.self.now.known) (turns_of c.await_parents.new.known) (is_sure (g.F.Lookup.may_fail c.args.self.now.source.objects) a n.by_time sure n.is_by_time)
          (g.P.Accept.accepts c.args.self.now.predicate) (IsOpen along a.tips listed) (listed ++ id ∷ []) c.args.parents.now c.in_ok-await_parents.ensures.met (c.in_ok-await_parents.ensures.awaits honest commits told) n.accepts_as.unmet before in
          let back = met_kept commits keep' (listed ++ id ∷ []) keep (is_met c.await_parents.new.known.nodes) (λ x. IsOpen along a.tips listed x ⊎ Contains c.args.parents.now x) (turns_of c.await_parents.new.known) (λ x. sym (alike x)) after in
          let named = subst (λ (ps : List ObjectId). IsMetSoFar commits keep (is_met c.await_parents.new.known.nodes) (λ x. IsOpen along a.tips listed x ⊎ Contains ps x) (listed ++ id ∷ []) (turns_of c.await_parents.new.known)) same back in
          inr (record {
            begun = n.begun;
            hidden_same = n.hidden_same;
            parents = n.parents;
            sorting = n.sorting;
            by_time = n.by_time;
            is_by_time = n.is_by_time;
            empty = c.in_ok-await_parents.ensures.some.queue ∙ n.empty;
            accepts_as = accepts_more (g.P.Accept.accepts c.args.self.now.predicate) (g.P.Accept.accepts c.await_parents.new.predicate) c.args.self.now.known.nodes c.await_parents.new.known.nodes a c.in_ok-await_parents.ensures.asked.2.same (λ q h. (c.in_ok-await_parents.ensures.met q).1 (inl h)) n.accepts_as;
            hides = n.hides;
            hidden = λ x. c.in_ok-await_parents.ensures.some.painted x ∙ n.hidden x;
            painted = n.painted;
            known = subst (λ (r : Option (List Row)). (x : ObjectId) → Contains (listed ++ id ∷ []) x → IsKnown (rows_of r) ids x) (sym c.await_parents.ensures.reads.rows) (known_push (rows_of c.args.self.now.source.rows) ids listed id n.known known);
            met = met_parents commits along a.tips keep n.by_time.order (is_met c.await_parents.new.known.nodes) listed id (turns_of c.await_parents.new.known) named;
            chosen = n.chosen;
          }))
    ]

pub returns-in_default-clause-awaits : goal.returns-in_default-clause-awaits
returns-in_default-clause-awaits g c = λ honest commits told.
    let none : timing_of c.args.self.now.parents c.args.self.now.sorting ≡ None = search rules in
    subst (λ (t : Option Timing). LetsWaitIn t (g.F.Lookup.may_fail c.args.self.now.source.objects) commits (IsMetWith g.P.Accept.accepts c.args.self.now c.args.parents.now) (turns_of c.args.self.now.known) (turns_of c.meet_parents.new.known)) (sym none) c.in_ok-meet_parents.ensures.alone.turns

pub returns-clause-awaits : goal.returns-clause-awaits
returns-clause-awaits g c = λ honest commits told.
    let is : timing_of c.args.self.now.parents c.args.self.now.sorting ≡ Some c.in-Some.timing = sym c.time_order.ensures ∙ c.in-Some.is in
    subst (λ (t : Option Timing). LetsWaitIn t (g.F.Lookup.may_fail c.args.self.now.source.objects) commits (IsMetWith g.P.Accept.accepts c.args.self.now c.args.parents.now) (turns_of c.args.self.now.known) (turns_of c.await_parents.new.known)) (sym is) (c.in_ok-await_parents.ensures.awaits honest commits told)

pub returns-in_default-clause-meets : goal.returns-in_default-clause-meets
returns-in_default-clause-meets g c =
    let none : timing_of c.args.self.now.parents c.args.self.now.sorting ≡ None = search rules in
    let lookups = c.args.self.now.source.lookups in
    let rows = rows_of c.args.self.now.source.rows in
    let met = c.in_ok-meet_parents.ensures in
    let (fresh, list, asks) = met.asked in
    record {
      met = fresh;
      are_met = list;
      asked = asks;
      times = subst (λ (t : Option Timing). CountsTimes t rows (accepted (g.P.Accept.accepts c.args.self.now.predicate) fresh) lookups lookups) (sym none) refl;
      flags = met.flags;
      painted = met.alone.painted;
      behind = λ some. absurd (let s : false ≡ true = subst (λ (t : Option Timing). IsSome t) none some in let z : ⊥ = cc in z);
      gains = subst (λ (ts : List Turn). NoneGains c.args.self.now.known.nodes (times_queued c.args.self.now) c.meet_parents.new.known.nodes (λ id. times_in c.meet_parents.new.known.queue id + times_waiting ts id)) (sym met.alone.turns)
          (gains_before c.args.self.now.known.nodes c.meet_parents.new.known.nodes (times_in c.args.self.now.known.queue) (times_in c.meet_parents.new.known.queue) (times_waiting (turns_of c.args.self.now.known)) met.alone.gains);
      rowed = λ r held. record {
        tips = r.tips;
        hidden = r.hidden;
        queue = met.rowed rows r.queue held;
        waiting_rows = subst (AllRowed rows) (sym met.alone.turns) r.waiting_rows;
      };
      still = λ held. refl;
    }

pub returns-clause-meets : goal.returns-clause-meets
returns-clause-meets g c =
    let is : timing_of c.args.self.now.parents c.args.self.now.sorting ≡ Some c.in-Some.timing = sym c.time_order.ensures ∙ c.in-Some.is in
    let rows = rows_of c.args.self.now.source.rows in
    let before = c.args.self.now.source.lookups in
    let after = c.await_parents.new.source.lookups in
    let accepts = g.P.Accept.accepts c.args.self.now.predicate in
    let some = c.in_ok-await_parents.ensures.some in
    let (fresh, list, asks) = c.in_ok-await_parents.ensures.asked in
    record {
      met = fresh;
      are_met = list;
      asked = asks.asked;
      times = subst (λ (t : Option Timing). CountsTimes t rows (accepted accepts fresh) before after) (sym is) asks.timed;
      flags = c.in_ok-await_parents.ensures.met;
      painted = some.painted;
      behind = λ _. some.behind;
      gains = subst (λ (zs : List ObjectId). NoneGains c.args.self.now.known.nodes (times_queued c.args.self.now) c.await_parents.new.known.nodes (λ id. times_in zs id + times_waiting (turns_of c.await_parents.new.known) id)) (sym some.queue)
          (gains_behind c.args.self.now.known.nodes c.await_parents.new.known.nodes (times_waiting (turns_of c.args.self.now.known)) (times_waiting (turns_of c.await_parents.new.known)) (times_in c.args.self.now.known.queue) some.gains);
      rowed = λ r held. in_rows c.args.self.now.source.rows (record c.args.self.now { source = c.await_parents.new.source; known = c.await_parents.new.known; predicate = c.await_parents.new.predicate }) c.await_parents.ensures.reads.rows r.tips r.hidden (subst (AllHeld rows) (sym some.queue) r.queue)
          (awaits_rowed rows c.args.self.now.known c.args.parents.now c.await_parents.new.known some held r.waiting_rows);
      still = λ held. counts_held rows (accepted accepts fresh) before after (λ x k. held x ((list.each x).0 (of_accepted accepts fresh x k).0).0) asks.timed;
    }
