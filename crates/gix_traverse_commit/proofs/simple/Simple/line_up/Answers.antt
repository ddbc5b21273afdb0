use Rattle.std.proofs.Common.{length, rules, ◌+◌, ◌≡◌, sym, ◌∙◌, refl, subst, inl, inr, List, [], Option, Some, None, Bool, true, false}
use Rattle.std.specs.Prelude.{Contains, not, ◌&&◌, IsSome}
use Rattle.gix_hash.specs.Id.{id_of}
use Rattle.gix_hash.specs.declared.object_id.ObjectId.{ObjectId}
use Rattle.gix_traverse_graph.specs.Commits.{asked_parents}
use Rattle.gix_traverse_commit_known.specs.Meeting.{CountsTimes, IsFresh, MarksAll}
use Rattle.gix_traverse_graph.specs.Order.{IsListOf}
use Rattle.gix_traverse_commit_known.specs.Known.{turns_of}
use Rattle.gix_traverse_commit_known.specs.Nodes.{is_hidden, is_met}
use Rattle.gix_traverse_graph.specs.Rows.{AllHeld}
use Rattle.gix_traverse_commit_known.specs.Asked.{keep_of, timing}
use Rattle.gix_traverse_commit.specs.Simply.{times_queued}
use Rattle.gix_traverse_graph.specs.Sorting.{in_time, timing_of}
use Rattle.gix_traverse_commit_known.specs.Timely.{AllRowed, IsMetSoFar, keep_since, LetsWaitIn}
use Rattle.gix_traverse_commit_known.specs.Told.{rows_of}
use Rattle.gix_traverse_commit_known.specs.declared.waiting.Turn.{Turn}
use Rattle.gix_traverse_graph.specs.declared.sorting.Timing.{Timing}
use Rattle.gix_traverse_commit_known.specs.Ending.{NoneGains, times_in, times_waiting}
use Rattle.gix_traverse_commit_known.proofs.Ending.{gains_before, gains_behind}
use Rattle.gix_traverse_commit.proofs.ByTime.{is_sure, timing_same}
use Rattle.gix_traverse_commit_known.specs.Keeping.{KeptAll}
use Rattle.gix_traverse_commit_known.proofs.Chosen.{chosen_none, met_tips}
use Rattle.gix_traverse_commit_known.proofs.Keeping.{kept_none}
use Rattle.gix_traverse_commit_known.proofs.Simply.{accepts_more, kept_tip, refused_tip}
use Rattle.gix_traverse_commit_known.proofs.Timely.{in_nil, met_none}
use Rattle.gix_traverse_commit_known.specs.Fetching.{LooksUpAtMost}
use Rattle.gix_traverse_commit.specs.Awaited.{times_of}
use Rattle.gix_traverse_commit.proofs.Awaited.{awaits_rowed, counts_held, tips_awaited}
use Rattle.gix_traverse_commit.proofs.Rest.{in_rows}
use Rattle.gix_traverse_commit.proofs.simple.Simple.line_up.Goals as goal
use Rattle.std.proofs.lemmas.Bool.{and_parts}

-- what the predicate refuses isn't kept
refused_since : (h a t : Bool) → a ≡ false → (not h && (a && t)) ≡ true → ⊥
refused_since h a t e k = let f = (and_parts a t (and_parts (not h) (a && t) k).1).0 in let z : ⊥ = cc in z

pub returns-clause-reads : goal.returns-clause-reads
returns-clause-reads g c =
    let is : timing_of c.args.self.now.parents c.args.self.now.sorting ≡ Some c.in-Some.timing = sym c.time_order.ensures ∙ c.in-Some.is in
    subst (λ (t : Option Timing). LooksUpAtMost (times_of t c.args.self.now.tips.items) c.args.self.now.source c.await_tips.new.source) (sym is) (subst (λ (ts : List ObjectId). LooksUpAtMost (length ts) c.args.self.now.source c.await_tips.new.source) c.as_slice-2.ensures.value c.await_tips.ensures.reads)

pub returns-in_err-await_tips-clause-reads : goal.returns-in_err-await_tips-clause-reads
returns-in_err-await_tips-clause-reads g c =
    let is : timing_of c.args.self.now.parents c.args.self.now.sorting ≡ Some c.in-Some.timing = sym c.time_order.ensures ∙ c.in-Some.is in
    subst (λ (t : Option Timing). LooksUpAtMost (times_of t c.args.self.now.tips.items) c.args.self.now.source c.await_tips.new.source) (sym is) (subst (λ (ts : List ObjectId). LooksUpAtMost (length ts) c.args.self.now.source c.await_tips.new.source) c.as_slice-2.ensures.value c.await_tips.ensures.reads)

pub returns-in_default-clause-going : goal.returns-in_default-clause-going
returns-in_default-clause-going g c = λ honest commits told ids a sure m.
    let none : timing_of c.args.self.now.parents c.args.self.now.sorting ≡ None = search rules in
    let tips : c.as_slice.result.now ≡ a.tips = c.as_slice.ensures.value ∙ m.tips in
    let hides = is_hidden c.args.self.now.known.nodes in
    let along = asked_parents a.parents commits in
    let keep = keep_of hides a.accepts in
    inl (record {
      begun = refl;
      hidden_same = m.hidden;
      parents = m.parents;
      sorting = m.sorting;
      in_breadth = sym (timing_same a c.args.self.now.parents c.args.self.now.sorting m.parents m.sorting) ∙ none;
      none_waits = c.in_ok-queue_tips.ensures.alone.turns ∙ m.none_waits;
      accepts_as = accepts_more (g.P.Accept.accepts c.args.self.now.predicate) (g.P.Accept.accepts c.args.self.now.predicate) c.args.self.now.known.nodes c.queue_tips.new.known.nodes a refl (λ x h. (c.in_ok-queue_tips.ensures.met x).1 (inl h)) m.accepts_as;
      hides = hides;
      hidden = c.in_ok-queue_tips.ensures.alone.painted;
      painted = m.painted;
      known = λ x k. absurd (in_nil x k);
      walked = subst (λ (ts : List ObjectId). KeptAll along ts keep (is_met c.queue_tips.new.known.nodes) c.queue_tips.new.known.queue 0) tips
          (c.in_ok-queue_tips.ensures.walked along keep
          (λ x k f. kept_tip hides a.accepts x (m.accepted x (subst (λ (ts : List ObjectId). Contains ts x) tips k) f))
          (kept_none along c.as_slice.result.now keep (is_met c.args.self.now.known.nodes) c.args.self.now.known.queue m.empty (λ q h k. refused_tip hides a.accepts q (m.refused q h) k)));
    })

pub returns-clause-going : goal.returns-clause-going
returns-clause-going g c = λ honest commits told ids a sure m.
    let t : Timing = c.in-Some.timing in
    let is : timing a ≡ Some t = sym (timing_same a c.args.self.now.parents c.args.self.now.sorting m.parents m.sorting) ∙ (sym c.time_order.ensures ∙ c.in-Some.is) in
    let tips : c.as_slice-2.result.now ≡ a.tips = c.as_slice-2.ensures.value ∙ m.tips in
    let hides = is_hidden c.args.self.now.known.nodes in
    let keep = keep_since t.since commits hides a.accepts in
    let met = tips_awaited commits t.since c.args.self.now.known.nodes c.await_tips.new.known.nodes a.accepts (g.F.Lookup.may_fail c.args.self.now.source.objects) (turns_of c.args.self.now.known) (turns_of c.await_tips.new.known) (is_sure (g.F.Lookup.may_fail c.args.self.now.source.objects) a t sure is) c.as_slice-2.result.now c.in_ok-await_tips.ensures.met (c.in_ok-await_tips.ensures.awaits honest commits told)
    (λ x k f. m.accepted x (subst (λ (ts : List ObjectId). Contains ts x) tips k) f)
    (met_none commits keep [] (is_met c.args.self.now.known.nodes) (turns_of c.args.self.now.known) refl m.none_waits (λ q h k. refused_since (hides q) (a.accepts (id_of q)) (in_time t.since (commits q).time) (m.refused q h) k)) in
    inr (record {
      begun = refl;
      hidden_same = m.hidden;
      parents = m.parents;
      sorting = m.sorting;
      by_time = t;
      is_by_time = is;
      empty = c.in_ok-await_tips.ensures.some.queue ∙ m.empty;
      accepts_as = accepts_more (g.P.Accept.accepts c.args.self.now.predicate) (g.P.Accept.accepts c.args.self.now.predicate) c.args.self.now.known.nodes c.await_tips.new.known.nodes a refl (λ q h. (c.in_ok-await_tips.ensures.met q).1 (inl h)) m.accepts_as;
      hides = hides;
      hidden = c.in_ok-await_tips.ensures.some.painted;
      painted = m.painted;
      known = λ x k. absurd (in_nil x k);
      met = met_tips commits (asked_parents a.parents commits) a.tips keep t.order (is_met c.await_tips.new.known.nodes) (turns_of c.await_tips.new.known)
          (subst (λ (ts : List ObjectId). IsMetSoFar commits keep (is_met c.await_tips.new.known.nodes) (Contains ts) [] (turns_of c.await_tips.new.known)) tips met);
      chosen = chosen_none commits (asked_parents a.parents commits) a.tips keep t.order [] refl;
    })

pub returns-in_default-clause-awaits : goal.returns-in_default-clause-awaits
returns-in_default-clause-awaits g c = λ honest commits told.
    let none : timing_of c.args.self.now.parents c.args.self.now.sorting ≡ None = search rules in
    subst (λ (t : Option Timing). LetsWaitIn t (g.F.Lookup.may_fail c.args.self.now.source.objects) commits (IsFresh c.args.self.now.known.nodes c.args.self.now.tips.items) (turns_of c.args.self.now.known) (turns_of c.queue_tips.new.known)) (sym none) c.in_ok-queue_tips.ensures.alone.turns

pub returns-clause-awaits : goal.returns-clause-awaits
returns-clause-awaits g c = λ honest commits told.
    let is : timing_of c.args.self.now.parents c.args.self.now.sorting ≡ Some c.in-Some.timing = sym c.time_order.ensures ∙ c.in-Some.is in
    let may_fail = g.F.Lookup.may_fail c.args.self.now.source.objects in
    let waits = subst (λ (ts : List ObjectId). LetsWaitIn (Some c.in-Some.timing) may_fail commits (IsFresh c.args.self.now.known.nodes ts) (turns_of c.args.self.now.known) (turns_of c.await_tips.new.known)) c.as_slice-2.ensures.value (c.in_ok-await_tips.ensures.awaits honest commits told) in
    subst (λ (t : Option Timing). LetsWaitIn t may_fail commits (IsFresh c.args.self.now.known.nodes c.args.self.now.tips.items) (turns_of c.args.self.now.known) (turns_of c.await_tips.new.known)) (sym is) waits

pub returns-in_default-clause-lines : goal.returns-in_default-clause-lines
returns-in_default-clause-lines g c =
    let none : timing_of c.args.self.now.parents c.args.self.now.sorting ≡ None = search rules in
    let lookups = c.args.self.now.source.lookups in
    let rows = rows_of c.args.self.now.source.rows in
    let queued = c.in_ok-queue_tips.ensures in
    record {
      begun = refl;
      painted = queued.alone.painted;
      met = subst (λ (ts : List ObjectId). MarksAll c.args.self.now.known.nodes ts c.queue_tips.new.known.nodes) c.as_slice.ensures.value queued.met;
      timed = record {
        timed = [];
        each = subst (λ (t : Option Timing). CountsTimes t rows [] lookups lookups) (sym none) refl;
        list = λ some. absurd (let s : false ≡ true = subst (λ (t : Option Timing). IsSome t) none some in let z : ⊥ = cc in z);
      };
      gains = subst (λ (ts : List Turn). NoneGains c.args.self.now.known.nodes (times_queued c.args.self.now) c.queue_tips.new.known.nodes (λ id. times_in c.queue_tips.new.known.queue id + times_waiting ts id)) (sym queued.alone.turns)
          (gains_before c.args.self.now.known.nodes c.queue_tips.new.known.nodes (times_in c.args.self.now.known.queue) (times_in c.queue_tips.new.known.queue) (times_waiting (turns_of c.args.self.now.known)) queued.alone.gains);
      rowed = λ r. (
        record {
          tips = r.tips;
          hidden = r.hidden;
          queue = queued.rowed rows r.queue (subst (AllHeld rows) (sym c.as_slice.ensures.value) r.tips);
          waiting_rows = subst (AllRowed rows) (sym queued.alone.turns) r.waiting_rows;
        },
        refl,
      );
    }

pub returns-clause-lines : goal.returns-clause-lines
returns-clause-lines g c =
    let is : timing_of c.args.self.now.parents c.args.self.now.sorting ≡ Some c.in-Some.timing = sym c.time_order.ensures ∙ c.in-Some.is in
    let rows = rows_of c.args.self.now.source.rows in
    let before = c.args.self.now.source.lookups in
    let after = c.await_tips.new.source.lookups in
    let some = c.in_ok-await_tips.ensures.some in
    let (timed, list, counts) = c.in_ok-await_tips.ensures.timed in
    let fresh = subst (λ (ts : List ObjectId). IsListOf (IsFresh c.args.self.now.known.nodes ts) timed) c.as_slice-2.ensures.value list in
    record {
      begun = refl;
      painted = some.painted;
      met = subst (λ (ts : List ObjectId). MarksAll c.args.self.now.known.nodes ts c.await_tips.new.known.nodes) c.as_slice-2.ensures.value c.in_ok-await_tips.ensures.met;
      timed = record {
        timed = timed;
        each = subst (λ (t : Option Timing). CountsTimes t rows timed before after) (sym is) counts;
        list = λ _. fresh;
      };
      gains = subst (λ (zs : List ObjectId). NoneGains c.args.self.now.known.nodes (times_queued c.args.self.now) c.await_tips.new.known.nodes (λ id. times_in zs id + times_waiting (turns_of c.await_tips.new.known) id)) (sym some.queue)
          (gains_behind c.args.self.now.known.nodes c.await_tips.new.known.nodes (times_waiting (turns_of c.args.self.now.known)) (times_waiting (turns_of c.await_tips.new.known)) (times_in c.args.self.now.known.queue) some.gains);
      rowed = λ r. (
        in_rows c.args.self.now.source.rows (record c.args.self.now { source = c.await_tips.new.source; known = c.await_tips.new.known; begun = true }) c.await_tips.ensures.reads.rows r.tips r.hidden (subst (AllHeld rows) (sym some.queue) r.queue)
            (awaits_rowed rows c.args.self.now.known c.as_slice-2.result.now c.await_tips.new.known some (subst (AllHeld rows) (sym c.as_slice-2.ensures.value) r.tips) r.waiting_rows),
        counts_held rows timed before after (λ x k. r.tips x ((fresh.each x).0 k).0) counts,
      );
    }
