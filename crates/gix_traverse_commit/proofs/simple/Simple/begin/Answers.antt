use Rattle.std.proofs.Common.{inl, inr, arith, Bool, true, ℕ, ◌≡◌, ◌↔◌, ◌≤◌, ◌+◌, sym, ◌∙◌, ap, refl, subst, List, [], Option, length}
use Rattle.gix_hash.specs.declared.object_id.ObjectId.{ObjectId}
use Rattle.gix_hash.specs.Id.{Id}
use Rattle.gix_traverse_commit_known.specs.Ending.{times_in, times_waiting}
use Rattle.gix_traverse_commit_known.specs.Painting.{CountsUnpainted, PaintFault, Paints, ReachedFrom, CountsUnread, PaintsSome}
use Rattle.gix_traverse_graph.specs.Order.{IsListOf}
use Rattle.gix_traverse_graph.specs.Rows.{AllHeld}
use Rattle.std.specs.Prelude.{Contains, IsSome}
use Rattle.gix_traverse_commit_known.specs.Meeting.{CountsAll, CountsTimes, IsFresh}
use Rattle.gix_traverse_commit_known.specs.Known.{turns_of}
use Rattle.gix_traverse_commit_known.specs.Nodes.{is_hidden}
use Rattle.gix_traverse_graph.specs.Sorting.{timing_of}
use Rattle.gix_traverse_commit.specs.Simply.{IsNew, IsUnderWay, times_queued}
use Rattle.gix_traverse_commit_known.specs.Asked.{IsSure, timing}
use Rattle.gix_traverse_commit.specs.Giving.{CountsHiddenFault, CountsUnbegun, IsAccepted, IsWanted}
use Rattle.gix_traverse_commit_known.specs.Faults.{SimpleFault, hidden_error}
use Rattle.gix_traverse_commit_known.specs.Timely.{AllRowed, LetsWaitIn}
use Rattle.gix_traverse_commit_known.specs.Told.{AreTold, rows_of}
use Rattle.gix_object_lookup.specs.Table.{Table}
use Rattle.gix_traverse_commit_known.specs.declared.fetch.FetchError.{FetchError}
use Rattle.gix_traverse_commit_known.specs.declared.fetch.FetchError.TheVariants as fault
use Rattle.gix_traverse_graph.specs.declared.parents.Parents.{Parents}
use Rattle.gix_traverse_graph.specs.declared.rows.Row.{Row}
use Rattle.gix_traverse_commit_known.specs.declared.waiting.Turn.{Turn}
use Rattle.gix_traverse_graph.specs.declared.sorting.Timing.{Timing}
use Rattle.gix_traverse_commit_known.specs.declared.faults.Error.{Error}
use Rattle.gix_traverse_commit.proofs.ByTime.{timing_same, under_source}
use Rattle.gix_traverse_commit_known.proofs.Ending.{gains_more, gains_same}
use Rattle.gix_traverse_commit_known.proofs.Meeting.{list_same}
use Rattle.gix_traverse_commit_known.proofs.Simply.{accepts_more}
use Rattle.gix_traverse_commit_known.proofs.Times.{met_or_accepted}
use Rattle.gix_traverse_commit_known.proofs.Awaiting.{waits_in}
use Rattle.gix_traverse_commit.proofs.Counting.{paints_none}
use Rattle.std.proofs.lemmas.Result.{err_from_is_err_and}
use Rattle.gix_traverse_commit.specs.Awaited.{times_of}
use Rattle.gix_traverse_commit.proofs.Awaited.{times_most}
use Rattle.gix_traverse_commit.proofs.Rest.{made_order}
use Rattle.gix_traverse_commit_known.proofs.Ending.{gains_none}
use Rattle.gix_traverse_commit.proofs.simple.Simple.begin.Goals as goal
use Rattle.std.proofs.lemmas.Bool.{false_from_ne_true}

of_hidden : (along : Parents) (honest may_fail : Type 0) (rows : List Row) (table : Table) (hidden : List ObjectId) (error : FetchError) → PaintFault honest may_fail rows table hidden error → SimpleFault (λ _. ⊥) along honest may_fail rows table hidden (hidden_error error)
of_hidden along honest may_fail rows table hidden (fault.Find error) h = h
of_hidden along honest may_fail rows table hidden (fault.ObjectDecode error) h = h
of_hidden along honest may_fail rows table hidden fault.Memory h = tt

hidden_counts : (before after : ℕ) (error : FetchError) → CountsUnread before after error → CountsHiddenFault before after (hidden_error error)
hidden_counts before after (fault.Find error) h = h
hidden_counts before after (fault.ObjectDecode error) h = h
hidden_counts before after fault.Memory h = h

pub returns-in_err-make_tips-clause-store : goal.returns-in_err-make_tips-clause-store
returns-in_err-make_tips-clause-store g c = record {
  objects = ap (λ w. w.source.objects) c.make_tips.ensures.stays;
  rows = ap (λ w. w.source.rows) c.make_tips.ensures.stays;
  unasked = ap (λ w. w.predicate) c.make_tips.ensures.stays;
}

pub returns-in-Err-clause-store : goal.returns-in-Err-clause-store
returns-in-Err-clause-store g c = record {
  objects = c.paint.ensures.same.objects ∙ ap (λ w. w.source.objects) c.make_tips.ensures.stays;
  rows = c.paint.ensures.same.rows ∙ ap (λ w. w.source.rows) c.make_tips.ensures.stays;
  unasked = ap (λ w. w.predicate) c.make_tips.ensures.stays;
}

pub returns-in_err-line_up-clause-store : goal.returns-in_err-line_up-clause-store
returns-in_err-line_up-clause-store g c = record {
  objects = c.line_up.ensures.reads.objects ∙ (c.paint.ensures.same.objects ∙ ap (λ w. w.source.objects) c.make_tips.ensures.stays);
  rows = c.line_up.ensures.reads.rows ∙ (c.paint.ensures.same.rows ∙ ap (λ w. w.source.rows) c.make_tips.ensures.stays);
  unasked = ap (λ w. w.predicate) c.line_up.ensures.stays ∙ ap (λ w. w.predicate) c.make_tips.ensures.stays;
}

pub returns-clause-store : goal.returns-clause-store
returns-clause-store g c = record {
  objects = c.line_up.ensures.reads.objects ∙ (c.paint.ensures.same.objects ∙ ap (λ w. w.source.objects) c.make_tips.ensures.stays);
  rows = c.line_up.ensures.reads.rows ∙ (c.paint.ensures.same.rows ∙ ap (λ w. w.source.rows) c.make_tips.ensures.stays);
  unasked = ap (λ w. w.predicate) c.line_up.ensures.stays ∙ ap (λ w. w.predicate) c.make_tips.ensures.stays;
}

pub returns-clause-keeps : goal.returns-clause-keeps
returns-clause-keeps g c = record {
  stays = record {
    begun = c.in_ok-line_up.ensures.lines.begun;
    parents = ap (λ w. w.parents) c.line_up.ensures.stays ∙ ap (λ w. w.parents) c.make_tips.ensures.stays;
    sorting = ap (λ w. w.sorting) c.line_up.ensures.stays ∙ ap (λ w. w.sorting) c.make_tips.ensures.stays;
    hidden = ap (λ w. w.hidden.items) c.line_up.ensures.stays ∙ ap (λ w. w.hidden.items) c.make_tips.ensures.stays;
  };
  gains = (let queued = times_queued c.make_tips.new.self in
      let queued' : Id → ℕ = λ id. times_in c.paint.new.known.queue id + times_waiting (turns_of c.paint.new.known) id in
      let painted = gains_same c.make_tips.new.self.known.nodes c.paint.new.known.nodes queued queued' (λ x h. c.in_default.ensures.only.met x ∙ h) (λ id. let e = ap (λ (zs : List ObjectId). times_in zs id) c.in_default.ensures.only.queue in let f = ap (λ (ts : List Turn). times_waiting ts id) c.in_default.ensures.only.turns in omega (arith, e, f)) in
      gains_more c.args.self.now.known.nodes c.paint.new.known.nodes c.line_up.new.self.known.nodes (times_queued c.args.self.now) queued' (times_queued c.line_up.new.self)
      (gains_more c.args.self.now.known.nodes c.make_tips.new.self.known.nodes c.paint.new.known.nodes (times_queued c.args.self.now) queued queued' c.in_ok-make_tips.ensures.left painted)
      c.in_ok-line_up.ensures.lines.gains);
  content = ap (λ v. v.items) c.replace-content.ensures.value ∙ ap (λ w. w.source.buffer.items) c.make_tips.ensures.stays;
  kind = ap (λ w. w.kind) c.line_up.ensures.stays ∙ ap (λ w. w.kind) c.make_tips.ensures.stays;
  rowed = (λ r0.
      let r = c.in_ok-make_tips.ensures.rowed r0 in
      let step = c.in_ok-line_up.ensures.lines.rowed (record {
        tips = subst (λ (o : Option (List Row)). AllHeld (rows_of o) c.make_tips.new.self.tips.items) (sym c.paint.ensures.same.rows) r.tips;
        hidden = subst (λ (o : Option (List Row)). AllHeld (rows_of o) c.make_tips.new.self.hidden.items) (sym c.paint.ensures.same.rows) r.hidden;
        queue = subst (λ (o : Option (List Row)). AllHeld (rows_of o) c.paint.new.known.queue) (sym c.paint.ensures.same.rows) (subst (AllHeld (rows_of c.make_tips.new.self.source.rows)) (sym c.in_default.ensures.only.queue) r.queue);
        waiting_rows = subst (λ (o : Option (List Row)). AllRowed (rows_of o) (turns_of c.paint.new.known)) (sym c.paint.ensures.same.rows) (subst (AllRowed (rows_of c.make_tips.new.self.source.rows)) (sym c.in_default.ensures.only.turns) r.waiting_rows);
      }) in
      (record { tips = step.0.tips; hidden = step.0.hidden; queue = step.0.queue; waiting_rows = step.0.waiting_rows }, step.1 ∙ c.in_default.ensures.rowed (subst (λ (xs : List ObjectId). AllHeld (rows_of c.make_tips.new.self.source.rows) xs) (sym c.as_slice.ensures.value) r.hidden) ∙ ap (λ w. w.source.lookups) c.make_tips.ensures.stays));
}

pub returns-clause-begins : goal.returns-clause-begins
returns-clause-begins g c = λ a m.
    let stays = (returns-clause-keeps g c).stays in
    let (parents, sorting) = made_order g.P.Accept.accepts a c.args.self.now m in
    let still = ap (λ w. w.source) c.make_tips.ensures.stays in
    let w : IsNew g.P.Accept.accepts a c.make_tips.new.self = (c.in_ok-make_tips.ensures.made a m).new in
    let hidden : c.as_slice.result.now ≡ a.hidden = c.as_slice.ensures.value ∙ w.hidden in
    let order : timing_of c.make_tips.new.self.parents c.make_tips.new.self.sorting ≡ timing a = timing_same a c.make_tips.new.self.parents c.make_tips.new.self.sorting w.parents w.sorting in
    record {
      under_way = (λ honest0 commits told0 sure0.
          let ids = g.F.Lookup.ids c.args.self.now.source.objects in
          let honest = subst (λ s. g.F.Lookup.is_honest s.objects) (sym still) honest0 in
          let sure = subst (λ s. IsSure (g.F.Lookup.may_fail s.objects) a) (sym still) sure0 in
          let told = subst (λ s. AreTold (rows_of s.rows) (g.F.Lookup.table s.objects) commits) (sym still) told0 in
          let honest' = subst (λ (o : g.row.F.Denot). g.F.Lookup.is_honest o) (sym c.paint.ensures.same.objects) honest in
          let told' = subst (λ (o : g.row.F.Denot). AreTold (rows_of c.paint.new.source.rows) (g.F.Lookup.table o) commits) (sym c.paint.ensures.same.objects) (subst (λ (r : Option (List Row)). AreTold (rows_of r) (g.F.Lookup.table c.make_tips.new.self.source.objects) commits) (sym c.paint.ensures.same.rows) told) in
          under_source g.P.Accept.accepts ids commits a [] c.line_up.new.self (record c.line_up.new.self.source { buffer = c.replace-content.result }) c.line_up.new.self.kind refl (c.in_ok-line_up.ensures.going honest' commits told' ids a (subst (λ (o : g.row.F.Denot). IsSure (g.F.Lookup.may_fail o) a) (sym c.paint.ensures.same.objects) sure) (record {
            tips = w.tips;
            hidden = w.hidden;
            parents = w.parents;
            sorting = w.sorting;
            accepts_as = accepts_more (g.P.Accept.accepts c.make_tips.new.self.predicate) (g.P.Accept.accepts c.make_tips.new.self.predicate) c.make_tips.new.self.known.nodes c.paint.new.known.nodes a refl (λ x h. c.in_default.ensures.only.met x ∙ h) w.accepts_as;
            refused = λ x h. w.asked.refused x (sym (c.in_default.ensures.only.met x) ∙ h);
            accepted = λ x k h. w.asked.accepted x k (sym (c.in_default.ensures.only.met x) ∙ h);
            painted = subst (λ (hs : List ObjectId). Paints commits hs c.paint.new.known.nodes) hidden (c.in_default.ensures.painted w.asked.unpainted honest commits told);
            empty = c.in_default.ensures.only.queue ∙ w.empty;
            none_waits = c.in_default.ensures.only.turns ∙ w.none_waits;
          })));
      unasked = (returns-clause-store g c).unasked;
      beginning = (let (asked, each, list) = c.in_default.ensures.counted in
          let tips = c.in_ok-line_up.ensures.lines.timed in
          record {
            painted = asked;
            behind = c.paint.new.source.lookups;
            each = subst (λ s. CountsAll (rows_of s.rows) asked s.lookups c.paint.new.source.lookups) still each;
            is_list = λ honest commits told. subst (λ (hs : List ObjectId). IsListOf (ReachedFrom commits hs) asked) hidden
                (list w.asked.unpainted (subst (λ s. g.F.Lookup.is_honest s.objects) (sym still) honest) commits (subst (λ s. AreTold (rows_of s.rows) (g.F.Lookup.table s.objects) commits) (sym still) told));
            in_breadth = λ n. (let least = c.line_up.ensures.reads.least in let most = subst (λ (t : Option Timing). c.line_up.new.self.source.lookups ≤ c.paint.new.source.lookups + times_of t c.make_tips.new.self.tips.items) (order ∙ n) c.line_up.ensures.reads.most in omega (arith, least, most));
            least = c.line_up.ensures.reads.least;
            most = subst (λ (ts : List ObjectId). c.line_up.new.self.source.lookups ≤ c.paint.new.source.lookups + length ts) w.tips
                (let most = c.line_up.ensures.reads.most in let few = times_most (timing_of c.make_tips.new.self.parents c.make_tips.new.self.sorting) c.make_tips.new.self.tips.items in omega (arith, most, few));
            timed = tips.timed;
            times = subst (λ s. CountsTimes (timing a) (rows_of s.rows) tips.timed c.paint.new.source.lookups c.line_up.new.self.source.lookups) still
                (subst (λ (r : Option (List Row)). CountsTimes (timing a) (rows_of r) tips.timed c.paint.new.source.lookups c.line_up.new.self.source.lookups) c.paint.ensures.same.rows
                (subst (λ (t : Option Timing). CountsTimes t (rows_of c.paint.new.source.rows) tips.timed c.paint.new.source.lookups c.line_up.new.self.source.lookups) order tips.each));
            are_timed = (λ some honest commits told.
                let painted = subst (λ (hs : List ObjectId). Paints commits hs c.paint.new.known.nodes) hidden
                (c.in_default.ensures.painted w.asked.unpainted (subst (λ s. g.F.Lookup.is_honest s.objects) (sym still) honest) commits (subst (λ s. AreTold (rows_of s.rows) (g.F.Lookup.table s.objects) commits) (sym still) told)) in
                list_same (IsFresh c.paint.new.known.nodes c.make_tips.new.self.tips.items) (λ x. Contains a.tips x × IsAccepted a x × (ReachedFrom commits a.hidden x → ⊥)) tips.timed
                (λ x (k, m, h). (
                  subst (λ (ts : List ObjectId). Contains ts x) w.tips k,
                  w.asked.accepted x (subst (λ (ts : List ObjectId). Contains ts x) w.tips k) (sym (c.in_default.ensures.only.met x) ∙ m),
                  (λ r. let t = (painted x).1 r in let z : ⊥ = cc in z),
                ))
                (λ x (k, y, out). (
                  subst (λ (ts : List ObjectId). Contains ts x) (sym w.tips) k,
                  c.in_default.ensures.only.met x ∙ met_or_accepted a.accepts c.make_tips.new.self.known.nodes x (w.asked.refused x) y,
                  false_from_ne_true (is_hidden c.paint.new.known.nodes x) (λ t. out ((painted x).0 t)),
                ))
                (tips.list (subst (λ (t : Option Timing). IsSome t) (sym order) some)));
          });
      order = timing_same a c.line_up.new.self.parents c.line_up.new.self.sorting (stays.parents ∙ parents) (stays.sorting ∙ sorting);
      tips_wait = (λ honest0 commits told0.
          let honest = subst (λ s. g.F.Lookup.is_honest s.objects) (sym still) honest0 in
          let told = subst (λ s. AreTold (rows_of s.rows) (g.F.Lookup.table s.objects) commits) (sym still) told0 in
          let honest' = subst (λ (o : g.row.F.Denot). g.F.Lookup.is_honest o) (sym c.paint.ensures.same.objects) honest in
          let told' = subst (λ (o : g.row.F.Denot). AreTold (rows_of c.paint.new.source.rows) (g.F.Lookup.table o) commits) (sym c.paint.ensures.same.objects) (subst (λ (r : Option (List Row)). AreTold (rows_of r) (g.F.Lookup.table c.make_tips.new.self.source.objects) commits) (sym c.paint.ensures.same.rows) told) in
          let painted = subst (λ (hs : List ObjectId). Paints commits hs c.paint.new.known.nodes) hidden (c.in_default.ensures.painted w.asked.unpainted honest commits told) in
          let may_fail = g.F.Lookup.may_fail c.args.self.now.source.objects in
          let before = turns_of c.paint.new.known in
          let after = turns_of c.line_up.new.self.known in
          let same : c.paint.new.source.objects ≡ c.args.self.now.source.objects = c.paint.ensures.same.objects ∙ ap (λ s. s.objects) still in
          let step = subst (λ (o : g.row.F.Denot). LetsWaitIn (timing_of c.make_tips.new.self.parents c.make_tips.new.self.sorting) (g.F.Lookup.may_fail o) commits (IsFresh c.paint.new.known.nodes c.make_tips.new.self.tips.items) before after) same (c.in_ok-line_up.ensures.awaits honest' commits told') in
          let timed = subst (λ (t : Option Timing). LetsWaitIn t may_fail commits (IsFresh c.paint.new.known.nodes c.make_tips.new.self.tips.items) before after) order step in
          let empty = subst (λ (ts : List Turn). LetsWaitIn (timing a) may_fail commits (IsFresh c.paint.new.known.nodes c.make_tips.new.self.tips.items) ts after) (c.in_default.ensures.only.turns ∙ w.none_waits) timed in
          waits_in (timing a) may_fail commits (IsFresh c.paint.new.known.nodes c.make_tips.new.self.tips.items) (IsWanted commits a) [] after
          (λ x (k, m, h). (
            subst (λ (ts : List ObjectId). Contains ts x) w.tips k,
            w.asked.accepted x (subst (λ (ts : List ObjectId). Contains ts x) w.tips k) (sym (c.in_default.ensures.only.met x) ∙ m),
            (λ r. let t = (painted x).1 r in let z : ⊥ = cc in z),
          ))
          (λ x (k, y, out). (
            subst (λ (ts : List ObjectId). Contains ts x) (sym w.tips) k,
            c.in_default.ensures.only.met x ∙ met_or_accepted a.accepts c.make_tips.new.self.known.nodes x (w.asked.refused x) y,
            false_from_ne_true (is_hidden c.paint.new.known.nodes x) (λ t. out ((painted x).0 t)),
          ))
          empty);
      stays = stays;
      painted = (λ honest0 commits told0.
          let honest = subst (λ s. g.F.Lookup.is_honest s.objects) (sym still) honest0 in
          let told = subst (λ s. AreTold (rows_of s.rows) (g.F.Lookup.table s.objects) commits) (sym still) told0 in
          let painted = subst (λ (hs : List ObjectId). Paints commits hs c.paint.new.known.nodes) hidden (c.in_default.ensures.painted w.asked.unpainted honest commits told) in
          λ x. subst (λ (b : Bool). (b ≡ true) ↔ ReachedFrom commits a.hidden x) (sym (c.in_ok-line_up.ensures.lines.painted x)) (painted x));
      met = (λ x.
          let around = (c.in_ok-make_tips.ensures.made a m).met x in
          let line = c.in_ok-line_up.ensures.lines.met x in (
            (λ h. around.0 (elim (line.0 h) [ inl p ↦ inl (sym (c.in_default.ensures.only.met x) ∙ p) | inr k ↦ inr (subst (λ (ts : List ObjectId). Contains ts x) w.tips k) ])),
            (λ d. line.1 (elim (around.1 d) [ inl q ↦ inl (c.in_default.ensures.only.met x ∙ q) | inr k ↦ inr (subst (λ (ts : List ObjectId). Contains ts x) (sym w.tips) k) ])),
          ));
      gains = (returns-clause-keeps g c).gains;
    }

pub returns-then-self-clause-going : goal.returns-then-self-clause-going
returns-then-self-clause-going g c = λ honest commits told a listed sure s. elim s [
  | inl (e, inl m) ↦ (let h = m.begun in let f = c.if-self.true in let z : ⊥ = cc in absurd z)
  | inl (e, inr m) ↦ (let h = m.begun in let f = c.if-self.true in let z : ⊥ = cc in absurd z)
  | inr w ↦ w
]

pub returns-clause-going : goal.returns-clause-going
returns-clause-going g c = λ honest commits told a listed sure s. elim s [
  | inl (e, m) ↦ subst (λ (zs : List ObjectId). IsUnderWay g.P.Accept.accepts (g.F.Lookup.ids c.args.self.now.source.objects) commits a zs (record c.line_up.new.self { source = record c.line_up.new.self.source { buffer = c.replace-content.result } })) (sym e) ((returns-clause-begins g c a m).under_way honest commits told sure)
  | inr (inl w) ↦ (let h = w.begun in let f = c.if-self.false in let z : ⊥ = cc in absurd z)
  | inr (inr w) ↦ (let h = w.begun in let f = c.if-self.false in let z : ⊥ = cc in absurd z)
]

pub returns-then-self-clause-begins : goal.returns-then-self-clause-begins
returns-then-self-clause-begins g c = λ a made. elim made [
  | inl m ↦ (let h = m.begun in let f = c.if-self.true in let z : ⊥ = cc in absurd z)
  | inr m ↦ (let h = m.begun in let f = c.if-self.true in let z : ⊥ = cc in absurd z)
]

pub returns-then-self-clause-keeps : goal.returns-then-self-clause-keeps
returns-then-self-clause-keeps g c = record {
  stays = record { begun = c.if-self.true; parents = refl; sorting = refl; hidden = refl };
  gains = gains_none c.args.self.now.known.nodes (times_queued c.args.self.now);
  content = refl;
  kind = refl;
  rowed = λ r. (r, refl);
}

pub returns-in_err-make_tips-clause-fails : goal.returns-in_err-make_tips-clause-fails
returns-in_err-make_tips-clause-fails g c = λ a m.
    let p = err_from_is_err_and c.from_residual.result c.from_residual.ensures.1 in
    let before = c.args.self.now.source.lookups in
    let e = ap (λ w. w.source.lookups) c.make_tips.ensures.stays in
    let least : before ≤ c.make_tips.new.self.source.lookups = omega (arith, e) in
    rw (p.1, p.2) (record { cause = tt; counts = (before, paints_none (g.F.Lookup.is_honest c.args.self.now.source.objects) (rows_of c.args.self.now.source.rows) (g.F.Lookup.table c.args.self.now.source.objects) a.hidden before, least) })

pub returns-in-Err-clause-fails : goal.returns-in-Err-clause-fails
returns-in-Err-clause-fails g c = λ a m.
    let still = ap (λ w. w.source) c.make_tips.ensures.stays in
    let w : IsNew g.P.Accept.accepts a c.make_tips.new.self = (c.in_ok-make_tips.ensures.made a m).new in
    let honest = g.F.Lookup.is_honest c.args.self.now.source.objects in
    let may_fail = g.F.Lookup.may_fail c.args.self.now.source.objects in
    let rows = rows_of c.args.self.now.source.rows in
    let table = g.F.Lookup.table c.args.self.now.source.objects in
    let error : FetchError = c.in-Err.error in
    let why = subst (λ s. PaintFault (g.F.Lookup.is_honest s.objects) (g.F.Lookup.may_fail s.objects) (rows_of s.rows) (g.F.Lookup.table s.objects) c.as_slice.result.now error) still (c.in-Err.ensures.refused w.asked.unpainted) in
    let hidden : c.as_slice.result.now ≡ a.hidden = c.as_slice.ensures.value ∙ w.hidden in
    let cause = subst (λ (hs : List ObjectId). PaintFault honest may_fail rows table hs error) hidden why in
    let before = c.args.self.now.source.lookups in
    let after = c.paint.new.source.lookups in
    let here = subst (λ s. CountsUnpainted (g.F.Lookup.is_honest s.objects) (rows_of s.rows) (g.F.Lookup.table s.objects) c.as_slice.result.now s.lookups after error) still (c.in-Err.ensures.counted_fault w.asked.unpainted) in
    let of_tips = subst (λ (hs : List ObjectId). CountsUnpainted honest rows table hs before after error) hidden here in
    let (behind, some, one) = of_tips in
    record {
      cause = subst (λ (e : Error). SimpleFault (λ _. ⊥) a.parents honest may_fail rows table a.hidden e) (sym c.of_painting.ensures) (of_hidden a.parents honest may_fail rows table a.hidden error cause);
      counts = subst (λ (e : Error). CountsUnbegun honest rows table a.hidden before after e) (sym c.of_painting.ensures) (behind, some, hidden_counts behind after error one);
    }

pub returns-in_err-line_up-clause-fails : goal.returns-in_err-line_up-clause-fails
returns-in_err-line_up-clause-fails g c = λ a m.
    let p = err_from_is_err_and c.from_residual-in_err-line_up.result c.from_residual-in_err-line_up.ensures.1 in
    let still = ap (λ w. w.source) c.make_tips.ensures.stays in
    let w : IsNew g.P.Accept.accepts a c.make_tips.new.self = (c.in_ok-make_tips.ensures.made a m).new in
    let honest = g.F.Lookup.is_honest c.args.self.now.source.objects in
    let rows = rows_of c.args.self.now.source.rows in
    let table = g.F.Lookup.table c.args.self.now.source.objects in
    let before = c.args.self.now.source.lookups in
    let behind = c.paint.new.source.lookups in
    let after = c.line_up.new.self.source.lookups in
    let hidden : c.as_slice.result.now ≡ a.hidden = c.as_slice.ensures.value ∙ w.hidden in
    let (asked, each, list) = c.in_default.ensures.counted in
    let some : PaintsSome honest rows table a.hidden before behind = record {
      painted = asked;
      each = subst (λ s. CountsAll (rows_of s.rows) asked s.lookups behind) still each;
      are_reached = (λ h commits told.
          let all = subst (λ (hs : List ObjectId). IsListOf (ReachedFrom commits hs) asked) hidden
          (list w.asked.unpainted (subst (λ s. g.F.Lookup.is_honest s.objects) (sym still) h) commits (subst (λ s. AreTold (rows_of s.rows) (g.F.Lookup.table s.objects) commits) (sym still) told)) in
          record { each = λ x k. (all.each x).0 k; once = all.once });
    } in
    rw (p.1, p.2) (record { cause = tt; counts = (behind, some, c.line_up.ensures.reads.least) })
