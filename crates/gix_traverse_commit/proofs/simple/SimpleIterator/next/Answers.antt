use Rattle.std.proofs.Common.{inl, inr, ◌<◌, ◌≡◌, ◌∙◌, sym, refl, ap, subst, arith, ℕ, length, List, [], ◌∷◌, ◌++◌, Option, None, true, false, cond, ◌+◌}
use Rattle.gix_hash.specs.Id.{id_of}
use Rattle.gix_hash.specs.declared.object_id.ObjectId.{ObjectId}
use Rattle.std.specs.List.{sum_by}
use Rattle.gix_traverse_commit_known.specs.Ending.{may_come, times_in, known_ids}
use Rattle.gix_traverse_commit_known.specs.Meeting.{CountsOne, IsFresh, MarksMet}
use Rattle.gix_traverse_commit_known.specs.Asked.{timing, IsKnown, IsSure, IsTurn}
use Rattle.gix_traverse_commit.specs.Simply.{IsAtTurn, IsOver, IsUnderWay, is_over, left_of, times_queued}
use Rattle.gix_traverse_commit.specs.Giving.{CountsBeginning, CountsUnbegun, IsWanted, CountsFault, CountsUpTo, IsContentOf, IsInfo, ComesInTurn, FailsInTurn, IsMetWith, KeepsOrder}
use Rattle.gix_traverse_commit_known.specs.Faults.{StopsFetch}
use Rattle.gix_traverse_graph.specs.Rows.{Holds}
use Rattle.gix_traverse_graph.specs.Sorting.{timing_of}
use Rattle.gix_traverse_commit_known.specs.Known.{turns_of}
use Rattle.gix_traverse_commit_known.specs.Told.{AreTold, rows_of}
use Rattle.gix_traverse_graph.specs.declared.parents.Parents.{Parents}
use Rattle.gix_traverse_graph.specs.declared.rows.Row.{Row}
use Rattle.gix_traverse_graph.specs.declared.sorting.Sorting.{Sorting}
use Rattle.gix_traverse_commit.proofs.ByTime.{at_fewer, at_order, timing_same}
use Rattle.gix_traverse_commit_known.proofs.Awaiting.{none_awaited}
use Rattle.gix_traverse_commit.proofs.Counting.{meets_moved}
use Rattle.gix_traverse_commit_known.proofs.Ending.{fewer_left, left_falls, none_left}
use Rattle.gix_traverse_commit.proofs.Over.{over_from, over_test}
use Rattle.gix_traverse_commit.proofs.Rest.{made_order}
use Rattle.gix_traverse_commit_known.proofs.Simply.{fault_more, fetch_fault}
use Rattle.std.specs.Prelude.{IsSome}
use Rattle.gix_traverse_graph.specs.Commits.{Commits}
use Rattle.gix_traverse_commit_known.specs.Nodes.{Node, is_hidden}
use Rattle.gix_traverse_commit_known.specs.Timely.{LetsWaitIn, TakesTurn}
use Rattle.gix_traverse_graph.specs.declared.sorting.Timing.{Timing}
use Rattle.gix_traverse_commit.proofs.simple.SimpleIterator.next.Goals as goal

no_way : false ≡ true → ⊥
no_way e = cc

pub returns-in-Err-clause-steps : goal.returns-in-Err-clause-steps
returns-in-Err-clause-steps g c = record {
  objects = c.stop.ensures.store.objects ∙ c.begin.ensures.store.objects;
  rows = c.stop.ensures.store.rows ∙ c.begin.ensures.store.rows;
  given = λ honest commits told a listed sure s. tt;
  end = λ honest commits told a listed sure s. tt;
  refused = λ honest commits told a listed sure s. fault_more (λ _. ⊥) (IsTurn commits a listed) a.parents (g.F.Lookup.is_honest c.args.self.now.source.objects) (g.F.Lookup.may_fail c.args.self.now.source.objects) (rows_of c.args.self.now.source.rows) (g.F.Lookup.table c.args.self.now.source.objects) a.hidden c.in-Err.error (λ x z. absurd z) (elim s [
    | inl (e, m) ↦ (c.in-Err.ensures.fails a m).cause
    | inr (inl w) ↦ absurd (no_way (c.in-Err.ensures.same w.begun).0)
    | inr (inr w) ↦ absurd (no_way (c.in-Err.ensures.same w.begun).0)
  ]);
  failed = c.stop.ensures.over;
  ended = λ o. absurd (no_way ((c.in-Err.ensures.same o.begun).0));
  content = tt;
  counted = λ b n. absurd (no_way ((c.in-Err.ensures.same b).0));
  counted_one = λ b n. tt;
  counted_by_time = λ b. tt;
  rowed = λ r. tt;
  meets = λ b. tt;
  unasked = tt;
  over = tt;
  content_end = tt;
  content_fault = c.stop.ensures.emptied;
  counted_end = λ b. tt;
  counted_fault = λ b. absurd (no_way ((c.in-Err.ensures.same b).0));
  rowed_end = λ r. tt;
  first = λ a m. tt;
  first_end = λ a m. tt;
  falls = tt;
  in_turn = λ b honest commits told. tt;
  in_turn_end = λ b by_time. tt;
  tips_end = λ a m honest commits told. tt;
  in_turn_fault = λ b. absurd (no_way ((c.in-Err.ensures.same b).0));
  told = λ honest commits told. tt;
  stays = tt;
  paint_stays = λ b. tt;
  takes_one = tt;
  flags = λ b. tt;
  first_fault = λ a m. inl (record {
    cause = (c.in-Err.ensures.fails a m).cause;
    counts = subst (λ (n : ℕ). CountsUnbegun (g.F.Lookup.is_honest c.args.self.now.source.objects) (rows_of c.args.self.now.source.rows) (g.F.Lookup.table c.args.self.now.source.objects) a.hidden c.args.self.now.source.lookups n c.in-Err.error) (sym c.stop.ensures.lookups) (c.in-Err.ensures.fails a m).counts;
  });
  unasked_fault = inr (c.stop.ensures.store.unasked ∙ c.begin.ensures.store.unasked);
  kind_end = tt;
  queues = λ b some. tt;
}

pub returns-in_default-take-clause-steps : goal.returns-in_default-take-clause-steps
returns-in_default-take-clause-steps g c =
    let lookups : c.finish.new.self.source.lookups ≡ c.begin.new.self.source.lookups = ap (λ s. s.lookups) ((ap (λ w. w.source) c.finish.ensures.stays) ∙ (ap (λ w. w.source) c.take.ensures.stays)) in
    record {
      objects = ap (λ s. s.objects) (ap (λ w. w.source) c.finish.ensures.stays) ∙ ap (λ s. s.objects) (ap (λ w. w.source) c.take.ensures.stays) ∙ c.begin.ensures.store.objects;
      rows = ap (λ s. s.rows) (ap (λ w. w.source) c.finish.ensures.stays) ∙ ap (λ s. s.rows) (ap (λ w. w.source) c.take.ensures.stays) ∙ c.begin.ensures.store.rows;
      given = λ honest commits told a listed sure s. tt;
      end = λ honest commits told a listed sure s. c.in_default-take.ensures.ends.end (g.F.Lookup.ids c.args.self.now.source.objects) commits a listed (c.in_default.ensures.going honest commits told a listed sure s);
      refused = λ honest commits told a listed sure s. tt;
      failed = tt;
      ended = λ o. refl;
      content = tt;
      counted = λ b n. let s = ap (λ walk. walk.source.lookups) ((c.in_default.ensures.same b).1) in omega (arith, lookups, s);
      counted_one = λ b n. tt;
      counted_by_time = λ b. tt;
      rowed = λ r. tt;
      meets = λ b. tt;
      unasked = (ap (λ w. w.predicate) c.finish.ensures.stays) ∙ ((ap (λ w. w.predicate) c.take.ensures.stays) ∙ c.begin.ensures.store.unasked);
      over = c.finish.ensures.over;
      content_end = ap (λ s. s.buffer.items) ((ap (λ w. w.source) c.finish.ensures.stays) ∙ (ap (λ w. w.source) c.take.ensures.stays)) ∙ c.in_default.ensures.keeps.content;
      content_fault = tt;
      counted_end = λ b. lookups ∙ ap (λ walk. walk.source.lookups) ((c.in_default.ensures.same b).1);
      counted_fault = λ b. tt;
      rowed_end = λ r. lookups ∙ (c.in_default.ensures.keeps.rowed r).1;
      first = λ a m. tt;
      first_end = λ a m. subst (λ (n : ℕ). CountsBeginning (g.F.Lookup.is_honest c.args.self.now.source.objects) (rows_of c.args.self.now.source.rows) (g.F.Lookup.table c.args.self.now.source.objects) a c.args.self.now.source.lookups n) (sym lookups) ((c.in_default.ensures.begins a m).beginning);
      falls = tt;
      in_turn = λ b honest commits told. tt;
      in_turn_end = λ b by_time. subst (λ walk. IsSome (timing_of walk.parents walk.sorting) → turns_of walk.known ≡ []) ((c.in_default.ensures.same b).1) c.in_default-take.ensures.ends.none_waits by_time;
      tips_end = (λ a m honest commits told.
          let order = made_order g.P.Accept.accepts a c.args.self.now m in
          let same = timing_same a c.begin.new.self.parents c.begin.new.self.sorting (c.in_default.ensures.keeps.stays.parents ∙ order.0) (c.in_default.ensures.keeps.stays.sorting ∙ order.1) in
          none_awaited (timing a) (g.F.Lookup.may_fail c.args.self.now.source.objects) commits (IsWanted commits a) (turns_of c.begin.new.self.known) (λ some. c.in_default-take.ensures.ends.none_waits (subst (λ (t : Option Timing). IsSome t) (sym same) some)) ((c.in_default.ensures.begins a m).tips_wait honest commits told));
      in_turn_fault = λ b. tt;
      told = λ honest commits told. tt;
      stays = tt;
      paint_stays = λ b. tt;
      takes_one = tt;
      flags = λ b. tt;
      first_fault = λ a m. tt;
      unasked_fault = tt;
      kind_end = (ap (λ w. w.kind) c.finish.ensures.stays) ∙ ((ap (λ w. w.kind) c.take.ensures.stays) ∙ c.in_default.ensures.keeps.kind);
      queues = λ b some. tt;
    }

pub returns-in-Ok-clause-steps : goal.returns-in-Ok-clause-steps
returns-in-Ok-clause-steps g c =
    let rows = rows_of c.args.self.now.source.rows in
    let ids = g.F.Lookup.ids c.args.self.now.source.objects in
    let id : ObjectId = c.in-Some.id in
    let objects : c.take.new.self.source.objects ≡ c.args.self.now.source.objects = ap (λ s. s.objects) (ap (λ w. w.source) c.take.ensures.stays) ∙ c.begin.ensures.store.objects in
    let same_rows : c.take.new.self.source.rows ≡ c.args.self.now.source.rows = ap (λ s. s.rows) (ap (λ w. w.source) c.take.ensures.stays) ∙ c.begin.ensures.store.rows in
    let in_order : timing_of c.take.new.self.parents c.take.new.self.sorting ≡ timing_of c.begin.new.self.parents c.begin.new.self.sorting = ap (λ (p : Parents). timing_of p c.take.new.self.sorting) (ap (λ w. w.parents) c.take.ensures.stays) ∙ ap (λ (s : Sorting). timing_of c.begin.new.self.parents s) (ap (λ w. w.sorting) c.take.ensures.stays) in
    let may_fail = g.F.Lookup.may_fail c.args.self.now.source.objects in
    let order = timing_of c.begin.new.self.parents c.begin.new.self.sorting in
    let comes : g.F.Lookup.is_honest c.args.self.now.source.objects → (commits : Commits ObjectId) → AreTold rows (g.F.Lookup.table c.args.self.now.source.objects) commits → ComesInTurn g.P.Accept.accepts may_fail commits c.begin.new.self c.in-Ok.info c.enter.new.self = (λ honest commits told.
    let honest' = subst (λ (o : g.row.F.Denot). g.F.Lookup.is_honest o) (sym objects) honest in
    let told' = subst (λ (o : g.row.F.Denot). AreTold (rows_of c.take.new.self.source.rows) (g.F.Lookup.table o) commits) (sym objects) (subst (λ (r : Option (List Row)). AreTold (rows_of r) (g.F.Lookup.table c.args.self.now.source.objects) commits) (sym same_rows) told) in
    let ps : List ObjectId = c.in-Ok.info.parent_ids.items in
    let turns = turns_of c.take.new.self.known in
    let turns' = turns_of c.enter.new.self.known in
    let p' = c.take.new.self.predicate in
    let here = subst (λ (o : g.row.F.Denot). LetsWaitIn (timing_of c.take.new.self.parents c.take.new.self.sorting) (g.F.Lookup.may_fail o) commits (IsMetWith g.P.Accept.accepts c.take.new.self ps) turns turns') objects (c.in-Ok.ensures.awaits honest' commits told') in
    let timed = subst (λ (t : Option Timing). LetsWaitIn t may_fail commits (IsMetWith g.P.Accept.accepts c.take.new.self ps) turns turns') in_order here in
    let nodes = subst (λ (ns : List Node). LetsWaitIn order may_fail commits (λ x. IsFresh ns ps x × (g.P.Accept.accepts p' (id_of x) ≡ true)) turns turns') c.in-Some.ensures.takes.nodes timed in
    record {
      others = turns;
      taken = subst (λ (x : ObjectId). TakesTurn order (turns_of c.begin.new.self.known) x turns) (sym c.in-Ok.ensures.comes.same) c.in-Some.ensures.takes.waiting;
      parents = subst (λ (p : g.row.P.Denot). LetsWaitIn order may_fail commits (λ x. IsFresh c.begin.new.self.known.nodes ps x × (g.P.Accept.accepts p (id_of x) ≡ true)) turns turns') (ap (λ w. w.predicate) c.take.ensures.stays) nodes;
    }) in
    let queued : IsSome order → KeepsOrder c.begin.new.self c.in-Ok.info c.enter.new.self = (λ some. record {
      between = c.take.new.self.known;
      nodes = c.in-Some.ensures.takes.nodes;
      order = c.in-Some.ensures.takes.queueing some;
      taken = subst (λ (x : ObjectId). TakesTurn order (turns_of c.begin.new.self.known) x (turns_of c.take.new.self.known)) (sym c.in-Ok.ensures.comes.same) c.in-Some.ensures.takes.waiting;
      behind = c.in-Ok.ensures.comes.behind (subst (λ (t : Option Timing). IsSome t) (sym in_order) some);
    }) in
    let known : IsKnown rows ids id = subst (λ (o : g.row.F.Denot). IsKnown rows (g.F.Lookup.ids o) id) objects (subst (λ (r : Option (List Row)). IsKnown (rows_of r) (g.F.Lookup.ids c.take.new.self.source.objects) id) same_rows c.in-Ok.ensures.comes.known) in
    record {
      objects = c.enter.ensures.same.objects ∙ objects;
      rows = c.enter.ensures.same.rows ∙ same_rows;
      given = (λ honest commits told a listed sure s.
          let w = c.in_default.ensures.going honest commits told a listed sure s in
          let (at, turn) = c.in-Some.ensures.takes.turn ids commits a listed w in
          let honest' = subst (λ (o : g.row.F.Denot). g.F.Lookup.is_honest o) (sym objects) honest in
          let sure' = subst (λ (o : g.row.F.Denot). IsSure (g.F.Lookup.may_fail o) a) (sym objects) sure in
          let told' = subst (λ (o : g.row.F.Denot). AreTold (rows_of c.take.new.self.source.rows) (g.F.Lookup.table o) commits) (sym objects) (subst (λ (r : Option (List Row)). AreTold (rows_of r) (g.F.Lookup.table c.args.self.now.source.objects) commits) (sym same_rows) told) in
          let (parents, sorting) = at_order g.P.Accept.accepts ids commits a listed id c.take.new.self at in
          let under = c.in-Ok.ensures.going honest' commits told' a listed sure' (subst (λ (o : g.row.F.Denot). IsAtTurn g.P.Accept.accepts (g.F.Lookup.ids o) commits a listed id c.take.new.self) (sym objects) at) in
          record {
            told = subst (λ (p : Parents). IsInfo commits rows p a.sorting c.in-Ok.info) parents (subst (λ (s : Sorting). IsInfo commits rows c.take.new.self.parents s c.in-Ok.info) sorting (subst (λ (o : Option (List Row)). IsInfo commits (rows_of o) c.take.new.self.parents c.take.new.self.sorting c.in-Ok.info) same_rows (c.in-Ok.ensures.told honest' commits told')));
            fewer = at_fewer g.P.Accept.accepts ids commits a listed id c.take.new.self rows (sym (ap rows_of same_rows)) known at;
            stands = subst (λ (x : ObjectId). IsUnderWay g.P.Accept.accepts ids commits a (listed ++ x ∷ []) c.enter.new.self) (sym c.in-Ok.ensures.comes.same) (subst (λ (o : g.row.F.Denot). IsUnderWay g.P.Accept.accepts (g.F.Lookup.ids o) commits a (listed ++ id ∷ []) c.enter.new.self) objects under);
          });
      end = λ honest commits told a listed sure s. tt;
      refused = λ honest commits told a listed sure s. tt;
      failed = tt;
      ended = (λ o. let e = (c.in_default.ensures.same o.begun).1 in let over : IsOver c.begin.new.self = subst IsOver (sym e) o in let h = rw c.in-Some.is at (c.take.ensures.ended over) in absurd (no_way (sym h)));
      content = subst (λ (x : ObjectId). IsContentOf (g.F.Lookup.is_honest c.args.self.now.source.objects) rows (g.F.Lookup.table c.args.self.now.source.objects) x c.enter.new.self.source.buffer.items × (c.enter.new.self.kind ≡ (id_of x).kind)) (sym c.in-Ok.ensures.comes.same)
          (subst (λ (o : g.row.F.Denot). IsContentOf (g.F.Lookup.is_honest o) rows (g.F.Lookup.table o) id c.enter.new.self.source.buffer.items × (c.enter.new.self.kind ≡ (id_of id).kind)) objects
          (subst (λ (r : Option (List Row)). IsContentOf (g.F.Lookup.is_honest c.take.new.self.source.objects) (rows_of r) (g.F.Lookup.table c.take.new.self.source.objects) id c.enter.new.self.source.buffer.items × (c.enter.new.self.kind ≡ (id_of id).kind)) same_rows (c.in-Ok.ensures.comes.content, c.in-Ok.ensures.comes.kind)));
      counted = (λ b n. let s = (c.in_default.ensures.same b).1 in let f = (ap (λ w. w.source) c.take.ensures.stays) in let e : c.take.new.self.source.lookups ≡ c.args.self.now.source.lookups = cc in
          let m : timing_of c.take.new.self.parents c.take.new.self.sorting ≡ None = (let p = (ap (λ w. w.parents) c.take.ensures.stays) in let q = (ap (λ w. w.sorting) c.take.ensures.stays) in ap (λ (x : Parents). timing_of x c.take.new.self.sorting) p ∙ (ap (λ (x : Sorting). timing_of c.begin.new.self.parents x) q ∙ (ap (λ walk. timing_of walk.parents walk.sorting) s ∙ n))) in
          omega (arith, c.in-Ok.ensures.comes.in_breadth m));
      counted_one = (λ b n. let s = (c.in_default.ensures.same b).1 in let f = (ap (λ w. w.source) c.take.ensures.stays) in let e : c.take.new.self.source.lookups ≡ c.args.self.now.source.lookups = cc in
          let m : timing_of c.take.new.self.parents c.take.new.self.sorting ≡ None = (let p = (ap (λ w. w.parents) c.take.ensures.stays) in let q = (ap (λ w. w.sorting) c.take.ensures.stays) in ap (λ (x : Parents). timing_of x c.take.new.self.sorting) p ∙ (ap (λ (x : Sorting). timing_of c.begin.new.self.parents x) q ∙ (ap (λ walk. timing_of walk.parents walk.sorting) s ∙ n))) in
          subst (λ (x : ObjectId). CountsOne rows x c.args.self.now.source.lookups c.enter.new.self.source.lookups) (sym c.in-Ok.ensures.comes.same)
          (subst (λ (n : ℕ). CountsOne rows id n c.enter.new.self.source.lookups) e
          (subst (λ (r : Option (List Row)). CountsOne (rows_of r) id c.take.new.self.source.lookups c.enter.new.self.source.lookups) same_rows (c.in-Ok.ensures.comes.one m))));
      counted_by_time = (λ b. let s = (c.in_default.ensures.same b).1 in let f = (ap (λ w. w.source) c.take.ensures.stays) in let e : c.take.new.self.source.lookups ≡ c.args.self.now.source.lookups = cc in
          let more : ℕ = length c.in-Ok.info.parent_ids.items in
          subst (λ (x : ObjectId). CountsUpTo rows x more c.args.self.now.source.lookups c.enter.new.self.source.lookups) (sym c.in-Ok.ensures.comes.same)
          (subst (λ (n : ℕ). CountsUpTo rows id more n c.enter.new.self.source.lookups) e
          (subst (λ (r : Option (List Row)). CountsUpTo (rows_of r) id more c.take.new.self.source.lookups c.enter.new.self.source.lookups) same_rows c.in-Ok.ensures.comes.counted)));
      rowed = (λ r.
          let (r', e) = c.in_default.ensures.keeps.rowed r in
          let (r2, held) = c.in-Some.ensures.takes.rowed r' in
          let (n, f) = c.in-Ok.ensures.comes.rowed r2 (subst (λ s. Holds (rows_of s.rows) id) (sym (ap (λ w. w.source) c.take.ensures.stays)) held) in
          (n, f ∙ (ap (λ s. s.lookups) (ap (λ w. w.source) c.take.ensures.stays) ∙ e)));
      meets = (λ b. let s = (c.in_default.ensures.same b).1 in
          meets_moved g.P.Accept.accepts g.P.Accept.goes (rows_of c.take.new.self.source.rows) rows c.take.new.self.known.nodes c.args.self.now.known.nodes (timing_of c.take.new.self.parents c.take.new.self.sorting) (timing_of c.args.self.now.parents c.args.self.now.sorting) c.in-Ok.info c.take.new.self.predicate c.args.self.now.predicate c.take.new.self.source.lookups c.args.self.now.source.lookups c.enter.new.self.predicate c.enter.new.self.source.lookups
          (ap rows_of same_rows) (c.in-Some.ensures.takes.nodes ∙ ap (λ walk. walk.known.nodes) s) (in_order ∙ ap (λ walk. timing_of walk.parents walk.sorting) s) ((ap (λ w. w.predicate) c.take.ensures.stays) ∙ ap (λ walk. walk.predicate) s) (ap (λ source. source.lookups) (ap (λ w. w.source) c.take.ensures.stays) ∙ ap (λ walk. walk.source.lookups) s) c.in-Ok.ensures.comes.meets);
      unasked = tt;
      over = tt;
      content_end = tt;
      content_fault = tt;
      counted_end = λ b. tt;
      counted_fault = λ b. tt;
      rowed_end = λ r. tt;
      first = (λ a m.
          let f : c.take.new.self.source.lookups ≡ c.begin.new.self.source.lookups = ap (λ s. s.lookups) (ap (λ w. w.source) c.take.ensures.stays) in
          let more : ℕ = length c.in-Ok.info.parent_ids.items in
          let order = made_order g.P.Accept.accepts a c.args.self.now m in
          let parents : c.take.new.self.parents ≡ a.parents = (ap (λ w. w.parents) c.take.ensures.stays) ∙ (c.in_default.ensures.keeps.stays.parents ∙ order.0) in
          let sorting : c.take.new.self.sorting ≡ a.sorting = (ap (λ w. w.sorting) c.take.ensures.stays) ∙ (c.in_default.ensures.keeps.stays.sorting ∙ order.1) in
          record {
            begun = c.begin.new.self;
            begins = c.in_default.ensures.begins a m;
            meets = meets_moved g.P.Accept.accepts g.P.Accept.goes (rows_of c.take.new.self.source.rows) rows c.take.new.self.known.nodes c.begin.new.self.known.nodes (timing_of c.take.new.self.parents c.take.new.self.sorting) (timing_of c.begin.new.self.parents c.begin.new.self.sorting) c.in-Ok.info c.take.new.self.predicate c.begin.new.self.predicate c.take.new.self.source.lookups c.begin.new.self.source.lookups c.enter.new.self.predicate c.enter.new.self.source.lookups
                (ap rows_of same_rows) c.in-Some.ensures.takes.nodes in_order (ap (λ w. w.predicate) c.take.ensures.stays) f c.in-Ok.ensures.comes.meets;
            one = (λ n. subst (λ (x : ObjectId). CountsOne rows x c.begin.new.self.source.lookups c.enter.new.self.source.lookups) (sym c.in-Ok.ensures.comes.same)
                (subst (λ (k : ℕ). CountsOne rows id k c.enter.new.self.source.lookups) f
                (subst (λ (r : Option (List Row)). CountsOne (rows_of r) id c.take.new.self.source.lookups c.enter.new.self.source.lookups) same_rows (c.in-Ok.ensures.comes.one (timing_same a c.take.new.self.parents c.take.new.self.sorting parents sorting ∙ n)))));
            more = subst (λ (x : ObjectId). CountsUpTo rows x more c.begin.new.self.source.lookups c.enter.new.self.source.lookups) (sym c.in-Ok.ensures.comes.same)
                (subst (λ (k : ℕ). CountsUpTo rows id more k c.enter.new.self.source.lookups) f
                (subst (λ (r : Option (List Row)). CountsUpTo (rows_of r) id more c.take.new.self.source.lookups c.enter.new.self.source.lookups) same_rows c.in-Ok.ensures.comes.counted));
            in_turn = comes;
            queues = λ some. queued (subst (λ (t : Option Timing). IsSome t) (sym (timing_same a c.begin.new.self.parents c.begin.new.self.sorting (c.in_default.ensures.keeps.stays.parents ∙ order.0) (c.in_default.ensures.keeps.stays.sorting ∙ order.1))) some);
            flags = subst (λ (ns : List Node). MarksMet ns c.in-Ok.info.parent_ids.items c.enter.new.self.known.nodes) c.in-Some.ensures.takes.nodes c.in-Ok.ensures.comes.flags;
            paint_stays = λ x. c.in-Ok.ensures.comes.painted x ∙ ap (λ (ns : List Node). is_hidden ns x) c.in-Some.ensures.takes.nodes;
          });
      first_end = λ a m. tt;
      in_turn = λ b honest commits told. subst (λ walk. ComesInTurn g.P.Accept.accepts (g.F.Lookup.may_fail c.args.self.now.source.objects) commits walk c.in-Ok.info c.enter.new.self) ((c.in_default.ensures.same b).1) (comes honest commits told);
      in_turn_end = λ b by_time. tt;
      tips_end = λ a m honest commits told. tt;
      in_turn_fault = λ b. tt;
      told = (λ honest commits told.
          let honest' = subst (λ (o : g.row.F.Denot). g.F.Lookup.is_honest o) (sym objects) honest in
          let told' = subst (λ (o : g.row.F.Denot). AreTold (rows_of c.take.new.self.source.rows) (g.F.Lookup.table o) commits) (sym objects) (subst (λ (r : Option (List Row)). AreTold (rows_of r) (g.F.Lookup.table c.args.self.now.source.objects) commits) (sym same_rows) told) in
          let parents : c.take.new.self.parents ≡ c.args.self.now.parents = (ap (λ w. w.parents) c.take.ensures.stays) ∙ c.in_default.ensures.keeps.stays.parents in
          let sorting : c.take.new.self.sorting ≡ c.args.self.now.sorting = (ap (λ w. w.sorting) c.take.ensures.stays) ∙ c.in_default.ensures.keeps.stays.sorting in
          subst (λ (p : Parents). IsInfo commits rows p c.args.self.now.sorting c.in-Ok.info) parents (subst (λ (s : Sorting). IsInfo commits rows c.take.new.self.parents s c.in-Ok.info) sorting (subst (λ (o : Option (List Row)). IsInfo commits (rows_of o) c.take.new.self.parents c.take.new.self.sorting c.in-Ok.info) same_rows (c.in-Ok.ensures.told honest' commits told'))));
      stays = (
          let r = c.in_default.ensures.keeps.stays in
          let e = c.in-Ok.ensures.comes.stays ((ap (λ w. w.begun) c.take.ensures.stays) ∙ r.begun) in
          record {
            begun = e.begun;
            parents = e.parents ∙ ((ap (λ w. w.parents) c.take.ensures.stays) ∙ r.parents);
            sorting = e.sorting ∙ ((ap (λ w. w.sorting) c.take.ensures.stays) ∙ r.sorting);
            hidden = e.hidden ∙ (ap (λ w. w.hidden.items) c.take.ensures.stays ∙ r.hidden);
          });
      paint_stays = λ b. λ x. c.in-Ok.ensures.comes.painted x ∙ ap (λ (ns : List Node). is_hidden ns x) (c.in-Some.ensures.takes.nodes ∙ ap (λ walk. walk.known.nodes) ((c.in_default.ensures.same b).1));
      takes_one = λ x. (
          let a = c.in_default.ensures.keeps.gains x in
          let b = c.in-Some.ensures.takes.less (id_of x) in
          let d = c.in-Ok.ensures.comes.gains x in
          let e = ap (λ nodes. may_come nodes (times_queued c.take.new.self) (id_of x)) c.in-Some.ensures.takes.nodes in
          let f = ap (λ (z : ObjectId). times_in (z ∷ []) (id_of x)) c.in-Ok.ensures.comes.same in
          omega (arith, a, b, d, e, f));
      flags = λ b. subst (λ (ns : List Node). MarksMet ns c.in-Ok.info.parent_ids.items c.enter.new.self.known.nodes) (c.in-Some.ensures.takes.nodes ∙ ap (λ walk. walk.known.nodes) ((c.in_default.ensures.same b).1)) c.in-Ok.ensures.comes.flags;
      first_fault = λ a m. tt;
      unasked_fault = tt;
      kind_end = tt;
      queues = λ b some. subst (λ walk. KeepsOrder walk c.in-Ok.info c.enter.new.self) ((c.in_default.ensures.same b).1) (queued (subst (λ walk. IsSome (timing_of walk.parents walk.sorting)) (sym ((c.in_default.ensures.same b).1)) some));
      falls = (
          let now = ap rows_of (c.enter.ensures.same.rows ∙ same_rows) in
          let old = c.args.self.now in
          let new = c.enter.new.self in
          let left = left_falls rows ids old.known.nodes new.known.nodes old.known.queue new.known.queue (turns_of old.known) (turns_of new.known) id known (λ x.
          let a = c.in_default.ensures.keeps.gains x in
          let b = c.in-Some.ensures.takes.less (id_of x) in
          let d = c.in-Ok.ensures.comes.gains x in
          let e = ap (λ nodes. may_come nodes (times_queued c.take.new.self) (id_of x)) c.in-Some.ensures.takes.nodes in
          omega (arith, a, b, d, e)) in
          subst (λ (r : List Row). sum_by (may_come new.known.nodes (times_queued new)) (known_ids r ids) < left_of ids old) (sym now) left);
    }

pub returns-in-Err-enter-clause-steps : goal.returns-in-Err-enter-clause-steps
returns-in-Err-enter-clause-steps g c =
    let id : ObjectId = c.in-Some.id in
    let error = c.in-Err-enter.error in
    let ids = g.F.Lookup.ids c.args.self.now.source.objects in
    let objects : c.take.new.self.source.objects ≡ c.args.self.now.source.objects = ap (λ s. s.objects) (ap (λ w. w.source) c.take.ensures.stays) ∙ c.begin.ensures.store.objects in
    let same_rows : c.take.new.self.source.rows ≡ c.args.self.now.source.rows = ap (λ s. s.rows) (ap (λ w. w.source) c.take.ensures.stays) ∙ c.begin.ensures.store.rows in
    let along : c.take.new.self.parents ≡ c.begin.new.self.parents = (ap (λ w. w.parents) c.take.ensures.stays) in
    let fault = subst (λ (p : Parents). StopsFetch p (g.F.Lookup.is_honest c.args.self.now.source.objects) (g.F.Lookup.may_fail c.args.self.now.source.objects) (rows_of c.args.self.now.source.rows) (g.F.Lookup.table c.args.self.now.source.objects) id error) along
    (subst (λ (o : g.row.F.Denot). StopsFetch c.take.new.self.parents (g.F.Lookup.is_honest o) (g.F.Lookup.may_fail o) (rows_of c.args.self.now.source.rows) (g.F.Lookup.table o) id error) objects
    (subst (λ (r : Option (List Row)). StopsFetch c.take.new.self.parents (g.F.Lookup.is_honest c.take.new.self.source.objects) (g.F.Lookup.may_fail c.take.new.self.source.objects) (rows_of r) (g.F.Lookup.table c.take.new.self.source.objects) id error) same_rows c.in-Err-enter.ensures.fails.cause)) in
    record {
      objects = c.stop-in-Err-enter.ensures.store.objects ∙ (c.enter.ensures.same.objects ∙ objects);
      rows = c.stop-in-Err-enter.ensures.store.rows ∙ (c.enter.ensures.same.rows ∙ same_rows);
      given = λ honest commits told a listed sure s. tt;
      end = λ honest commits told a listed sure s. tt;
      refused = (λ honest commits told a listed sure s.
          let w = c.in_default.ensures.going honest commits told a listed sure s in
          let (at, turn) = c.in-Some.ensures.takes.turn ids commits a listed w in
          let parents = (at_order g.P.Accept.accepts ids commits a listed id c.take.new.self at).0 in
          let here = subst (λ (p : Parents). StopsFetch p (g.F.Lookup.is_honest c.args.self.now.source.objects) (g.F.Lookup.may_fail c.args.self.now.source.objects) (rows_of c.args.self.now.source.rows) (g.F.Lookup.table c.args.self.now.source.objects) id error) (sym along ∙ parents) fault in
          fetch_fault (IsTurn commits a listed) a.parents (g.F.Lookup.is_honest c.args.self.now.source.objects) (g.F.Lookup.may_fail c.args.self.now.source.objects) (rows_of c.args.self.now.source.rows) (g.F.Lookup.table c.args.self.now.source.objects) a.hidden id error turn here);
      failed = c.stop-in-Err-enter.ensures.over;
      ended = (λ o. let e = (c.in_default.ensures.same o.begun).1 in let over : IsOver c.begin.new.self = subst IsOver (sym e) o in let h = rw c.in-Some.is at (c.take.ensures.ended over) in absurd (no_way (sym h)));
      content = tt;
      counted = (λ b n. let s = (c.in_default.ensures.same b).1 in let f = (ap (λ w. w.source) c.take.ensures.stays) in let e : c.take.new.self.source.lookups ≡ c.args.self.now.source.lookups = cc in
          let m : timing_of c.take.new.self.parents c.take.new.self.sorting ≡ None = (let p = (ap (λ w. w.parents) c.take.ensures.stays) in let q = (ap (λ w. w.sorting) c.take.ensures.stays) in ap (λ (x : Parents). timing_of x c.take.new.self.sorting) p ∙ (ap (λ (x : Sorting). timing_of c.begin.new.self.parents x) q ∙ (ap (λ walk. timing_of walk.parents walk.sorting) s ∙ n))) in
          omega (arith, c.in-Err-enter.ensures.fails.in_breadth m, c.stop-in-Err-enter.ensures.lookups));
      counted_one = λ b n. tt;
      counted_by_time = λ b. tt;
      rowed = λ r. tt;
      meets = λ b. tt;
      unasked = tt;
      over = tt;
      content_end = tt;
      content_fault = c.stop-in-Err-enter.ensures.emptied;
      counted_end = λ b. tt;
      counted_fault = (λ b. let s = (c.in_default.ensures.same b).1 in let f = (ap (λ w. w.source) c.take.ensures.stays) in let e : c.take.new.self.source.lookups ≡ c.args.self.now.source.lookups = cc in
          subst (λ (n : ℕ). CountsFault n c.stop-in-Err-enter.new.self.source.lookups error) e
          (subst (λ (n : ℕ). CountsFault c.take.new.self.source.lookups n error) (sym c.stop-in-Err-enter.ensures.lookups) c.in-Err-enter.ensures.fails.counts));
      rowed_end = λ r. tt;
      first = λ a m. tt;
      first_end = λ a m. tt;
      falls = tt;
      in_turn = λ b honest commits told. tt;
      in_turn_end = λ b by_time. tt;
      tips_end = λ a m honest commits told. tt;
      in_turn_fault = (λ b. subst (λ walk. FailsInTurn (g.F.Lookup.is_honest c.args.self.now.source.objects) (g.F.Lookup.may_fail c.args.self.now.source.objects) (rows_of c.args.self.now.source.rows) (g.F.Lookup.table c.args.self.now.source.objects) walk error) ((c.in_default.ensures.same b).1) (record {
        id = id;
        others = turns_of c.take.new.self.known;
        taken = c.in-Some.ensures.takes.waiting;
        cause = fault;
      }));
      told = λ honest commits told. tt;
      stays = tt;
      paint_stays = λ b. tt;
      takes_one = tt;
      flags = λ b. tt;
      first_fault = λ a m. inr (record {
        begun = c.begin.new.self;
        begins = c.in_default.ensures.begins a m;
        fails = record { id = id; others = turns_of c.take.new.self.known; taken = c.in-Some.ensures.takes.waiting; cause = fault };
        counts = subst (λ (n : ℕ). CountsFault n c.stop-in-Err-enter.new.self.source.lookups error) (ap (λ s. s.lookups) (ap (λ w. w.source) c.take.ensures.stays))
            (subst (λ (n : ℕ). CountsFault c.take.new.self.source.lookups n error) (sym c.stop-in-Err-enter.ensures.lookups) c.in-Err-enter.ensures.fails.counts);
      });
      unasked_fault = elim c.in-Err-enter.ensures.fails.unasked [
        | inl e ↦ inl e
        | inr p ↦ inr (c.stop-in-Err-enter.ensures.store.unasked ∙ (p ∙ ((ap (λ w. w.predicate) c.take.ensures.stays) ∙ c.begin.ensures.store.unasked)))
      ];
      kind_end = tt;
      queues = λ b some. tt;
    }

pub returns-in-Ok-clause-goes : goal.returns-in-Ok-clause-goes
returns-in-Ok-clause-goes g c =
    let steps = returns-in-Ok-clause-steps g c in
    let old = c.args.self.now in
    let new = c.enter.new.self in
    let ids = g.F.Lookup.ids old.source.objects in
    let fewer = fewer_left (is_over old) (is_over new) (left_of ids old) (left_of ids new) (λ t. no_way (sym (steps.ended (over_from old t)))) steps.falls in
    record {
      on = λ finite. (tt, tt, subst (λ (o : g.row.F.Denot). cond (is_over new) 0 (left_of (g.F.Lookup.ids o) new + 1) < cond (is_over old) 0 (left_of ids old + 1)) (sym steps.objects) fewer);
      keeps = tt;
      rests = λ _. tt;
    }

pub returns-in-Err-enter-clause-goes : goal.returns-in-Err-enter-clause-goes
returns-in-Err-enter-clause-goes g c =
    let steps = returns-in-Err-enter-clause-steps g c in
    let old = c.args.self.now in
    let new = c.stop-in-Err-enter.new.self in
    record {
      on = λ finite. (tt, tt, none_left (is_over old) (is_over new) (left_of (g.F.Lookup.ids old.source.objects) old) (left_of (g.F.Lookup.ids new.source.objects) new) (λ t. no_way (sym (steps.ended (over_from old t)))) (over_test new steps.failed));
      keeps = tt;
      rests = λ _. tt;
    }

pub returns-in-Err-clause-goes : goal.returns-in-Err-clause-goes
returns-in-Err-clause-goes g c =
    let steps = returns-in-Err-clause-steps g c in
    let old = c.args.self.now in
    let new = c.stop.new.self in
    record {
      on = λ finite. (tt, tt, none_left (is_over old) (is_over new) (left_of (g.F.Lookup.ids old.source.objects) old) (left_of (g.F.Lookup.ids new.source.objects) new) (λ t. no_way (sym (steps.ended (over_from old t)))) (over_test new steps.failed));
      keeps = tt;
      rests = λ _. tt;
    }

pub returns-in_default-take-clause-goes : goal.returns-in_default-take-clause-goes
returns-in_default-take-clause-goes g c = record {
  on = λ finite. tt;
  keeps = tt;
  rests = λ _. tt;
}
