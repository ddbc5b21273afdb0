use Rattle.std.proofs.Common.{◌≡◌, ℕ, ◌+◌, ◌≤◌, List, Option, length, refl, sym, ◌∙◌, ap, subst, arith}
use Rattle.std.proofs.lemmas.Result.{err_from_is_err_and}
use Rattle.std.proofs.lemmas.List.{take_all}
use Rattle.std.proofs.lemmas.Option.{slice_get_within}
use Rattle.gix_hash.specs.declared.object_id.ObjectId.{ObjectId}
use Rattle.gix_traverse_commit_known.specs.Meeting.{CountsAll, CountsOne}
use Rattle.gix_traverse_graph.specs.Rows.{AllHeld, Holds}
use Rattle.gix_traverse_commit_known.specs.Told.{rows_of}
use Rattle.gix_traverse_graph.specs.declared.rows.Row.{Row}
use Rattle.gix_traverse_graph.proofs.Lists.{contains_from_at}
use Rattle.gix_traverse_topo.specs.Walking.{Visits, Walking}
use Rattle.gix_traverse_topo.proofs.Lookups.{IsCountedFrom, counted_all, counted_more, counted_none, counts_start}
use Rattle.gix_traverse_commit_known.proofs.Meeting.{counts_next}
use Rattle.gix_traverse_topo.proofs.Meeting.{row_met, met_held}
use Rattle.gix_traverse_topo.proofs.Updates.{past_end, le_self, index_smaller}
use Rattle.gix_traverse_topo.proofs.Walking.{many_all, walking_none, walking_step}
use Rattle.gix_traverse_topo.proofs.known.Known.walk.Goals as goal

pub walk-init : goal.walk-init
walk-init g c =
    let keys : List ObjectId = c.args.self.now.ids.keys in
    let keys' : List ObjectId = c.meet.new.self.ids.keys in
    let start : length c.as_slice-place.result.now ≡ length c.args.self.now.nodes.items = ap length c.as_slice-place.ensures.value in
    record {
      hidden = c.meet.ensures.hidden;
      objects = refl;
      rows = refl;
      walking = subst (λ (n : ℕ). Walking (g.F.Lookup.is_honest c.args.source.now.objects) (g.F.Lookup.may_fail c.args.source.now.objects) (rows_of c.args.source.now.rows) (g.F.Lookup.table c.args.source.now.objects) c.args.along c.args.tips.now keys c.args.self.now.nodes.items n keys' c.meet.new.self.nodes.items) (sym start) (walking_none (g.F.Lookup.is_honest c.args.source.now.objects) (g.F.Lookup.may_fail c.args.source.now.objects) (rows_of c.args.source.now.rows) (g.F.Lookup.table c.args.source.now.objects) c.args.along c.args.tips.now keys c.args.self.now.nodes.items keys' c.meet.new.self.nodes.items c.in_ok-meet.ensures.meets c.in_ok-meet.ensures.names);
      rowed = λ held tips. (met_held (rows_of c.args.source.now.rows) c.args.tips.now keys keys' (row_met keys keys' c.args.tips.now c.in_ok-meet.ensures.meets.met) held tips, refl);
      each = λ bare. subst (λ (n : ℕ). IsCountedFrom c.args.source.now.lookups (length c.args.self.now.nodes.items) c.args.source.now.lookups n) (sym start) (counted_none c.args.source.now.lookups (length c.args.self.now.nodes.items));
      asked = λ many first before. counts_start (rows_of c.args.source.now.rows) keys keys' (length c.as_slice-place.result.now) first c.args.source.now.lookups c.in_ok-meet.ensures.meets.kept (start ∙ many) before;
      counted = subst (λ (n : ℕ). c.args.source.now.lookups + length c.args.self.now.nodes.items ≤ c.args.source.now.lookups + n) (sym start) (le_self (c.args.source.now.lookups + length c.args.self.now.nodes.items));
    }

pub walk-preserved : goal.walk-preserved
walk-preserved g c =
    let inv = c.walk.invariant in
    let id : ObjectId = c.in-Some.id in
    let visits = subst (λ ob. Visits (g.F.Lookup.is_honest ob) (g.F.Lookup.may_fail ob) (rows_of c.args.source.now.rows) (g.F.Lookup.table ob) c.args.along c.walk.place id c.walk.self.ids.keys c.walk.self.nodes.items c.visit.new.self.ids.keys c.visit.new.self.nodes.items) inv.objects
    (subst (λ ro. Visits (g.F.Lookup.is_honest c.walk.source.objects) (g.F.Lookup.may_fail c.walk.source.objects) (rows_of ro) (g.F.Lookup.table c.walk.source.objects) c.args.along c.walk.place id c.walk.self.ids.keys c.walk.self.nodes.items c.visit.new.self.ids.keys c.visit.new.self.nodes.items) inv.rows c.in_ok-visit.ensures.visited) in
    let one = subst (λ (ro : Option (List Row)). CountsOne (rows_of ro) id c.walk.source.lookups c.visit.new.source.lookups) inv.rows c.visit.ensures.one in
    record {
      hidden = c.in_ok-visit.ensures.hidden ∙ inv.hidden;
      objects = c.in_ok-visit.ensures.reads.objects ∙ inv.objects;
      rows = c.in_ok-visit.ensures.reads.rows ∙ inv.rows;
      walking = walking_step (g.F.Lookup.is_honest c.args.source.now.objects) (g.F.Lookup.may_fail c.args.source.now.objects) (rows_of c.args.source.now.rows) (g.F.Lookup.table c.args.source.now.objects) c.args.along c.args.tips.now c.args.self.now.ids.keys c.args.self.now.nodes.items c.walk.place c.walk.self.ids.keys c.walk.self.nodes.items c.visit.new.self.ids.keys c.visit.new.self.nodes.items id inv.walking (sym c.in-Some.ensures.id) visits;
      rowed = λ held tips.
          let (all, same) = inv.rowed held tips in
          let step = subst (λ (ro : Option (List Row)). Holds (rows_of ro) id → AllHeld (rows_of ro) c.walk.self.ids.keys → AllHeld (rows_of ro) c.visit.new.self.ids.keys) inv.rows c.in_ok-visit.ensures.held in
          let has = all id (contains_from_at c.walk.self.ids.keys c.walk.place id (sym c.in-Some.ensures.id)) in
          (step has all, one.rowed has ∙ same);
      each = λ bare. counted_more c.args.source.now.lookups (length c.args.self.now.nodes.items) c.walk.source.lookups c.walk.place c.visit.new.source.lookups (c.walk.place + 1) (inv.each bare) (one.stored (bare id)) refl;
      asked = λ many first before. counts_next (rows_of c.args.source.now.rows) c.walk.self.ids.keys c.visit.new.self.ids.keys c.walk.place id first c.walk.source.lookups c.visit.new.source.lookups (sym c.in-Some.ensures.id) visits.meets.kept (inv.asked many first before) one;
      counted = omega (arith, c.in_ok-visit.ensures.reads.most, inv.counted);
    }

pub walk-smaller : goal.walk-smaller
walk-smaller g c = index_smaller c.walk.place c.in-Some.ensures.room

pub returns-clause-walks : goal.returns-clause-walks
returns-clause-walks g c = (c.walk.place, past_end c.walk.self.ids.keys c.walk.place (sym c.in_default.ensures.id), c.walk.invariant.walking)

pub returns-clause-counts : goal.returns-clause-counts
returns-clause-counts g c =
    let keys : List ObjectId = c.walk.self.ids.keys in
    let inv = c.walk.invariant in
    let end = past_end keys c.walk.place (sym c.in_default.ensures.id) in
    record {
      most = omega (arith, inv.counted, inv.walking.within);
      bare = λ many bare few.
          let all = counted_all c.args.source.now.lookups (length c.args.self.now.nodes.items) c.walk.source.lookups c.walk.place (inv.each bare) few c.in_default.ensures.small in
          let high = many_all (g.F.Lookup.is_honest c.args.source.now.objects) (g.F.Lookup.may_fail c.args.source.now.objects) (rows_of c.args.source.now.rows) (g.F.Lookup.table c.args.source.now.objects) c.args.along c.args.tips.now c.args.self.now.ids.keys c.args.self.now.nodes.items c.walk.place keys c.walk.self.nodes.items inv.walking end many in
          omega arith;
      each = λ many first before. subst (λ (ks : List ObjectId). CountsAll (rows_of c.args.source.now.rows) ks first c.walk.source.lookups) (take_all c.walk.place keys end) (inv.asked many first before);
      held = inv.rowed;
    }

pub returns-in_err-visit-clause-refused : goal.returns-in_err-visit-clause-refused
returns-in_err-visit-clause-refused g c =
    let p = err_from_is_err_and c.from_residual-in_err-visit.result c.from_residual-in_err-visit.ensures.1 in
    rw (p.1, p.2) (λ many. c.in_err-visit.ensures.refused (c.walk.invariant.walking.many many) (slice_get_within c.walk.self.ids.keys c.walk.place c.in-Some.id (sym c.in-Some.ensures.id)))
