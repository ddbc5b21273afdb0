use Rattle.std.proofs.Common.{◌≡◌, ◌∙◌, sym, inl, List, Option, subst, arith}
use Rattle.std.proofs.lemmas.Result.{err_from_is_err_and}
use Rattle.gix_traverse_commit_known.specs.Meeting.{CountsAll}
use Rattle.gix_traverse_graph.specs.Rows.{AllHeld, Holds}
use Rattle.gix_hash.specs.declared.object_id.ObjectId.{ObjectId}
use Rattle.gix_traverse_commit_known.specs.Told.{rows_of}
use Rattle.gix_traverse_graph.specs.declared.rows.Row.{Row}
use Rattle.gix_traverse_topo.specs.Walking.{Walking}
use Rattle.gix_traverse_topo.specs.declared.known.Known.{Known}
use Rattle.gix_traverse_topo.proofs.Exploring.{explored}
use Rattle.gix_traverse_topo.proofs.init.explore.Goals as goal

pub returns-clause-explored : goal.returns-clause-explored
returns-clause-explored g c =
    let honest = g.F.Lookup.is_honest c.args.source.now.objects in
    let may_fail = g.F.Lookup.may_fail c.args.source.now.objects in
    let rows = rows_of c.args.source.now.rows in
    let table = g.F.Lookup.table c.args.source.now.objects in
    let old : Known = c.in_ok-known.known in
    let mid : Known = c.walk.new.self in
    let (high, full, walking) = c.in_ok-walk.ensures.walks in
    let by_rows = subst (λ (ro : Option (List Row)). Walking (g.F.Lookup.is_honest c.explore_ends.new.source.objects) (g.F.Lookup.may_fail c.explore_ends.new.source.objects) (rows_of ro) (g.F.Lookup.table c.explore_ends.new.source.objects) c.args.parents c.args.tips.now old.ids.keys old.nodes.items high mid.ids.keys mid.nodes.items) c.in_ok-known.ensures.same.rows walking in
    let w = subst (λ (ob : g.row.F.Denot). Walking (g.F.Lookup.is_honest ob) (g.F.Lookup.may_fail ob) rows (g.F.Lookup.table ob) c.args.parents c.args.tips.now old.ids.keys old.nodes.items high mid.ids.keys mid.nodes.items) c.in_ok-known.ensures.same.objects by_rows in
    explored honest may_fail rows table c.args.tips.now c.args.ends.now c.args.parents old mid high c.in_ok-known.ensures.painted w full c.in_ok-walk.ensures.hidden

pub returns-clause-counted : goal.returns-clause-counted
returns-clause-counted g c =
    let all = returns-clause-explored g c in
    omega (arith, c.in_ok-walk.ensures.counts.most, c.in_ok-known.ensures.counted, c.in_ok-known.ensures.painted.all_read, all.all_read)

pub returns-clause-each : goal.returns-clause-each
returns-clause-each g c = λ bare zero.
    let all = returns-clause-explored g c in
    let bare' = subst (λ (ro : Option (List Row)). (x : ObjectId) → Holds (rows_of ro) x → ⊥) (sym c.in_ok-known.ensures.same.rows) bare in
    let first = c.in_ok-known.ensures.each bare zero in
    let each = c.in_ok-walk.ensures.counts.bare c.in_ok-known.ensures.painted.all_read bare' (omega (arith, first, c.in_ok-known.ensures.painted.all_read)) in
    omega (arith, each, first, c.in_ok-known.ensures.painted.all_read, all.all_read)

pub returns-clause-asked : goal.returns-clause-asked
returns-clause-asked g c =
    let first = c.args.source.now.lookups in
    let step = subst (λ (ro : Option (List Row)). CountsAll (rows_of ro) c.in_ok-known.known.ids.keys first c.explore_ends.new.source.lookups → CountsAll (rows_of ro) c.walk.new.self.ids.keys first c.walk.new.source.lookups) c.in_ok-known.ensures.same.rows (c.in_ok-walk.ensures.counts.each c.in_ok-known.ensures.painted.all_read first) in
    step c.in_ok-known.ensures.asked

pub returns-clause-rowed : goal.returns-clause-rowed
returns-clause-rowed g c = λ tips_held ends_held.
    let (held, same) = c.in_ok-known.ensures.rowed ends_held in
    let step = subst (λ (ro : Option (List Row)). AllHeld (rows_of ro) c.in_ok-known.known.ids.keys → AllHeld (rows_of ro) c.args.tips.now → AllHeld (rows_of ro) c.walk.new.self.ids.keys × (c.walk.new.source.lookups ≡ c.explore_ends.new.source.lookups)) c.in_ok-known.ensures.same.rows c.in_ok-walk.ensures.counts.held in
    (step held tips_held).1 ∙ same

pub returns-in_err-walk-clause-refused : goal.returns-in_err-walk-clause-refused
returns-in_err-walk-clause-refused g c =
    let p = err_from_is_err_and c.from_residual-in_err-walk.result c.from_residual-in_err-walk.ensures.1 in
    rw (p.1, p.2) (inl (c.in_err-walk.ensures.refused c.in_ok-known.ensures.painted.all_read))
