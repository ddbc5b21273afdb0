use Rattle.std.proofs.Common.{◌≡◌, refl, sym, List, [], Option, None, subst}
use Rattle.gix_hash.specs.Id.{id_of}
use Rattle.gix_hash.specs.declared.object_id.ObjectId.{ObjectId}
use Rattle.gix_traverse_commit_known.specs.Told.{rows_of}
use Rattle.gix_traverse_graph.specs.Rows.{AllHeld, Holds}
use Rattle.gix_traverse_graph.specs.declared.rows.Row.{Row}
use Rattle.gix_traverse_graph.proofs.Lists.{at_from_contains, none_at_nil}
use Rattle.gix_traverse_topo.specs.Exploring.{IsExplored}
use Rattle.gix_traverse_topo.proofs.Starting.{begins}
use Rattle.gix_traverse_topo.proofs.init.Builder.build.Goals as goal

pub returns-clause-begins : goal.returns-clause-begins
returns-clause-begins g c =
    let honest = g.F.Lookup.is_honest c.args.self.find in
    let may_fail = g.F.Lookup.may_fail c.args.self.find in
    let rows = rows_of c.args.self.rows in
    let table = g.F.Lookup.table c.args.self.find in
    let by_ends = subst (λ (es : List ObjectId). IsExplored honest may_fail rows table c.as_slice.result.now es c.args.self.parents c.in_ok-known.known) c.as_slice-2.ensures.value c.in_ok-known.ensures.explored in
    let all = subst (λ (ts : List ObjectId). IsExplored honest may_fail rows table ts c.args.self.ends.items c.args.self.parents c.in_ok-known.known) c.as_slice.ensures.value by_ends in
    begins honest may_fail rows table c.args.self.tips.items c.args.self.ends.items c.args.self.parents c.in_ok-known.known all c.args.self.sorting c.in_ok-without_children.field-0.items c.in_ok-ready.ready c.in_ok-without_children.ensures.free c.in_ok-ready.ensures.same c.in_ok-ready.ensures.sorted (λ x. g.P.Accept.accepts c.args.self.predicate (id_of x))

-- without rows no commit has one
none_holds : (graph : Option (List Row)) → graph ≡ None → (x : ObjectId) → Holds (rows_of graph) x → ⊥
none_holds graph e x h =
    let (row, c, same) = subst (λ (o : Option (List Row)). Holds (rows_of o) x) e h in
    let (k, a) = at_from_contains [] row c in none_at_nil k row a

pub returns-clause-each : goal.returns-clause-each
returns-clause-each g c = λ bare. c.in_ok-known.ensures.each (none_holds c.args.self.rows bare) refl

pub returns-clause-asked : goal.returns-clause-asked
returns-clause-asked g c = c.in_ok-known.ensures.asked

pub returns-clause-rowed : goal.returns-clause-rowed
returns-clause-rowed g c = λ tips ends.
    let rows : List Row = rows_of c.args.self.rows in
    c.in_ok-known.ensures.rowed (subst (AllHeld rows) (sym c.as_slice.ensures.value) tips) (subst (AllHeld rows) (sym c.as_slice-2.ensures.value) ends)
