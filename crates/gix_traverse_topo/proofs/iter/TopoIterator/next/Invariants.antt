use Rattle.std.proofs.Common.{◌≡◌, ◌≤◌, ◌++◌, List, [], Option}
use Rattle.gix_hash.specs.declared.object_id.ObjectId.{ObjectId}
use Rattle.gix_hash.specs.Id.{id_of}
use Rattle.gix_traverse_graph.specs.Commits.{Commits}
use Rattle.gix_traverse_commit_known.specs.Meeting.{Asks}
use Rattle.gix_traverse_graph.specs.declared.rows.Row.{Row}
use Rattle.gix_traverse_topo.specs.Standing.{Standing, Stands, weight}
use Rattle.gix_traverse_topo.specs.Waiting.{waiting}
use Rattle.gix_traverse_topo.specs.declared.error.Error.{Error}
use Rattle.gix_traverse_topo.specs.declared.init.Sorting.{Sorting}
use Rattle.gix_traverse_topo.proofs.iter.TopoIterator.next.Given as goal

abbrev pub invariant-turns : goal.invariant-turns
invariant-turns g l = record {
  parents : l.self.parents ≡ l.initial.self.parents;
  predicate : g.P.Accept.accepts l.self.predicate ≡ g.P.Accept.accepts l.initial.self.predicate;
  lookups : l.self.lookups ≡ l.initial.self.lookups;
  stands : (sorting : Sorting) (rows : List Row) (faults : ObjectId → Option Error) (h : Commits ObjectId) (tips ends listed : List ObjectId) → Stands sorting rows faults h tips ends l.initial.self.parents (λ x. g.P.Accept.accepts l.initial.self.predicate (id_of x)) listed l.initial.self.known l.initial.self.ready → Stands sorting rows faults h tips ends l.initial.self.parents (λ x. g.P.Accept.accepts l.initial.self.predicate (id_of x)) listed l.self.known l.self.ready;
  weight : weight l.self.known l.self.ready ≤ weight l.initial.self.known l.initial.self.ready;
  ended : waiting l.initial.self.ready ≡ [] → waiting l.self.ready ≡ [];
  asked : (passed : List ObjectId) × Asks g.P.Accept.goes passed l.initial.self.predicate l.self.predicate
      × ((sorting : Sorting) (rows : List Row) (h : Commits ObjectId) (tips hs xs finished : List ObjectId)
      → Standing sorting rows h tips l.initial.self.parents hs xs finished l.initial.self.known l.initial.self.ready
      → Standing sorting rows h tips l.initial.self.parents hs xs (finished ++ passed) l.self.known l.self.ready);
}

abbrev pub decreases-turns : goal.decreases-turns
decreases-turns g l = weight l.self.known l.self.ready
