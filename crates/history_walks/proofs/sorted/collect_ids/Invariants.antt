use Rattle.std.proofs.Common.{◌≡◌, true, List, [], Option}
use Rattle.gix_hash.specs.declared.object_id.ObjectId.{ObjectId}
use Rattle.gix_traverse_graph.specs.Commits.{Commits}
use Rattle.gix_traverse_graph.specs.declared.rows.Row.{Row}
use Rattle.gix_traverse_topo.specs.Asking.{parents_of}
use Rattle.gix_traverse_topo.specs.Giving.{HasGiven}
use Rattle.gix_traverse_topo.specs.declared.init.Sorting.{Sorting}
use Rattle.gix_traverse_topo.specs.declared.error.Error.{Error}
use Rattle.history_walks.proofs.sorted.collect_ids.Given as goal

-- the ids are what the walk gave so far
abbrev pub invariant-walk : goal.invariant-walk
invariant-walk l = record {
  can : (goal.iterator-walk).can_next l.info-iterator;
  finite : (goal.iterator-walk).is_finite l.info-iterator;
  parents : parents_of l.info-iterator ≡ parents_of l.fn.walk;
  stands : (sorting : Sorting) (rows : List Row) (faults : ObjectId → Option Error) (g : Commits ObjectId) (tips ends : List ObjectId)
      → HasGiven (λ _ _. true) l.fn.walk sorting rows faults g tips ends []
      → HasGiven (λ _ _. true) l.info-iterator sorting rows faults g tips ends l.ids.items;
}
