use Rattle.std.proofs.Common.{◌≡◌, true, []}
use Rattle.gix_hash.specs.declared.object_id.ObjectId.{ObjectId}
use Rattle.gix_traverse_graph.specs.Commits.{Commits}
use Rattle.gix_traverse_commit_known.specs.Asked.{Asked, IsSure}
use Rattle.gix_traverse_commit.specs.Simply.{IsMade, Stands, graph_of, objects_of}
use Rattle.gix_traverse_commit_known.specs.Told.{AreTold, rows_of}
use Rattle.history_walks.proofs.simply.collect_ids.Given as goal

-- the ids are what the walk gave so far
abbrev pub invariant-walk : goal.invariant-walk
invariant-walk g l = record {
  can : (goal.iterator-walk g).can_next l.info-iterator;
  finite : (goal.iterator-walk g).is_finite l.info-iterator;
  objects : objects_of l.info-iterator ≡ objects_of l.fn.walk;
  rows : graph_of l.info-iterator ≡ graph_of l.fn.walk;
  stands : g.F.Lookup.is_honest (objects_of l.fn.walk) → (h : Commits ObjectId) → AreTold (rows_of (graph_of l.fn.walk)) (g.F.Lookup.table (objects_of l.fn.walk)) h
      → (a : Asked) → IsSure (g.F.Lookup.may_fail (objects_of l.fn.walk)) a → IsMade (λ _ _. true) a l.fn.walk
      → Stands (λ _ _. true) (g.F.Lookup.ids (objects_of l.fn.walk)) h a l.ids.items l.info-iterator;
}
