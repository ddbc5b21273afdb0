use Rattle.history_model.specs.Repository as plain
use Rattle.history_store.specs.KeptIds.{left}
use Rattle.history_repository.specs.Stands.{Stands}
use Rattle.history_queries.proofs.AllTold.{AreSoFar}
use Rattle.history_queries.proofs.rows.stored_commits.Given as goal

-- some of the commits were listed
abbrev pub invariant-ids : goal.invariant-ids
invariant-ids g l = record {
  next : (goal.iterator-ids g).can_next l.id-iterator;
  finite : (goal.iterator-ids g).is_finite l.id-iterator;
  so_far : (r : plain.Repository) → Stands g.F.Files.is_honest g.F.Files.history l.repository r → AreSoFar r l.commits.items (left l.id-iterator);
}
