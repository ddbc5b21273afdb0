use Rattle.std.proofs.Common.{take}
use Rattle.history_model.specs.Repository as plain
use Rattle.history_queries.specs.Indexing.{AreToldOf}
use Rattle.history_repository.specs.Stands.{Stands}
use Rattle.history_queries.specs.Walked.{AllHold, AreRead}
use Rattle.history_queries.proofs.rows.told.Given as goal

-- the commits so far are described
abbrev pub invariant-ids : goal.invariant-ids
invariant-ids g l = (r : plain.Repository) → Stands g.F.Files.is_honest g.F.Files.history l.repository r
    → AreRead r l.read → AllHold r l.ids → AreToldOf r (take l.id-index l.ids) l.commits.items
