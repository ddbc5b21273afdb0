use Rattle.std.proofs.Common.{◌≡◌, filter, map, take}
use Rattle.std.specs.Prelude.{IfSome}
use Rattle.gix_hash.specs.Id.{id_of}
use Rattle.history_files.specs.Laws.{table_of}
use Rattle.history_files.specs.NamedTrees.{AreNamed}
use Rattle.history_model.specs.Answers.{differs_at}
use Rattle.history_model.specs.Repository as plain
use Rattle.history_repository.specs.Stands.{Stands}
use Rattle.history_queries.specs.Seen.{IsSeen}
use Rattle.history_queries.specs.Walked.{AllHold, AreRead}
use Rattle.history_queries.proofs.differing.differing.Given as goal

-- those of the commits so far that differ, what was seen last, and what is kept of trees
abbrev pub invariant-loop-id : goal.invariant-loop-id
invariant-loop-id g l = (r : plain.Repository) → Stands g.F.Files.is_honest g.F.Files.history l.repository r → AreRead r l.read → AllHold r l.ids
    → (map id_of l.differing.items ≡ filter (differs_at r (map (λ path. path.now) l.paths)) (map id_of (take l.id-index l.ids)))
    × IfSome l.last (IsSeen r l.paths) × AreNamed (table_of r) l.paths l.trees
