use Rattle.std.proofs.Common.{◌≡◌, drop}
use Rattle.history_model.specs.Repository as plain
use Rattle.history_repository.specs.Stands.{Stands}
use Rattle.history_repository.proofs.WordReads.{first_meant, first_left}
use Rattle.history_repository.proofs.words.first_standing.Given as goal

-- no name that was read exists
abbrev pub invariant-loop-front : goal.invariant-loop-front
invariant-loop-front g l = (r : plain.Repository) → Stands g.F.Files.is_honest g.F.Files.history l.repository r → first_meant r l.word ≡ first_left r l.word (drop l.front-index l.front-items)
