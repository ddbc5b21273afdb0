use Rattle.std.proofs.Common.{List}
use Rattle.history_model.specs.Commands.{To}
use Rattle.history_model.specs.Repository as plain
use Rattle.history_word.specs.Commands.{AreTos}
use Rattle.history_plans.specs.Moving.{AreLines}
use Rattle.history_repository.specs.Known.{AreMeant}
use Rattle.history_repository.specs.Stands.{Stands}
use Rattle.history_plans.proofs.moving.read_lines.Given as goal

-- the lines so far are read
abbrev pub invariant-loop-to : goal.invariant-loop-to
invariant-loop-to g l = (r : plain.Repository) → Stands g.F.Files.is_honest g.F.Files.history l.repository r → ((orders : List To) → AreTos l.yielded orders → AreLines r orders l.lines.items) × AreMeant r l.read
