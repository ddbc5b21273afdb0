use Rattle.std.proofs.Common.{List, take}
use Rattle.history_model.specs.Commands.{EditLine}
use Rattle.history_model.specs.Repository as plain
use Rattle.history_word.specs.Commands.{AreEdits}
use Rattle.history_plans.specs.Bases.{AreSourcesRead}
use Rattle.history_repository.specs.Known.{AreMeant}
use Rattle.history_repository.specs.Stands.{Stands}
use Rattle.history_plans.proofs.base.read_sources.Given as goal

-- what the words of the edits so far read as
abbrev pub invariant-loop-edit : goal.invariant-loop-edit
invariant-loop-edit g l = (r : plain.Repository) (lines : List EditLine) → Stands g.F.Files.is_honest g.F.Files.history l.repository r → AreEdits l.edits lines → AreMeant r l.fn.read
    → AreSourcesRead r (take l.edit-index lines) l.sources.items × AreMeant r l.read
