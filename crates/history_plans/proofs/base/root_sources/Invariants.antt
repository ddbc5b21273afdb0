use Rattle.std.proofs.Common.{take}
use Rattle.std.specs.List.{AllByRecursion}
use Rattle.history_model.specs.Repository as plain
use Rattle.history_plans.specs.Bases.{AreRootedSources, IsHeldSource}
use Rattle.history_repository.specs.Known.{AreMeant}
use Rattle.history_repository.specs.Stands.{Stands}
use Rattle.history_plans.proofs.base.root_sources.Given as goal

-- the commits so far have their roots
abbrev pub invariant-loop-source : goal.invariant-loop-source
invariant-loop-source g l = (r : plain.Repository) → Stands g.F.Files.is_honest g.F.Files.history l.repository r → AllByRecursion (IsHeldSource r) l.sources → AreMeant r l.fn.read
    → AreRootedSources r (take l.source-index l.sources) l.roots.items × AreMeant r l.read
