use Rattle.std.proofs.Common.{◌≡◌, map}
use Rattle.history_files.specs.Laws.{table_of}
use Rattle.history_model.specs.Repository as plain
use Rattle.history_repository.specs.NamesShown.{ArePeeled, shown_name, told_name}
use Rattle.history_repository.specs.Stands.{Stands}
use Rattle.history_repository.specs.HeldObjects.{AreOf}
use Rattle.history_plans.proofs.packing.read_all.Given as goal

-- the names so far are shown with what they hold, and that is held
abbrev pub invariant-loop-named : goal.invariant-loop-named
invariant-loop-named g l = (r : plain.Repository) → Stands g.F.Files.is_honest g.F.Files.history l.repository r → ArePeeled r l.fn.names.items → AreOf (table_of r) l.fn.held
    → (map shown_name l.shown.items ≡ map (told_name r) l.yielded) × AreOf (table_of r) l.held
