use Rattle.std.proofs.Common.{◌≡◌, map}
use Rattle.history_model.specs.Repository as plain
use Rattle.history_repository.specs.Known.{AreMeant}
use Rattle.history_repository.specs.NamesShown.{ArePeeled, shown_name, told_name}
use Rattle.history_repository.specs.Stands.{Stands}
use Rattle.history_repository.proofs.shown.read_shown.Given as goal

-- the names so far are shown with what they hold, and so is what was read of it
abbrev pub invariant-loop-named : goal.invariant-loop-named
invariant-loop-named g l = (r : plain.Repository) → Stands g.F.Files.is_honest g.F.Files.history l.repository r → ArePeeled r l.fn.names.items
    → (map shown_name l.shown.items ≡ map (told_name r) l.yielded) × AreMeant r l.read
