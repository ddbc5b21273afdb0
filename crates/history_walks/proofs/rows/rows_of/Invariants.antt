use Rattle.std.proofs.Common.{◌≡◌, List, ◌++◌, length}
use Rattle.history_model.specs.Repository.{Repository}
use Rattle.history_walks.specs.Telling.{AreAllTold}
use Rattle.history_walks.specs.declared.told.Told.{Told}
use Rattle.history_walks.proofs.RowsMade.{AreMade}
use Rattle.history_walks.proofs.rows.rows_of.Given as goal

-- the commits that were taken from the back have rows, if they are counted
abbrev pub invariant-commits : goal.invariant-commits
invariant-commits l = (done : List Told) × (l.fn.commits.items ≡ l.commits.items ++ done)
    × ((r : Repository) → AreAllTold r l.fn.commits.items → AreMade r done l.rows.items l.generations)

abbrev pub decreases-commits : goal.decreases-commits
decreases-commits l = length l.commits.items
