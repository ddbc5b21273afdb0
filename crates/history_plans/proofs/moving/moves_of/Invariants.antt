use Rattle.std.proofs.Common.{◌≡◌, List}
use Rattle.std.specs.List.{AllZip}
use Rattle.history_model.specs.Commands.{MoveCommand, To}
use Rattle.history_model.specs.Repository as plain
use Rattle.history_plans.specs.Moving.{AreMoves, IsTeller}
use Rattle.history_plans.proofs.LineLemmas.{swapped}
use Rattle.history_plans.proofs.moving.moves_of.Given as goal

-- the moves of the lines so far
abbrev pub invariant-loop-line : goal.invariant-loop-line
invariant-loop-line l = (r : plain.Repository) (sent : MoveCommand) (orders : List To) → AllZip (swapped r) l.yielded orders → l.kind ≡ r.kind → IsTeller sent l.actor l.message → AreMoves r sent orders l.moves.items
