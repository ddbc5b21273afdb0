use Rattle.std.proofs.Common.{map, take}
use Rattle.std.specs.List.{All}
use Rattle.gix_object_tree.specs.Writing.{IsToldAgain}
use Rattle.gix_object_tree.proofs.laws.entries_are_told_again.Given as goal

abbrev pub invariant-loop-entry : goal.invariant-loop-entry
invariant-loop-entry g l = All IsToldAgain (take l.entry-index (map g.T.AsEntry.item l.entries))
