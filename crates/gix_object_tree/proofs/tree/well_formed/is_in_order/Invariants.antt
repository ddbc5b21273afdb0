use Rattle.std.proofs.Common.{map, take}
use Rattle.gix_object_tree.specs.WellFormed.{IsInOrder}
use Rattle.gix_object_tree.proofs.tree.well_formed.is_in_order.Given as goal

abbrev pub invariant-loop-at : goal.invariant-loop-at
invariant-loop-at g l = IsInOrder (take l.at (map g.T.AsEntry.item l.entries))
