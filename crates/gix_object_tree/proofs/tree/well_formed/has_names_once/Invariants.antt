use Rattle.std.proofs.Common.{map, take}
use Rattle.gix_object_tree.specs.WellFormed.{IsInOrder}
use Rattle.gix_object_tree.proofs.Twins.{HasNoTwins}
use Rattle.gix_object_tree.proofs.tree.well_formed.has_names_once.Given as goal

abbrev pub invariant-loop-entry : goal.invariant-loop-entry
invariant-loop-entry g l = IsInOrder (map g.T.AsEntry.item l.entries) → HasNoTwins (map g.T.AsEntry.item l.entries) (take l.entry-index (map g.T.AsEntry.item l.entries))
