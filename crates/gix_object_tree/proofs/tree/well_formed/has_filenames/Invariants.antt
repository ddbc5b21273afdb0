use Rattle.std.proofs.Common.{map, take}
use Rattle.std.specs.List.{All}
use Rattle.gix_object_tree.specs.Entry.{Item}
use Rattle.gix_object_tree.specs.WellFormed.{IsFilename}
use Rattle.gix_object_tree.proofs.tree.well_formed.has_filenames.Given as goal

abbrev pub invariant-loop-entry : goal.invariant-loop-entry
invariant-loop-entry g l = All (λ (item : Item). IsFilename item.name) (take l.entry-index (map g.T.AsEntry.item l.entries))
