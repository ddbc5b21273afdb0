use Rattle.std.proofs.Common.{◌≡◌, ◌-◌, length, take}
use Rattle.gix_traverse_tree.proofs.recorder.copied_paths.Given as goal

abbrev pub invariant-paths : goal.invariant-paths
invariant-paths l = l.copies.items ≡ take (length l.copies.items) l.paths.items

abbrev pub decreases-paths : goal.decreases-paths
decreases-paths l = length l.paths.items - length l.copies.items
