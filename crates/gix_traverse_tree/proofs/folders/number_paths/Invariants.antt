use Rattle.std.proofs.Common.{map, take}
use Rattle.gix_traverse_tree.specs.AtPaths.{names_of}
use Rattle.gix_traverse_tree.specs.Folders.{NumbersPaths}
use Rattle.gix_traverse_tree.proofs.folders.number_paths.Given as goal

abbrev pub invariant-loop-path : goal.invariant-loop-path
invariant-loop-path l = NumbersPaths (map (λ path. names_of path.now) (take l.path-index l.paths)) l.numbers.items l.folders.items
