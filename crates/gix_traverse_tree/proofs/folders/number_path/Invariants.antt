use Rattle.gix_traverse_tree.specs.AtPaths.{names_of}
use Rattle.gix_traverse_tree.proofs.Numbering.{Along}
use Rattle.gix_traverse_tree.proofs.folders.number_path.Given as goal

abbrev pub invariant-loop-name : goal.invariant-loop-name
invariant-loop-name l = Along (names_of l.path) l.name-items l.name-index l.at l.initial.folders.items l.folders.items
