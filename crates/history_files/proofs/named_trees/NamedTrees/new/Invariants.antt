use Rattle.std.proofs.Common.{◌≡◌, take}
use Rattle.std.specs.List.{flat_map}
use Rattle.history_files.specs.NamedTrees.{texts}
use Rattle.history_files.proofs.NamesKept.{AreSplit, parts_of}
use Rattle.history_files.proofs.named_trees.NamedTrees.new.Given as goal

-- the paths so far are split, and their names are added
abbrev pub invariant-loop-path : goal.invariant-loop-path
invariant-loop-path l = AreSplit l.split.items (take l.path-index l.paths) × (texts l.names.items ≡ flat_map parts_of (take l.path-index l.paths))
