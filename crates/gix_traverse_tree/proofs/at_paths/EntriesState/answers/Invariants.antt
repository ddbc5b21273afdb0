use Rattle.std.proofs.Common.{◌≡◌, map, take}
use Rattle.gix_traverse_tree.specs.Known.{known}
use Rattle.gix_traverse_tree.proofs.at_paths.EntriesState.answers.Given as goal

abbrev pub invariant-loop-number : goal.invariant-loop-number
invariant-loop-number l = l.answers.items ≡ map (known l.self.found.items) (take l.number-index l.numbers)
