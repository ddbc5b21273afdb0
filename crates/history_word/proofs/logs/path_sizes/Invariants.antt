use Rattle.std.proofs.Common.{length}
use Rattle.history_word.specs.Sizes.{listed}
use Rattle.history_word.specs.Words.{left}
use Rattle.history_word.proofs.PathSizes.{HaveSizes}
use Rattle.history_word.proofs.logs.path_sizes.Given as goal

abbrev pub invariant-loop-word : goal.invariant-loop-word
invariant-loop-word l = HaveSizes (left l.fn.words) (left l.words) (listed l.sizes)

abbrev pub decreases-loop-word : goal.decreases-loop-word
decreases-loop-word l = length (left l.words)
