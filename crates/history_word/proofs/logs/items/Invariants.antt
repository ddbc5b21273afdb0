use Rattle.std.proofs.Common.{◌≡◌, [], length}
use Rattle.history_word.specs.Sizes.{listed}
use Rattle.history_word.specs.Words.{left}
use Rattle.history_word.proofs.LogLemmas.{HaveCome}
use Rattle.history_word.proofs.logs.items.Given as goal

abbrev pub invariant-loop-word : goal.invariant-loop-word
invariant-loop-word l = HaveCome (left l.fn.words) (left l.words) l.items l.has_tip × (listed l.paths ≡ [])

abbrev pub decreases-loop-word : goal.decreases-loop-word
decreases-loop-word l = length (left l.words)
