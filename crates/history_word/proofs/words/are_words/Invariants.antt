use Rattle.std.proofs.Common.{◌≡◌, length}
use Rattle.history_word.specs.Lines.{split_words, are_nonempty}
use Rattle.history_word.specs.Words.{left}
use Rattle.history_word.proofs.words.are_words.Given as goal

abbrev pub invariant-loop-word : goal.invariant-loop-word
invariant-loop-word l = are_nonempty (split_words l.line) ≡ are_nonempty (left l.words)

abbrev pub decreases-loop-word : goal.decreases-loop-word
decreases-loop-word l = length (left l.words)
