use Rattle.std.proofs.Common.{take}
use Rattle.history_word.specs.Lines.{HasNoSpace}
use Rattle.history_word.proofs.words.first_word.Given as goal

abbrev pub invariant-loop-i : goal.invariant-loop-i
invariant-loop-i l = HasNoSpace (take l.i l.line)
