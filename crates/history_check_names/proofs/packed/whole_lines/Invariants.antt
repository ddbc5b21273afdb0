use Rattle.std.proofs.Common.{length}
use Rattle.history_check_names.proofs.Returns.{IsCounted}
use Rattle.history_check_names.proofs.packed.whole_lines.Given as goal

-- the lines so far are counted
abbrev pub invariant-lines : goal.invariant-lines
invariant-lines l = IsCounted l.text l.rest l.count

abbrev pub decreases-lines : goal.decreases-lines
decreases-lines l = length l.rest
