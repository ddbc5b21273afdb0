use Rattle.std.proofs.Common.{◌≡◌, ◌≤◌, length, take}
use Rattle.history_model.specs.Logs.{whole_lines}
use Rattle.history_recovery.proofs.cutting.whole_lines.Given as goal

-- no line feed is after the end
abbrev pub invariant-loop-end : goal.invariant-loop-end
invariant-loop-end l = (l.end ≤ length l.text) × (whole_lines l.text ≡ whole_lines (take l.end l.text))

abbrev pub decreases-loop-end : goal.decreases-loop-end
decreases-loop-end l = l.end
