use Rattle.std.proofs.Common.{◌≡◌, ◌++◌, length, map}
use Rattle.std.specs.List.{join_with_byte}
use Rattle.gix_object_message.specs.Lines.{lines_of}
use Rattle.gix_object_message.specs.White.{trim_end}
use Rattle.gix_object_message.proofs.summary.join_lines.Given as goal

abbrev pub invariant-loop-line : goal.invariant-loop-line
invariant-loop-line l =
    l.joined.items ++ join_with_byte 32 (map trim_end (lines_of l.rest)) ≡ join_with_byte 32 (map trim_end (lines_of l.text))

abbrev pub decreases-loop-line : goal.decreases-loop-line
decreases-loop-line l = length l.rest
