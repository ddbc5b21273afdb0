use Rattle.std.proofs.Common.{◌≡◌, List, ℕ, ◌++◌, length}
use Rattle.gix_object_message.specs.Paragraphs.{trailer_part}
use Rattle.gix_object_message.proofs.body.last_paragraph.Given as goal

abbrev pub invariant-loop-rest : goal.invariant-loop-rest
invariant-loop-rest l = (front : List ℕ) × (l.body ≡ front ++ l.last) × (trailer_part l.body ≡ trailer_part l.last)

abbrev pub decreases-loop-rest : goal.decreases-loop-rest
decreases-loop-rest l = length l.last
