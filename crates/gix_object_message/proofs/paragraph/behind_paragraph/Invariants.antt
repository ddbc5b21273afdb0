use Rattle.std.proofs.Common.{◌≡◌, List, ℕ, ◌++◌, length}
use Rattle.gix_object_message.specs.Paragraphs.{paragraphs_of}
use Rattle.gix_object_message.proofs.ParagraphLemmas.{join_first}
use Rattle.gix_object_message.proofs.paragraph.behind_paragraph.Given as goal

abbrev pub invariant-loop-line : goal.invariant-loop-line
invariant-loop-line l = (taken : List ℕ) × (l.text ≡ taken ++ l.rest) × (paragraphs_of l.text ≡ join_first taken (paragraphs_of l.rest))

abbrev pub decreases-loop-line : goal.decreases-loop-line
decreases-loop-line l = length l.rest
