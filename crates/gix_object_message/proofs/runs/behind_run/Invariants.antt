use Rattle.std.proofs.Common.{◌≡◌, List, ℕ, ◌++◌, length}
use Rattle.std.specs.List.{concat}
use Rattle.gix_object_message.specs.Blocks.{AllOfKind}
use Rattle.gix_object_message.specs.Paragraphs.{paragraphs_of}
use Rattle.gix_object_message.proofs.runs.behind_run.Given as goal

abbrev pub invariant-loop-paragraph : goal.invariant-loop-paragraph
invariant-loop-paragraph l =
    (run : List (List ℕ)) × (l.text ≡ concat run ++ l.rest) × (paragraphs_of l.text ≡ run ++ paragraphs_of l.rest) × AllOfKind l.trailers run

abbrev pub decreases-loop-paragraph : goal.decreases-loop-paragraph
decreases-loop-paragraph l = length l.rest
