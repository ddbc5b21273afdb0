use Rattle.std.proofs.Common.{◌≡◌, List, false, length}
use Rattle.std.specs.List.{flat_map, list_any}
use Rattle.history_model.specs.Causes.{is_bad_path}
use Rattle.history_model.specs.CommandParts.{edit_paths}
use Rattle.history_model.specs.Commands.{EditLine}
use Rattle.history_model.specs.Repository as plain
use Rattle.history_word.specs.Commands.{AreEdits}
use Rattle.history_repository.specs.Reads.{AreTrees}
use Rattle.history_repository.specs.Stands.{Stands}
use Rattle.history_plans.proofs.EditsRead.{ReadSoFar, SourcesAt}
use Rattle.history_plans.proofs.editing.read_edits.Given as goal

-- the edits so far are read, a change of each, and so are their trees
abbrev pub invariant-loop-edit : goal.invariant-loop-edit
invariant-loop-edit g l = (length l.made.items ≡ length l.yielded)
    × ((r : plain.Repository) (lines : List EditLine) → Stands g.F.Files.is_honest g.F.Files.history l.repository r
    → AreEdits l.yielded lines → list_any is_bad_path (flat_map edit_paths lines) ≡ false → SourcesAt r lines l.sources → AreTrees r l.fn.read → ReadSoFar r l.yielded l.made.items l.blobs.items)
    × ((r : plain.Repository) → Stands g.F.Files.is_honest g.F.Files.history l.repository r → AreTrees r l.fn.read → AreTrees r l.read)
