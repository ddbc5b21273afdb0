use Rattle.std.proofs.Common.{length}
use Rattle.gix_ref_file.specs.History.{Adds}
use Rattle.gix_ref_lock.specs.Calls.{StaysHonest}
use Rattle.gix_ref_lock.specs.Moments.{IsMaking, made_by}
use Rattle.gix_ref_way.specs.Ways.{FoldersOnlyOf}
use Rattle.gix_ref_lock.specs.Moves.{AllMay, Once, all_paths}
use Rattle.gix_ref_lock.specs.Needs.{log_paths}
use Rattle.gix_ref_lock.proofs.Progress.{Progress}
use Rattle.gix_ref_lock.proofs.steps.make_all.Given as goal

-- the step is made of all moves but those left
abbrev pub invariant-moves : goal.invariant-moves
invariant-moves g l =
    let history = g.F.Files.history in
    record {
      kept : StaysHonest g.F.Files (Unit {0}) l.fn.files l.files;
      moments : Once (all_paths l.moves) → g.F.Files.is_honest l.fn.files → Adds (AllMay (IsMaking l.step) l.moves (history l.fn.files).tree) (history l.fn.files) (history l.files);
      folders : Once (all_paths l.moves) → g.F.Files.is_honest l.fn.files → Adds (FoldersOnlyOf (log_paths l.moves) (history l.fn.files).tree) (history l.fn.files) (history l.files);
      made : Once (all_paths l.moves) → g.F.Files.is_honest l.fn.files → Progress (made_by l.step) l.moves l.rest (history l.fn.files).tree (history l.files).tree;
    }

abbrev pub decreases-moves : goal.decreases-moves
decreases-moves g l = length l.rest
