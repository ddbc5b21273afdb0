use Rattle.std.proofs.Common.{length, ◌≡◌, ◌≢◌}
use Rattle.gix_ref_file.specs.Calls.{HasFault}
use Rattle.gix_ref_file.specs.History.{Adds, HasRisen}
use Rattle.gix_ref_lock.specs.Calls.{KeepsFolders}
use Rattle.gix_ref_lock.specs.declared.lock.GivenBack.TheVariants.{Failed}
use Rattle.gix_ref_lock.specs.Committing.{LocksAlone}
use Rattle.gix_ref_lock.specs.Moments.{SameButLocks}
use Rattle.gix_ref_lock.specs.Moves.{AllMay, LocksHeld, Once, all_paths, lock_paths}
use Rattle.gix_ref_lock.proofs.Givings.{Giving}
use Rattle.gix_ref_lock.proofs.Unlockings.{Unlocking}
use Rattle.gix_ref_lock.proofs.commit.give_back_all.Given as goal

-- only locks are gone: those of all moves but those left, if that came of it
abbrev pub invariant-moves : goal.invariant-moves
invariant-moves g l =
    let history = g.F.Files.history in
    record {
      kept : KeepsFolders g.F.Files (l.outcome ≢ Failed) l.fn.files l.files;
      locks : g.F.Files.is_honest l.fn.files → Adds (SameButLocks (history l.fn.files).tree) (history l.fn.files) (history l.files);
      moments : Once (all_paths l.moves) → g.F.Files.is_honest l.fn.files → Adds (AllMay LocksAlone l.moves (history l.fn.files).tree) (history l.fn.files) (history l.files);
      given : Once (all_paths l.moves) → g.F.Files.is_honest l.fn.files → Giving l.outcome l.moves l.rest (history l.fn.files).tree (history l.files).tree;
      failed : g.F.Files.is_honest l.fn.files → l.outcome ≡ Failed → HasFault g.F.Files.failures g.F.Files.reading_may_fail l.fn.files l.files;
      held : Once (lock_paths l.moves) → g.F.Files.is_honest l.fn.files → LocksHeld l.moves (history l.fn.files).tree → (l.outcome ≡ Failed → HasRisen (g.F.Files.failures l.fn.files) (g.F.Files.failures l.files)) × (Once (lock_paths l.rest) × LocksHeld l.rest (history l.files).tree);
      unlocked : g.F.Files.is_honest l.fn.files → Unlocking l.outcome l.moves l.rest (history l.fn.files).tree (history l.files).tree;
    }

abbrev pub decreases-moves : goal.decreases-moves
decreases-moves g l = length l.rest
