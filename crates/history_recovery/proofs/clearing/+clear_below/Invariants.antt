use Rattle.std.proofs.Common.{◌≡◌, ◌-◌, ◌<◌, ◌≤◌, ℕ, [], length, map, Vec}
use Rattle.std.proofs.Math.ListN.{get_or}
use Rattle.std.specs.declared.alloc.Global.{Global}
use Rattle.gix_hash.specs.declared.kind.Kind.{Kind}
use Rattle.gix_ref_file.specs.Tree.{under}
use Rattle.gix_ref_file.specs.History.{Adds}
use Rattle.history_recovery.specs.Clearing.{Tells, Clears}
use Rattle.history_recovery.proofs.Recoveries.{AreKeptFrom}
use Rattle.history_recovery.proofs.clearing.+clear_below.Given as goal

-- a folder within the one that is cleared has a longer path
abbrev pub decreases-clear_below : goal.decreases-clear_below
decreases-clear_below g l = 4096 - length l.folder.now

-- the tree still recovers to the same, and what is listed so far is kept, with all below it
abbrev pub invariant-loop-name : goal.invariant-loop-name
invariant-loop-name g l =
    let history = g.F.Files.history in
    record {
      honest : g.F.Files.is_honest l.fn.files → g.F.Files.is_honest l.files;
      clears : (kind : Kind) → Tells kind (history l.fn.files).tree l.packed → g.F.Files.is_honest l.fn.files → Adds (Clears kind (history l.fn.files).tree) (history l.fn.files) (history l.files);
      kept : (kind : Kind) → g.F.Files.is_honest l.fn.files → Tells kind (history l.fn.files).tree l.packed → (i : ℕ) → i < l.name-index
          → AreKeptFrom kind (history l.files).tree (under l.folder (get_or (map (λ (name : Vec ℕ Global). name.items) l.name-items) i []));
      later : g.F.Files.failures l.fn.files ≤ g.F.Files.failures l.files;
      unfailed : g.F.Files.failures l.files ≡ g.F.Files.failures l.fn.files;
    }
