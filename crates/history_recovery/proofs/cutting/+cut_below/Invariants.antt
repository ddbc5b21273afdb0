use Rattle.std.proofs.Common.{◌≡◌, ◌-◌, ◌<◌, ◌≤◌, ℕ, [], length, map, Vec}
use Rattle.std.proofs.Math.ListN.{get_or}
use Rattle.std.specs.declared.alloc.Global.{Global}
use Rattle.gix_hash.specs.declared.kind.Kind.{Kind}
use Rattle.gix_ref_file.specs.Tree.{under}
use Rattle.gix_ref_file.specs.History.{Adds}
use Rattle.history_recovery.specs.Clearing.{Cuts, IsLogFolder}
use Rattle.history_recovery.specs.Recovering.{NamesAlike}
use Rattle.history_recovery.proofs.Cuts.{AreCutFrom}
use Rattle.history_recovery.proofs.cutting.+cut_below.Given as goal

-- a folder within the one whose logs are cut has a longer path
abbrev pub decreases-cut_below : goal.decreases-cut_below
decreases-cut_below g l = 4096 - length l.folder.now

-- the logs that are listed so far are cut, with all below them
abbrev pub invariant-loop-name : goal.invariant-loop-name
invariant-loop-name g l =
    let history = g.F.Files.history in
    record {
      honest : g.F.Files.is_honest l.fn.files → g.F.Files.is_honest l.files;
      alike : (kind : Kind) → IsLogFolder l.folder → g.F.Files.is_honest l.fn.files → Adds (NamesAlike kind (history l.fn.files).tree) (history l.fn.files) (history l.files);
      cuts : IsLogFolder l.folder → g.F.Files.is_honest l.fn.files → Cuts (history l.fn.files).tree (history l.files).tree;
      cut : IsLogFolder l.folder → g.F.Files.is_honest l.fn.files → (i : ℕ) → i < l.name-index
          → AreCutFrom (history l.files).tree (under l.folder (get_or (map (λ (name : Vec ℕ Global). name.items) l.name-items) i []));
      later : g.F.Files.failures l.fn.files ≤ g.F.Files.failures l.files;
      unfailed : g.F.Files.failures l.files ≡ g.F.Files.failures l.fn.files;
    }
