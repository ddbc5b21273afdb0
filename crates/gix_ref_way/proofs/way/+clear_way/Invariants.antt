use Rattle.std.proofs.Common.{◌≡◌, ◌-◌, ◌<◌, ◌≤◌, ℕ, [], length, map, Vec}
use Rattle.std.specs.Prelude.{None}
use Rattle.std.specs.FinMap.{get}
use Rattle.std.proofs.Math.ListN.{get_or}
use Rattle.std.specs.declared.alloc.Global.{Global}
use Rattle.gix_ref_file.specs.Tree.{under}
use Rattle.gix_ref_file.specs.History.{Adds}
use Rattle.gix_ref_way.proofs.Clearings.{ClearsBelow}
use Rattle.gix_ref_way.proofs.way.+clear_way.Given as goal

-- a folder within the one that goes has a longer path
abbrev pub decreases-clear_way : goal.decreases-clear_way
decreases-clear_way g l = 4096 - length l.place.now

-- folders below the place went, and nothing is at what is listed so far
abbrev pub invariant-loop-name : goal.invariant-loop-name
invariant-loop-name g l =
    let history = g.F.Files.history in
    record {
      honest : g.F.Files.is_honest l.fn.files → g.F.Files.is_honest l.files;
      moments : g.F.Files.is_honest l.fn.files → Adds (ClearsBelow l.place (history l.fn.files).tree) (history l.fn.files) (history l.files);
      gone : g.F.Files.is_honest l.fn.files → (i : ℕ) → i < l.name-index → get (history l.files).tree (under l.place (get_or (map (λ (name : Vec ℕ Global). name.items) l.name-items) i [])) ≡ None;
      later : g.F.Files.failures l.fn.files ≤ g.F.Files.failures l.files;
      unfailed : g.F.Files.failures l.files ≡ g.F.Files.failures l.fn.files;
    }
