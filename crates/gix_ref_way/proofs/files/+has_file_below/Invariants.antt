use Rattle.std.proofs.Common.{◌≢◌, ◌-◌, ◌<◌, ℕ, [], length, map, Vec}
use Rattle.std.proofs.Math.ListN.{get_or}
use Rattle.std.specs.declared.alloc.Global.{Global}
use Rattle.gix_ref_file.specs.Tree.{under}
use Rattle.gix_ref_way.proofs.FilesBelow.{IsFreeFrom}
use Rattle.gix_ref_way.proofs.files.+has_file_below.Given as goal

-- a path below has more bytes
abbrev pub decreases-has_file_below : goal.decreases-has_file_below
decreases-has_file_below g l = 4096 - length l.path.now

-- no file is at what is listed so far, or below it
abbrev pub invariant-loop-name : goal.invariant-loop-name
invariant-loop-name g l = l.path ≢ [] → g.F.Files.is_honest l.files → (i : ℕ) → i < l.name-index
    → IsFreeFrom (g.F.Files.history l.files).tree (under l.path (get_or (map (λ (name : Vec ℕ Global). name.items) l.name-items) i []))
