use Rattle.std.proofs.Common.{◌-◌, ◌<◌, ℕ, [], length, map, Vec}
use Rattle.std.proofs.Math.ListN.{get_or}
use Rattle.std.specs.declared.alloc.Global.{Global}
use Rattle.gix_ref_file.specs.Tree.{under}
use Rattle.history_actions.proofs.Looked.{IsOwnFrom}
use Rattle.history_actions.proofs.looking.+look_below.Given as goal

-- a folder within the one looked at has a longer path
abbrev pub decreases-look_below : goal.decreases-look_below
decreases-look_below g l = 4096 - length l.folder.now

-- what is listed so far is a repository's
abbrev pub invariant-loop-name : goal.invariant-loop-name
invariant-loop-name g l = g.F.Files.is_honest l.fn.files → (i : ℕ) → i < l.name-index
    → IsOwnFrom l.part l.kind (g.F.Files.history l.fn.files).tree (under l.folder (get_or (map (λ (name : Vec ℕ Global). name.items) l.name-items) i []))
