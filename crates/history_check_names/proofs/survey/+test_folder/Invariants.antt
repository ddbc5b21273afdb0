use Rattle.std.proofs.Common.{◌-◌, ◌<◌, ℕ, [], length, map, Vec}
use Rattle.std.proofs.Math.ListN.{get_or}
use Rattle.std.specs.declared.alloc.Global.{Global}
use Rattle.history_check_objects.specs.Stored.{facts_in}
use Rattle.gix_ref_file.specs.Tree.{under}
use Rattle.history_check_names.proofs.Found.{IsSoundFrom}
use Rattle.history_check_names.proofs.survey.+test_folder.Given as goal

-- a folder within the one tested has a longer path
abbrev pub decreases-test_folder : goal.decreases-test_folder
decreases-test_folder g l = 4096 - length l.folder.now

-- what is listed so far is sound
abbrev pub invariant-loop-name : goal.invariant-loop-name
invariant-loop-name g l = g.F.Files.is_honest l.fn.files → (i : ℕ) → i < l.name-index
    → IsSoundFrom l.kind (facts_in l.fn.stored) (g.F.Files.history l.fn.files).tree (under l.folder (get_or (map (λ (name : Vec ℕ Global). name.items) l.name-items) i []))
