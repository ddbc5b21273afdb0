use Rattle.std.proofs.Common.{◌-◌, ◌<◌, ℕ, [], length, map, Vec}
use Rattle.std.proofs.Math.ListN.{get_or}
use Rattle.std.specs.declared.alloc.Global.{Global}
use Rattle.gix_ref_file.specs.Tree.{under}
use Rattle.history_texts.proofs.Surveys.{IsClearFrom}
use Rattle.history_texts.proofs.parts.+survey_folder.Given as goal

-- a folder within the one surveyed has a longer path
abbrev pub decreases-survey_folder : goal.decreases-survey_folder
decreases-survey_folder g l = 4096 - length l.folder.now

-- what is listed so far is clear
abbrev pub invariant-loop-name : goal.invariant-loop-name
invariant-loop-name g l = g.F.Files.is_honest l.fn.files → (i : ℕ) → i < l.name-index
    → IsClearFrom l.part l.permitted (g.F.Files.history l.fn.files).tree (under l.folder (get_or (map (λ (name : Vec ℕ Global). name.items) l.name-items) i []))
