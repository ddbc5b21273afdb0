-- A system over empty files.
use Rattle.std.proofs.Common.{◌≡◌, ℕ, Bool, true, false, List, Some, None, refl, sym, ◌∙◌, ap, subst}
use Rattle.std.specs.Prelude.{IsSome, is_some}
use Rattle.std.specs.FinMap.{get, get-empty}
use Rattle.gix_ref_file.specs.Tree.{Tree, path_cmp, IsRooted}
use Rattle.gix_ref_file.specs.History.{History}
use Rattle.gix_ref_file.specs.Past.{history_of, start}
use Rattle.gix_ref_file.specs.declared.memory.MemoryFiles.{MemoryFiles}
use Rattle.gix_ref_folder.specs.declared.part.Part.{Part}
use Rattle.gix_ref_folder.specs.declared.part.Part.TheVariants.{Objects, Names}
use Rattle.gix_ref_folder_tests.specs.OverFiles.{root_of, files_of, IsOwn, IsHonestAt}
use Rattle.gix_ref_folder_tests.specs.declared.over_files.OverFiles.{OverFiles}

nothing_there : {A : Type 0} (path : List ℕ) → IsSome (get start.tree path) → A
nothing_there path there = absurd (cc (sym there ∙ ap is_some (get-empty path_cmp path)))

pub both_empty : (system : OverFiles MemoryFiles) → history_of (files_of system Objects) ≡ start → history_of (files_of system Names) ≡ start → (part : Part) → history_of (files_of system part) ≡ start
both_empty system objects names Objects = objects
both_empty system objects names Names = names

pub honest_start : (system : OverFiles MemoryFiles) (root : List ℕ) → root_of system ≡ root → ((part : Part) → history_of (files_of system part) ≡ start)
    → IsHonestAt (λ (files : MemoryFiles). IsRooted (history_of files).tree) history_of system root
honest_start system root is empty = record {
  at_root = is;
  honest = λ part. subst (λ (h : History). IsRooted h.tree) (sym (empty part)) (λ path there. nothing_there path there);
  own = λ part. subst (λ (h : History). IsOwn part h.tree) (sym (empty part)) (λ path there. nothing_there path there);
}
