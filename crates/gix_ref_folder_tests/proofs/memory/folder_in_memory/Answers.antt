use Rattle.std.proofs.Common.{◌≡◌, ◌∙◌, ℕ, List, ap, sym, subst}
use Rattle.std.specs.Prelude.{string_bytes}
use Rattle.gix_ref_file.specs.Tree.{IsRooted}
use Rattle.gix_ref_file.specs.Past.{history_of, start}
use Rattle.gix_ref_file.specs.declared.memory.MemoryFiles.{MemoryFiles}
use Rattle.gix_ref_folder.specs.Folders.{part_of}
use Rattle.gix_ref_folder_tests.specs.OverFiles.{files_of, IsHonestAt}
use Rattle.gix_ref_folder_tests.specs.declared.over_files.OverFiles.{OverFiles}
use Rattle.gix_ref_folder_tests.proofs.memory.folder_in_memory.Goals as goal

pub returns-clause-honest : goal.returns-clause-honest
returns-clause-honest c =
    let is : string_bytes c.in_ok-own.own ≡ string_bytes c.in_ok-shown.shown = c.in_ok-own.ensures.ok ∙ sym c.in_ok-shown.ensures.ok in
    c.new.ensures.honest
    (subst (λ (r : List ℕ). IsHonestAt (λ (files : MemoryFiles). IsRooted (history_of files).tree) history_of c.system_in_memory-system.result r) is (c.system_in_memory-system.ensures.honest c.args.part))

pub returns-clause-empty : goal.returns-clause-empty
returns-clause-empty c =
    subst (λ (s : OverFiles MemoryFiles). history_of (files_of s (part_of c.new.result)) ≡ start) (sym c.new.ensures.system) (c.system_in_memory-system.ensures.empty (part_of c.new.result))

pub returns-clause-root : goal.returns-clause-root
returns-clause-root c = ap string_bytes c.new.ensures.root ∙ c.in_ok-shown.ensures.ok
