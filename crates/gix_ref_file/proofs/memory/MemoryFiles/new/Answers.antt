use Rattle.std.proofs.Common.{◌∙◌, sym, ap}
use Rattle.std.specs.Prelude.{is_some}
use Rattle.std.specs.FinMap.{get, get-empty}
use Rattle.gix_ref_file.specs.Tree.{path_cmp}
use Rattle.gix_ref_file.proofs.memory.MemoryFiles.new.Goals as goal

pub returns-clause-honest : goal.returns-clause-honest
returns-clause-honest c path there = absurd (cc (sym there ∙ ap (λ t. is_some (get t path)) c.new.ensures ∙ ap is_some (get-empty path_cmp path)))
