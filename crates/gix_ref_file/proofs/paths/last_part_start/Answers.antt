use Rattle.std.proofs.Common.{arith, rules}
use Rattle.std.proofs.lemmas.List.{take_all}
use Rattle.std.proofs.lemmas.List.Sums.{suffix_len-take_yes}
use Rattle.gix_ref_file.proofs.paths.last_part_start.Goals as goal

pub loop-start-init : goal.loop-start-init
loop-start-init c = search (rules, take_all)

pub loop-start-preserved : goal.loop-start-preserved
loop-start-preserved c = grind (arith, suffix_len-take_yes)
