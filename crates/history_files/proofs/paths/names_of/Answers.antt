use Rattle.std.proofs.Common.{rules, refl, ◌==◌}
use Rattle.std.proofs.lemmas.Iterator.Consumers.{map_from_collect}
use Rattle.std.proofs.lemmas.Iterator.Splits.{YieldsList-from_slice_split}
use Rattle.history_files.proofs.paths.names_of.Goals as goal

pub returns : goal.returns
returns c =
    map_from_collect c.collect.result c.collect.ensures.ran
    (YieldsList-from_slice_split _ (λ byte. byte == 47) c.args.path.now c.split.ensures.rest c.split.ensures.done refl (λ x b q k. search rules))
