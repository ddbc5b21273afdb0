use Rattle.std.proofs.Common.{rules, refl, ◌==◌, not, length}
use Rattle.std.proofs.lemmas.Iterator.Consumers.{map_from_collect, YieldsList-from_filter}
use Rattle.std.proofs.lemmas.Iterator.Splits.{YieldsList-from_slice_split}
use Rattle.gix_object_lookup.proofs.lookup.names_of.Goals as goal

pub returns : goal.returns
returns c =
    map_from_collect c.collect.result c.collect.ensures.ran
    (YieldsList-from_filter _ (λ name. not (length name == 0))
    (YieldsList-from_slice_split _ (λ byte. byte == 47) c.args.path.now (cc (c.filter.ensures.source, c.split.ensures.rest)) (cc (c.filter.ensures.source, c.split.ensures.done)) refl (λ x b q k. search rules))
    refl (λ x b q k. search rules))
