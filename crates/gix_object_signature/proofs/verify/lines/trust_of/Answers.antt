use Rattle.std.proofs.Common.{rules, refl, ◌==◌}
use Rattle.std.proofs.lemmas.Iterator.Consumers.{fold_from_yields_List, YieldsList-from_filter_map}
use Rattle.std.proofs.lemmas.Iterator.Splits.{YieldsList-from_slice_split}
use Rattle.gix_object_signature.specs.Status.{level_of}
use Rattle.gix_object_signature.proofs.verify.lines.trust_of.Goals as goal

pub returns : goal.returns
returns c =
    fold_from_yields_List _ (λ before level. level) _ c.fold.result c.fold.ensures.ran
    (YieldsList-from_filter_map _ level_of
    (YieldsList-from_slice_split _ (λ byte. byte == 10) c.args.text.now (cc (c.filter_map.ensures.source, c.split.ensures.rest)) (cc (c.filter_map.ensures.source, c.split.ensures.done)) refl (λ x b q k. search rules))
    refl (λ x r q k. search rules))
    (λ a x b q k. search rules)
