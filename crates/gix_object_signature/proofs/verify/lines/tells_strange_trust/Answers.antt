use Rattle.std.proofs.Common.{rules, ◌==◌}
use Rattle.std.proofs.lemmas.Iterator.Search.{any_from_yields_List}
use Rattle.std.proofs.lemmas.Iterator.Splits.{YieldsList-from_slice_split}
use Rattle.gix_object_signature.specs.Status.{is_strange}
use Rattle.gix_object_signature.proofs.verify.lines.tells_strange_trust.Goals as goal

pub returns : goal.returns
returns c =
    any_from_yields_List is_strange _ _ c.any.result c.any.ensures.ran
    (YieldsList-from_slice_split _ (λ byte. byte == 10) c.args.text.now c.split.ensures.rest c.split.ensures.done c.split.ensures.closure (λ x b q k. search rules))
    (λ x b q k. search rules)
