use Rattle.std.proofs.Common.{◌∙◌, ap, ◌++◌, Option, rules, tests}
use Rattle.std.specs.List.{filter_map}
use Rattle.std.proofs.lemmas.Iterator.{YieldsList-from_slice}
use Rattle.std.proofs.lemmas.Iterator.Adapters.{items_from_extend}
use Rattle.std.proofs.lemmas.Iterator.Consumers.{YieldsList-from_filter_map}
use Rattle.history_repository.specs.declared.words.WordMeaning.{WordMeaning}
use Rattle.history_repository.proofs.Extended.{at_ok}
use Rattle.history_plans.proofs.base.all_words.Goals as goal

pub returns : goal.returns
returns c =
    let added = at_ok _ c.extend.result c.in_ok-extend.field-0 c.in_ok-extend.was
    (items_from_extend c.extend.result c.extend.ensures.ran (YieldsList-from_filter_map _ (λ (source : Option WordMeaning). source) (YieldsList-from_slice c.args.sources.now cc) c.filter_map.ensures.closure (λ x r q k. search (rules, tests)))) in
    added.0 ∙ ap (λ front. front ++ filter_map (λ (source : Option WordMeaning). source) c.args.sources.now) (c.in_ok-extend_from_slice.ensures.items ∙ ap (λ front. front ++ c.args.parents.now) c.new-all.ensures.items)
