use Rattle.std.proofs.Common.{◌≡◌, ◌∙◌, sym, ap, ◌++◌, option_to_list, map-id, rules, tests}
use Rattle.std.specs.List.{filter_map}
use Rattle.std.proofs.lemmas.Iterator.{YieldsList-from_slice}
use Rattle.std.proofs.lemmas.Iterator.Adapters.{YieldsList-from_once, fact_from_extend, items_from_extend}
use Rattle.std.proofs.lemmas.Iterator.Consumers.{YieldsList-from_filter_map}
use Rattle.history_repository.specs.Meanings.{peeled_in}
use Rattle.history_repository.proofs.Extended.{at_ok}
use Rattle.history_plans.proofs.base.parents_of.Goals as goal

pub returns : goal.returns
returns c =
    let begun : c.extend.new.self.items ≡ c.new-parents.result.items ++ option_to_list c.args.held =
    at_ok _ c.extend.result c.in_ok-extend.field-0 c.in_ok-extend.was
    (fact_from_extend (λ id. id) c.extend.result c.extend.ensures.ran (λ it b. YieldsList-from_once c.args.held b.0) (λ ids e h. h.0 ∙ ap (λ ids. c.new-parents.result.items ++ ids) (sym (map-id ids) ∙ e))) in
    let added = at_ok _ c.extend-2.result c.in_ok-extend-2.field-0 c.in_ok-extend-2.was
    (items_from_extend c.extend-2.result c.extend-2.ensures.ran (YieldsList-from_filter_map _ peeled_in (YieldsList-from_slice c.args.words.now cc) c.filter_map.ensures.closure (λ x r q k. search (rules, tests)))) in
    added.0 ∙ ap (λ ids. ids ++ filter_map peeled_in c.args.words.now) (begun ∙ ap (λ ids. ids ++ option_to_list c.args.held) c.new-parents.ensures.items)
