use Rattle.std.proofs.Common.{◌∙◌, sym, rules, tests}
use Rattle.std.proofs.lemmas.Iterator.{YieldsList-from_slice}
use Rattle.std.proofs.lemmas.Iterator.Search.{any_from_yields_List}
use Rattle.history_model.specs.Forms.{is_private}
use Rattle.history_plans.specs.Moving.{to_name}
use Rattle.history_repository.proofs.WordCauses.{any_map}
use Rattle.history_plans.proofs.moving.have_private.Goals as goal

pub returns : goal.returns
returns c =
    any_from_yields_List (λ x. is_private (to_name x)) _ _ c.any.result c.any.ensures.ran (YieldsList-from_slice c.args.to.now cc) (λ x b q k. search (rules, tests))
    ∙ sym (any_map (is_private) to_name c.args.to.now)
