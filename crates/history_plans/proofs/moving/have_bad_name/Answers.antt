use Rattle.std.proofs.Common.{◌∙◌, sym, not, rules, tests}
use Rattle.std.proofs.lemmas.Iterator.{YieldsList-from_slice}
use Rattle.std.proofs.lemmas.Iterator.Search.{any_from_yields_List}
use Rattle.history_model.specs.Bytes.{Bytes}
use Rattle.history_model.specs.Forms.{is_name}
use Rattle.history_plans.specs.Moving.{to_name}
use Rattle.history_repository.proofs.WordCauses.{any_map}
use Rattle.history_plans.proofs.moving.have_bad_name.Goals as goal

pub returns : goal.returns
returns c =
    any_from_yields_List (λ to. not (is_name (to_name to))) _ _ c.any.result c.any.ensures.ran (YieldsList-from_slice c.args.to.now cc) (λ x b q k. search (rules, tests))
    ∙ sym (any_map (λ (name : Bytes). not (is_name name)) to_name c.args.to.now)
