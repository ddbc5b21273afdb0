use Rattle.std.proofs.Common.{◌||◌, length, sym, ◌∙◌, ◌==◌, rules, tests}
use Rattle.std.proofs.lemmas.Iterator.{YieldsList-from_slice}
use Rattle.std.proofs.lemmas.Iterator.Search.{any_from_yields_List}
use Rattle.history_model.specs.Forms.{max_title}
use Rattle.history_repository.proofs.FieldLemmas.{within}
use Rattle.history_plans.proofs.TitleLemmas.{barred_in_title, bad_for_a_byte}
use Rattle.history_plans.proofs.causes.is_bad_title.Goals as goal

pub returns-else-title-gt-MAX_TITLE : goal.returns-else-title-gt-MAX_TITLE
returns-else-title-gt-MAX_TITLE c =
    let any = any_from_yields_List (λ b. (b == 0 || b == 9) || b == 13) _ _ c.any.result c.any.ensures.ran (YieldsList-from_slice c.args.title.now cc) (λ x b q k. search (rules, tests)) in
    let tested = c.if-title-gt-MAX_TITLE.false in
    any ∙ barred_in_title c.args.title.now ∙ bad_for_a_byte c.args.title.now (sym c.is_empty.ensures ∙ tested.0) (within max_title (length c.args.title.now) tested.1)
