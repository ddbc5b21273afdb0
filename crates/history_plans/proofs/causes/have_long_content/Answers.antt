use Rattle.std.proofs.Common.{◌∙◌, sym, true, false, rules, tests}
use Rattle.std.specs.List.{list_any}
use Rattle.std.proofs.lemmas.Iterator.{YieldsList-from_slice, cases_from_any}
use Rattle.history_plans.specs.CommitCauses.{is_long}
use Rattle.history_model.specs.CommandParts.{put_contents}
use Rattle.history_plans.proofs.TimesLemmas.{Answers, any_line, any_flat}
use Rattle.history_plans.proofs.causes.have_long_content.Goals as goal

pub returns : goal.returns
returns c = λ lines are.
    let tested = cases_from_any _ _ c.any.result (Answers (λ line. list_any is_long (put_contents line)) true) (Answers (λ line. list_any is_long (put_contents line)) false)
    c.any.ensures.ran (YieldsList-from_slice c.args.edits.now cc) (λ x q k. search (rules, tests)) (λ x q k. search (rules, tests)) in
    any_line (λ line. list_any is_long (put_contents line)) c.args.edits.now lines are c.any.result tested ∙ sym (any_flat is_long put_contents lines)
