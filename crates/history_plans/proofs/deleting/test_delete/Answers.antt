use Rattle.std.proofs.Common.{◌≡◌, ◌∙◌, ap, subst, sym, Err}
use Rattle.std.proofs.lemmas.Result.{err_from_is_err_and}
use Rattle.history_model.specs.Bytes.{Bytes}
use Rattle.history_model.specs.Commands.{Delete}
use Rattle.history_model.specs.CommandParts.{option_expect}
use Rattle.history_repository.specs.NameForms.{form_cause}
use Rattle.history_repository.specs.Held.{IsHeld}
use Rattle.history_plans.proofs.DeleteCauses.{by_form, by_held, by_words, fault_told, held_told, refusal_told, words_told}
use Rattle.history_plans.proofs.deleting.test_delete.Goals as goal

pub returns-in_err-test_name : goal.returns-in_err-test_name
returns-in_err-test_name g c = λ r name at h is.
    let cause = c.in_err-test_name.field-0.0 in
    let stopped = err_from_is_err_and c.from_residual.result c.from_residual.ensures.1 in
    refusal_told g.F.Files.reading_may_fail r (Delete name at) c.from_residual.result cause (stopped.1 ∙ ap Err stopped.2)
    (by_form r name at cause (ap form_cause (sym (c.deref.ensures.value ∙ is.name_is)) ∙ c.in_err-test_name.ensures))

pub returns-in_err-expected : goal.returns-in_err-expected
returns-in_err-expected g c = λ r name at h is.
    let stopped = err_from_is_err_and c.from_residual-in_err-expected.result c.from_residual-in_err-expected.ensures.1 in
    fault_told g.F.Files.reading_may_fail r (Delete name at) c.from_residual-in_err-expected.result c.in_err-expected.field-0.0 (stopped.1 ∙ ap Err stopped.2)
    (c.in_err-expected.ensures.reads r (option_expect at) h is.expect (c.new-read.ensures r))

pub returns-in_err-test_words : goal.returns-in_err-test_words
returns-in_err-test_words g c = λ r name at h is.
    let cause = c.in_err-test_words.field-0.0 in
    let named = ap form_cause (sym (c.deref.ensures.value ∙ is.name_is)) ∙ c.in_ok-test_name.ensures in
    let words = words_told r name at c.in_ok-expected.expected (c.in_ok-expected.ensures.reads r (option_expect at) h is.expect (c.new-read.ensures r)) ∙ c.in_err-test_words.ensures in
    let stopped = err_from_is_err_and c.from_residual-in_err-test_words.result c.from_residual-in_err-test_words.ensures.1 in
    refusal_told g.F.Files.reading_may_fail r (Delete name at) c.from_residual-in_err-test_words.result cause (stopped.1 ∙ ap Err stopped.2)
    (by_words r name at named cause words)

pub returns-in_err-held : goal.returns-in_err-held
returns-in_err-held g c = λ r name at h is.
    let MayFail = g.F.Files.reading_may_fail in
    let stopped = err_from_is_err_and c.from_residual-in_err-held.result c.from_residual-in_err-held.ensures.1 in
    fault_told MayFail r (Delete name at) c.from_residual-in_err-held.result c.in_err-held.field-0.0 (stopped.1 ∙ ap Err stopped.2)
    (c.in_err-held.ensures r h (c.in_ok-expected.ensures.kept r h (c.new-read.ensures r)))

pub returns-in_err-test_gone : goal.returns-in_err-test_gone
returns-in_err-test_gone g c = λ r name at h is.
    let cause = c.in_err-test_gone.field-0.0 in
    let named = ap form_cause (sym (c.deref.ensures.value ∙ is.name_is)) ∙ c.in_ok-test_name.ensures in
    let expects = c.in_ok-expected.ensures.reads r (option_expect at) h is.expect (c.new-read.ensures r) in
    let words = words_told r name at c.in_ok-expected.expected expects ∙ c.in_ok-test_words.ensures in
    let place : c.deref-2.result.now ≡ name = c.deref-2.ensures.value ∙ is.name_is in
    let held = subst (λ (n : Bytes). IsHeld r n c.in_ok-held.held) place (c.in_ok-held.ensures r h (c.in_ok-expected.ensures.kept r h (c.new-read.ensures r))).0 in
    let stopped = err_from_is_err_and c.from_residual-in_err-test_gone.result c.from_residual-in_err-test_gone.ensures.1 in
    refusal_told g.F.Files.reading_may_fail r (Delete name at) c.from_residual-in_err-test_gone.result cause (stopped.1 ∙ ap Err stopped.2)
    (by_held r name at named words _ (held_told r name at c.in_ok-expected.expected c.in_ok-held.held c.commit_held.result expects held c.commit_held.ensures ∙ c.in_err-test_gone.ensures))

pub returns : goal.returns
returns g c = λ r name at h is.
    let named = ap form_cause (sym (c.deref.ensures.value ∙ is.name_is)) ∙ c.in_ok-test_name.ensures in
    let expects = c.in_ok-expected.ensures.reads r (option_expect at) h is.expect (c.new-read.ensures r) in
    let words = words_told r name at c.in_ok-expected.expected expects ∙ c.in_ok-test_words.ensures in
    let place : c.deref-2.result.now ≡ name = c.deref-2.ensures.value ∙ is.name_is in
    let held = subst (λ (n : Bytes). IsHeld r n c.in_ok-held.held) place (c.in_ok-held.ensures r h (c.in_ok-expected.ensures.kept r h (c.new-read.ensures r))).0 in
    by_held r name at named words _ (held_told r name at c.in_ok-expected.expected c.in_ok-held.held c.commit_held.result expects held c.commit_held.ensures ∙ c.in_ok-test_gone.ensures)
