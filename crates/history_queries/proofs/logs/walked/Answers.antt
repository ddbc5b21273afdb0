use Rattle.std.proofs.Common.{◌∙◌, ◌==◌, ap, sym, subst, List, not}
use Rattle.std.specs.List.{AllZip, filter_map}
use Rattle.history_model.specs.Answers.{hidden_word, tip_word}
use Rattle.history_walks.specs.declared.listing.Request.{Request}
use Rattle.history_word.specs.Commands.{ArePaths, IsLogItem}
use Rattle.history_word.specs.declared.command.Field.{Field}
use Rattle.history_word.specs.declared.command.LogItem.{LogItem}
use Rattle.history_queries.specs.Logs.{IsOrderOf, order_cause}
use Rattle.history_repository.specs.Meanings.{commit_in}
use Rattle.history_queries.specs.Walked.{AllHold, AreRead}
use Rattle.history_queries.proofs.LogLemmas.{hides_told, ids_hold, refused_by_path, refused_by_word, told_by_order, walk_fault, walk_given, walk_stops}
use Rattle.history_queries.proofs.logs.walked.Goals as goal

pub returns-in_err-ends : goal.returns-in_err-ends
returns-in_err-ends g c = λ r sent s is.
    let items = subst (λ (found : List LogItem). AllZip IsLogItem found sent.items) (sym c.deref.ensures.value) is.items in
    walk_stops g.F.Files.reading_may_fail r sent c.from_residual.result _ c.from_residual.ensures.1
    (walk_fault g.F.Files.reading_may_fail r sent _ (c.in_err-ends.ensures r sent.items s items (c.keeping-read.ensures r)))

pub returns-in_err-test : goal.returns-in_err-test
returns-in_err-test g c = λ r sent s is.
    let items = subst (λ (found : List LogItem). AllZip IsLogItem found sent.items) (sym c.deref.ensures.value) is.items in
    let are = (c.in_ok-ends.ensures r sent.items s items (c.keeping-read.ensures r)).0 in
    walk_stops g.F.Files.reading_may_fail r sent c.from_residual-in_err-test.result _ c.from_residual-in_err-test.ensures.1
    (refused_by_word r sent c.in_ok-ends.ends are c.in_err-test.field-0.0 c.in_err-test.ensures)

pub returns-then-tells_bad_path : goal.returns-then-tells_bad_path
returns-then-tells_bad_path g c = λ r sent s is.
    let items = subst (λ (found : List LogItem). AllZip IsLogItem found sent.items) (sym c.deref.ensures.value) is.items in
    let paths = subst (λ (fields : List Field). ArePaths fields sent.paths) (sym c.deref-2.ensures.value) is.paths in
    let are = (c.in_ok-ends.ensures r sent.items s items (c.keeping-read.ensures r)).0 in
    refused_by_path r sent c.in_ok-ends.ends are c.in_ok-test.ensures (sym (c.tells_bad_path.ensures sent.paths paths) ∙ c.if-tells_bad_path.true)

pub returns-in_err-order_of : goal.returns-in_err-order_of
returns-in_err-order_of g c = λ r sent s is.
    let items = subst (λ (found : List LogItem). AllZip IsLogItem found sent.items) (sym c.deref.ensures.value) is.items in
    let paths = subst (λ (fields : List Field). ArePaths fields sent.paths) (sym c.deref-2.ensures.value) is.paths in
    let are = (c.in_ok-ends.ensures r sent.items s items (c.keeping-read.ensures r)).0 in
    let good = sym (c.tells_bad_path.ensures sent.paths paths) ∙ c.if-tells_bad_path.false in
    let hides = ap not (c.is_empty-hides.ensures ∙ ap (λ n. n == 0) c.in_ok-ends.ends.hidden.ok.0) ∙ hides_told r sent.items c.in_ok-ends.ends are in
    walk_stops g.F.Files.reading_may_fail r sent c.from_residual-in_err-order_of.result _ c.from_residual-in_err-order_of.ensures.1
    (told_by_order r sent c.in_ok-ends.ends are c.in_ok-test.ensures good
    ∙ sym (λ i. order_cause sent.order (is.first_parents i) (hides i)) ∙ c.in_err-order_of.ensures sent.order is.order)

pub returns : goal.returns
returns g c = λ r sent s is.
    let items = subst (λ (found : List LogItem). AllZip IsLogItem found sent.items) (sym c.deref.ensures.value) is.items in
    let paths = subst (λ (fields : List Field). ArePaths fields sent.paths) (sym c.deref-2.ensures.value) is.paths in
    let are = (c.in_ok-ends.ensures r sent.items s items (c.keeping-read.ensures r)).0 in
    let good = sym (c.tells_bad_path.ensures sent.paths paths) ∙ c.if-tells_bad_path.false in
    let ends = c.in_ok-ends.ends in
    let whole = s.whole.whole in
    let known = subst (AreRead r) (sym c.into_contents.ensures) (c.in_ok-ends.ensures r sent.items s items (c.keeping-read.ensures r)).1.contents in
    let tips_are = c.in_ok-ids_of.ensures ∙ ap (filter_map commit_in) c.deref-3.ensures.value in
    let hidden_are = c.in_ok-ids_of-2.ensures ∙ ap (filter_map commit_in) c.deref-4.ensures.value in
    let tips = subst (AllHold r) (sym tips_are) (ids_hold r whole.store ends.tips.items (filter_map tip_word sent.items) are.tips) in
    let hidden = subst (AllHold r) (sym hidden_are) (ids_hold r whole.store ends.hidden.items (filter_map hidden_word sent.items) are.hidden) in
    let hides = ap not (c.is_empty-hides.ensures ∙ ap (λ n. n == 0) c.in_ok-ends.ends.hidden.ok.0) ∙ hides_told r sent.items ends are in
    let made = c.in_ok-order_of.ensures sent.order is.order in
    let request : Request = record { order = c.in_ok-order_of.field-0; tips = c.in_ok-ids_of.field-0; hidden = c.in_ok-ids_of-2.field-0 } in
    walk_given r sent ends are g.F.Files.reading_may_fail request whole.store s.whole.written c.commits.result
    c.in_ok-test.ensures good (sym (λ i. order_cause sent.order (is.first_parents i) (hides i)) ∙ made.0) (subst (λ first. IsOrderOf sent.order first c.in_ok-order_of.field-0) is.first_parents made.1) tips_are hidden_are
    tips (c.commits.ensures.lists r s known tips hidden)
