use Rattle.std.proofs.Common.{◌∙◌, ap, map, subst, sym}
use Rattle.std.specs.List.{filter_map}
use Rattle.std.proofs.lemmas.List.{take_all}
use Rattle.history_repository.specs.Known.{AreMeant}
use Rattle.history_repository.specs.Meanings.{commit_or_cause, meaning_of}
use Rattle.history_queries.proofs.LogItems.{another_kept, hidden_in, hidden_told, tip_in, tips_told, word_added}
use Rattle.history_queries.proofs.logs.read_ends.Goals.{in-Tip+in_ok-read_word-in-Tip+in_ok-push-in-Tip, in-Hidden+in_ok-read_word-in-Hidden+in_ok-push-in-Hidden}
use Rattle.history_queries.proofs.logs.read_ends.Goals as goal

pub loop-item-preserved : goal.loop-item-preserved
loop-item-preserved g c = λ r s known.
    let items = c.args.items.now in
    let i = c.loop-item.item-index in
    let item = c.item-item.result in
    let so_far = c.loop-item.invariant r s known in
    elim c.match-item.branch [
      | in-Tip+in_ok-read_word-in-Tip+in_ok-push-in-Tip w ↦ (
        word_added r tip_in items i item c.loop-item-test.true c.item-item.is c.loop-item.tips.items c.match-item.tips.items w.in_ok-read_word-in-Tip.field-0 w.in-Tip.word.items
            (ap tip_in w.in-Tip.is) ((w.in_ok-read_word-in-Tip.ensures r s so_far.2).0.means ∙ ap (commit_or_cause r) w.deref.ensures.value) (ap (λ v. v.items) w.tips-is ∙ w.in_ok-push-in-Tip.ensures.items) so_far.0,
        another_kept r hidden_in items i item c.loop-item-test.true c.item-item.is c.match-item.hidden.items (ap hidden_in w.in-Tip.is) (ap (λ v. map meaning_of v.items) w.hidden-is ∙ so_far.1),
        subst (AreMeant r) (sym w.read-is) (w.in_ok-read_word-in-Tip.ensures r s so_far.2).1,
      )
      | in-Hidden+in_ok-read_word-in-Hidden+in_ok-push-in-Hidden w ↦ (
        another_kept r tip_in items i item c.loop-item-test.true c.item-item.is c.match-item.tips.items (ap tip_in w.in-Hidden.is) (ap (λ v. map meaning_of v.items) w.tips-is ∙ so_far.0),
        word_added r hidden_in items i item c.loop-item-test.true c.item-item.is c.loop-item.hidden.items c.match-item.hidden.items w.in_ok-read_word-in-Hidden.field-0 w.in-Hidden.word.items
            (ap hidden_in w.in-Hidden.is) ((w.in_ok-read_word-in-Hidden.ensures r s so_far.2).0.means ∙ ap (commit_or_cause r) w.deref-in-Hidden.ensures.value) (ap (λ v. v.items) w.hidden-is ∙ w.in_ok-push-in-Hidden.ensures.items) so_far.1,
        subst (AreMeant r) (sym w.read-is) (w.in_ok-read_word-in-Hidden.ensures r s so_far.2).1,
      )
    ]

pub returns : goal.returns
returns g c = λ r lines s are known.
    let items = c.args.items.now in
    let whole = take_all c.loop-item.item-index items c.loop-item-test.false in
    let all = c.loop-item.invariant r s known in (
      record {
        tips = all.0 ∙ ap (λ some. map (commit_or_cause r) (filter_map tip_in some)) whole ∙ ap (map (commit_or_cause r)) (tips_told items lines are);
        hidden = all.1 ∙ ap (λ some. map (commit_or_cause r) (filter_map hidden_in some)) whole ∙ ap (map (commit_or_cause r)) (hidden_told items lines are);
      },
      all.2,
    )
