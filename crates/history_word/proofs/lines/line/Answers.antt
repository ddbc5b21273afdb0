use Rattle.std.proofs.Common.{◌++◌, ◌∷◌, [], ap, ◌∙◌}
use Rattle.history_word.proofs.LineTexts.{line_appended, line_empty}
use Rattle.history_word.proofs.lines.line.Goals as goal
use Rattle.history_word.proofs.lines.line.Goals.{in-Some+in_ok-extend_from_slice+in_ok-more_words, in_default}

pub returns : goal.returns
returns c = elim c.match-split_first.branch [
  | in-Some+in_ok-extend_from_slice+in_ok-more_words w ↦
      line_appended (λ word. word.now) c.args.words.now _ _ c.args.text.now.items _ _ _ w.in-Some.ensures.cases.0 w.in_ok-extend_from_slice.ensures.items w.in_ok-more_words.ensures
      (c.in_ok-push.ensures.items ∙ ap (λ text. text.items ++ 10 ∷ []) w.text-is)
  | in_default w ↦
      line_empty (λ word. word.now) c.args.words.now c.args.text.now.items _ w.in_default.ensures.cases (c.in_ok-push.ensures.items ∙ ap (λ text. text.items ++ 10 ∷ []) w.text-is)
]
