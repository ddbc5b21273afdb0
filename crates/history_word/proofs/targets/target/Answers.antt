use Rattle.std.proofs.Common.{◌∷◌, ◌++◌, ◌∙◌, ap}
use Rattle.history_model.specs.Spelling.{expect_words}
use Rattle.history_word.proofs.TargetLemmas.{none_expected, none_first, none_last}
use Rattle.history_word.specs.Drafts.{to_of}
use Rattle.history_word.proofs.targets.target.Goals as goal

pub returns-in_err-name : goal.returns-in_err-name
returns-in_err-name c = rw c.from_residual.ensures (none_first _ c.in_err-name.ensures.none.0)

pub returns-in_err-expect : goal.returns-in_err-expect
returns-in_err-expect c = rw c.from_residual-in_err-expect.ensures (none_expected _ _ _ c.in_ok-name.ensures.found c.in_err-expect.ensures)

pub returns-in_err-word : goal.returns-in_err-word
returns-in_err-word c = rw c.from_residual-in_err-word.ensures (none_last _ _ _ _ _ c.in_ok-name.ensures.found c.in_ok-expect.ensures c.in_err-word.ensures.none)

pub returns : goal.returns
returns c =
    let told = c.in_ok-expect.ensures in (
      c.in_ok-name.name.now,
      c.in_ok-word.word.now,
      told.0,
      c.to_line.ensures (to_of c.in_ok-name.name.now told.0 c.in_ok-word.word.now) c.kept-own_name.ensures told.1 c.kept-own_word.ensures,
      c.in_ok-name.ensures.found ∙ ap (λ rest. c.in_ok-name.name.now ∷ rest) (told.2 ∙ ap (λ more. expect_words told.0 ++ more) c.in_ok-word.ensures.found),
    )
