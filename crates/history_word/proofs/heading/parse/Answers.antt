use Rattle.std.proofs.Common.{◌≡◌, false, sym, ◌∙◌}
use Rattle.history_word.specs.Lines.{split_words, are_nonempty}
use Rattle.history_word.proofs.LineLemmas.{found_line, no_line, no_empty_word}
use Rattle.history_word.proofs.heading.parse.Goals as goal

pub returns-then-not-are_words-clause-none : goal.returns-then-not-are_words-clause-none
returns-then-not-are_words-clause-none c =
    let none : are_nonempty (split_words c.args.line.now) ≡ false = sym c.are_words.ensures ∙ c.if-not-are_words.true in
    no_empty_word c.args.line.now none

pub returns-clause-found : goal.returns-clause-found
returns-clause-found c = found_line c.args.line.now c.heading_of_line.result c.requires.whole c.requires.short (sym c.are_words.ensures ∙ c.if-not-are_words.false) c.heading_of_line.ensures

pub returns-clause-none : goal.returns-clause-none
returns-clause-none c = no_line c.args.line.now c.heading_of_line.result c.heading_of_line.ensures
