use Rattle.std.proofs.Common.{◌≡◌, ◌≤◌, ◌∷◌, Some, ap, ◌∙◌, arith}
use Rattle.std.specs.Option.{option_copied}
use Rattle.history_word.specs.Lines.{words_left, words_size}
use Rattle.history_word.proofs.LineLemmas.{cut_words}
use Rattle.history_word.proofs.words.Words.next.Goals as goal

pub invariant_of-self : goal.invariant_of-self
invariant_of-self c =
    let e : option_copied c.args.self.now.rest ≡ Some c.in_ok-line.line.now = ap option_copied c.in_ok-line.was in
    let split = ap words_left e ∙ cut_words c.in_ok-line.line.now c.first_word.result.0.now (option_copied c.first_word.result.1) c.first_word.ensures in
    let old : words_size (words_left (option_copied c.args.self.now.rest)) ≤ 4097 = c.args.self.now.short in
    let short : words_size (words_left (option_copied c.first_word.result.1)) ≤ 4097 = omega (arith, old, ap words_size split) in
    record { short = short }

pub returns-clause-found : goal.returns-clause-found
returns-clause-found c =
    let e : option_copied c.args.self.now.rest ≡ Some c.in_ok-line.line.now = ap option_copied c.in_ok-line.was in
    ap words_left e ∙ cut_words c.in_ok-line.line.now c.first_word.result.0.now (option_copied c.first_word.result.1) c.first_word.ensures
