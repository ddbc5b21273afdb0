use Rattle.std.proofs.Common.{◌≤◌, arith}
use Rattle.history_word.specs.Lines.{split_words, words_size}
use Rattle.history_word.proofs.LineLemmas.{split_size}
use Rattle.history_word.proofs.words.Words.new.Goals as goal

pub invariant_of-result : goal.invariant_of-result
invariant_of-result c =
    let short : words_size (split_words c.args.line.now) ≤ 4097 = omega (arith, split_size c.args.line.now, c.requires) in
    record { short = short }
