use Rattle.history.proofs.ChangeLemmas.{word_told}
use Rattle.history.proofs.changing.word_text.Goals as goal

pub returns : goal.returns
returns c = word_told c.new-text.result.items c.line.new.text.items c.as_slice.result.now c.args.word.now c.new-text.ensures.items c.as_slice.ensures c.in_ok-line.ensures
