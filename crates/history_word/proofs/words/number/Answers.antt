use Rattle.std.proofs.Common.{◌∙◌, sym, arith}
use Rattle.history_word.proofs.LineLemmas.{no_number, a_number}
use Rattle.history_word.proofs.words.number.Goals as goal

pub returns-in_err-number : goal.returns-in_err-number
returns-in_err-number c = c.from_residual.ensures ∙ sym (no_number c.args.word.now c.in_err-number.ensures)

pub returns : goal.returns
returns c = sym (a_number c.args.word.now c.in_ok-number.number (omega arith) c.in_ok-number.ensures)
