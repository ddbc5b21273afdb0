use Rattle.history_model.proofs.FirstLines.{first_lines_begin as lemma}
use Rattle.history_model.proofs.laws.first_lines_begin.Goals as goal

pub returns : goal.returns
returns c = lemma
