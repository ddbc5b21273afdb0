use Rattle.history_edits.proofs.LinesTold.{line_told as lemma}
use Rattle.history_edits.proofs.laws.line_told.Goals as goal

pub returns : goal.returns
returns c = lemma
