use Rattle.history_model.proofs.FormatLemmas.{lines_alike as lemma}
use Rattle.history_model.proofs.laws.formats.lines_alike.Goals as goal

pub returns : goal.returns
returns c = lemma
