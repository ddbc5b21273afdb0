use Rattle.history_model.proofs.RestRowLemmas.{nothing_given as lemma}
use Rattle.history_model.proofs.rows.empty_stream.Goals as goal

pub returns : goal.returns
returns c = lemma
