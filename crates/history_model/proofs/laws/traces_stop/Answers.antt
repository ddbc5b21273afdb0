use Rattle.history_model.proofs.RoundLemmas.{traces_stop as lemma}
use Rattle.history_model.proofs.laws.traces_stop.Goals as goal

pub returns : goal.returns
returns c = lemma
