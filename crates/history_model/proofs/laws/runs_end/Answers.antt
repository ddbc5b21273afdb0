use Rattle.history_model.proofs.RoundLemmas.{runs_end as lemma}
use Rattle.history_model.proofs.laws.runs_end.Goals as goal

pub returns : goal.returns
returns c = lemma
