use Rattle.history_model.proofs.RecoveredLemmas.{recovered_stands as lemma}
use Rattle.history_model.proofs.laws.recovered_stands.Goals as goal

pub returns : goal.returns
returns c = lemma
