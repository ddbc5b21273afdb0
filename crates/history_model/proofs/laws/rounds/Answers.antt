use Rattle.history_model.proofs.RoundLemmas.{rounds_join as lemma}
use Rattle.history_model.proofs.laws.rounds.Goals as goal

pub returns : goal.returns
returns c = lemma
