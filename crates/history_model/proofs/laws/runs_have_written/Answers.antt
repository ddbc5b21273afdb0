use Rattle.history_model.proofs.RoundLemmas.{runs_have_written as lemma}
use Rattle.history_model.proofs.laws.runs_have_written.Goals as goal

pub returns : goal.returns
returns c = lemma
