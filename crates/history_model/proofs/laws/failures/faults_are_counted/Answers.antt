use Rattle.history_model.proofs.FailureLemmas.{faults_are_counted as lemma}
use Rattle.history_model.proofs.laws.failures.faults_are_counted.Goals as goal

pub returns : goal.returns
returns c = lemma
