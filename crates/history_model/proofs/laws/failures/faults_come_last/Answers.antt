use Rattle.history_model.proofs.FailureLemmas.{faults_come_last as lemma}
use Rattle.history_model.proofs.laws.failures.faults_come_last.Goals as goal

pub returns : goal.returns
returns c = lemma
