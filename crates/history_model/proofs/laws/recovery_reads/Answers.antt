use Rattle.history_model.proofs.RecoveryLemmas.{recovery_reads as lemma}
use Rattle.history_model.proofs.laws.recovery_reads.Goals as goal

pub returns : goal.returns
returns c = lemma
