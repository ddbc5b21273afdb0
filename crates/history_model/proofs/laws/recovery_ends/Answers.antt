use Rattle.history_model.proofs.RecoveryLemmas.{recovery_ends as lemma}
use Rattle.history_model.proofs.laws.recovery_ends.Goals as goal

pub returns : goal.returns
returns c = lemma
