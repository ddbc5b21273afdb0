use Rattle.history_model.proofs.RecoveryLemmas.{recovery_keeps as lemma}
use Rattle.history_model.proofs.laws.recovery_keeps.Goals as goal

pub returns : goal.returns
returns c = lemma
