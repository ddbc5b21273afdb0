use Rattle.history_model.proofs.FailureLemmas.{unfailed_count_none as lemma}
use Rattle.history_model.proofs.laws.failures.unfailed_count_none.Goals as goal

pub returns : goal.returns
returns c = lemma
