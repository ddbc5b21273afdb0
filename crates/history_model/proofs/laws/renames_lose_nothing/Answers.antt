use Rattle.history_model.proofs.StepLemmas.{renames_lose_nothing as lemma}
use Rattle.history_model.proofs.laws.renames_lose_nothing.Goals as goal

pub returns : goal.returns
returns c = lemma
