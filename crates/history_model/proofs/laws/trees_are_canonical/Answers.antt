use Rattle.history_model.proofs.StepLemmas.{trees_are_canonical as lemma}
use Rattle.history_model.proofs.laws.trees_are_canonical.Goals as goal

pub returns : goal.returns
returns c = lemma
