use Rattle.history_model.proofs.StepLemmas.{steps_are_determined as lemma}
use Rattle.history_model.proofs.laws.steps_are_determined.Goals as goal

pub returns : goal.returns
returns c = lemma
