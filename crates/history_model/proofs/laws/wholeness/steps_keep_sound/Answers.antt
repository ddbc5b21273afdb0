use Rattle.history_model.proofs.WholeSteps.{steps_keep_sound as lemma}
use Rattle.history_model.proofs.laws.wholeness.steps_keep_sound.Goals as goal

pub returns : goal.returns
returns c = lemma
