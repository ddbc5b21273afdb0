use Rattle.history_model.proofs.WholeSteps.{sequences_keep_sound as lemma}
use Rattle.history_model.proofs.laws.wholeness.sequences_keep_sound.Goals as goal

pub returns : goal.returns
returns c = lemma
