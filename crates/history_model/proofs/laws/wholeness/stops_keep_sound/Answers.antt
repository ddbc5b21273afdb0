use Rattle.history_model.proofs.WholeSteps.{stops_keep_sound as lemma}
use Rattle.history_model.proofs.laws.wholeness.stops_keep_sound.Goals as goal

pub returns : goal.returns
returns c = lemma
