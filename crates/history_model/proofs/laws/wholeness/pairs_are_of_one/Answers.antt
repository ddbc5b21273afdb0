use Rattle.history_model.proofs.OnePair.{one_pair as lemma}
use Rattle.history_model.proofs.laws.wholeness.pairs_are_of_one.Goals as goal

pub returns : goal.returns
returns c = lemma
