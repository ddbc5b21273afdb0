use Rattle.history_model.proofs.ClosedLemmas.{stops_are_closed as lemma}
use Rattle.history_model.proofs.laws.stops_are_closed.Goals as goal

pub returns : goal.returns
returns c = lemma
