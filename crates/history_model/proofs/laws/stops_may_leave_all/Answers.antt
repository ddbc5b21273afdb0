use Rattle.history_model.proofs.StepLemmas.{stops_may_leave_all as lemma}
use Rattle.history_model.proofs.laws.stops_may_leave_all.Goals as goal

pub returns : goal.returns
returns c = lemma
