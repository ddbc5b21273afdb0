use Rattle.history_model.proofs.FailureLemmas.{traces_weaken}
use Rattle.history_model.proofs.laws.traces_weaken.Goals as goal

pub returns : goal.returns
returns g c = traces_weaken g.F.Files.reading_may_fail
