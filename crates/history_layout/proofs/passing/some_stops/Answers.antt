use Rattle.history_layout.proofs.PassedStops.{some_stops as lemma}
use Rattle.history_layout.proofs.passing.some_stops.Goals as goal

pub returns : goal.returns
returns c = lemma
