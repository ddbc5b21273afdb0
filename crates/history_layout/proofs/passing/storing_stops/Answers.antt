use Rattle.history_layout.proofs.PassedStops.{storing_stops as lemma}
use Rattle.history_layout.proofs.passing.storing_stops.Goals as goal

pub returns : goal.returns
returns c = lemma
