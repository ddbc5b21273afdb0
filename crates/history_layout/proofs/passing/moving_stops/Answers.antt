use Rattle.history_layout.proofs.PassedNames.{moving_stops as lemma}
use Rattle.history_layout.proofs.passing.moving_stops.Goals as goal

pub returns : goal.returns
returns c = lemma
