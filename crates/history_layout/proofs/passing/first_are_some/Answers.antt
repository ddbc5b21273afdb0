use Rattle.history_layout.proofs.PassedStops.{first_are_some as lemma}
use Rattle.history_layout.proofs.passing.first_are_some.Goals as goal

pub returns : goal.returns
returns c = lemma
