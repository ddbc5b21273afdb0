use Rattle.history_layout.proofs.PassedMoments.{acts_later as lemma}
use Rattle.history_layout.proofs.passing.acts_later.Goals as goal

pub returns : goal.returns
returns c = lemma (Unit {0})
