use Rattle.history_layout.proofs.PassedMoments.{acts_then as lemma}
use Rattle.history_layout.proofs.passing.acts_then.Goals as goal

pub returns : goal.returns
returns c = lemma (Unit {0})
