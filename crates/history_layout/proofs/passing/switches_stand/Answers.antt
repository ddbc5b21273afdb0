use Rattle.history_layout.proofs.HeadSwitched.{switches_stand as lemma}
use Rattle.history_layout.proofs.passing.switches_stand.Goals as goal

pub returns : goal.returns
returns c = lemma
