use Rattle.history_layout.proofs.HeadSwitched.{switches_pass as lemma}
use Rattle.history_layout.proofs.passing.switches_pass.Goals as goal

pub returns : goal.returns
returns c = lemma
