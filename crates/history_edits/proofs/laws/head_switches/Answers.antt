use Rattle.history_edits.proofs.HeadCommitted.{head_switches as lemma}
use Rattle.history_edits.proofs.laws.head_switches.Goals as goal

pub returns : goal.returns
returns c = lemma
