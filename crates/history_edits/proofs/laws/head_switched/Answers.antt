use Rattle.history_edits.proofs.HeadCommitted.{head_switched as lemma}
use Rattle.history_edits.proofs.laws.head_switched.Goals as goal

pub returns : goal.returns
returns c = lemma
