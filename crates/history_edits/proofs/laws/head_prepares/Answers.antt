use Rattle.history_edits.proofs.HeadCommitted.{head_prepares as lemma}
use Rattle.history_edits.proofs.laws.head_prepares.Goals as goal

pub returns : goal.returns
returns c = lemma
