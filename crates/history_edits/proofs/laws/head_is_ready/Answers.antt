use Rattle.history_edits.proofs.HeadPlanned.{head_is_ready as lemma}
use Rattle.history_edits.proofs.laws.head_is_ready.Goals as goal

pub returns : goal.returns
returns c = lemma
