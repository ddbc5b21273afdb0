use Rattle.history_edits.proofs.HeadCommitted.{head_commits as lemma}
use Rattle.history_edits.proofs.laws.head_commits.Goals as goal

pub returns : goal.returns
returns c = lemma
