use Rattle.history_layout.proofs.OfferedReads.{parents_are_commits as lemma}
use Rattle.history_layout.proofs.offered.parents_are_commits.Goals as goal

pub returns : goal.returns
returns c = lemma
