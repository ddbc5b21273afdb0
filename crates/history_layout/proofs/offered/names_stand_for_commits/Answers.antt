use Rattle.history_layout.proofs.OfferedReads.{names_stand_for_commits as lemma}
use Rattle.history_layout.proofs.offered.names_stand_for_commits.Goals as goal

pub returns : goal.returns
returns c = lemma
