use Rattle.history_edits.proofs.CommitMoments.{commit_makes as lemma}
use Rattle.history_edits.proofs.laws.commit_makes.Goals as goal

pub returns : goal.returns
returns c = lemma
