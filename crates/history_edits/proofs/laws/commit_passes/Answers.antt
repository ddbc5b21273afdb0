use Rattle.history_edits.proofs.CommitMoments.{commit_passes as lemma}
use Rattle.history_edits.proofs.laws.commit_passes.Goals as goal

pub returns : goal.returns
returns c = lemma
