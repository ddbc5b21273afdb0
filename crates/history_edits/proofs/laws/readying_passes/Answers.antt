use Rattle.history_edits.proofs.CommitMoments.{readying_passes as lemma}
use Rattle.history_edits.proofs.laws.readying_passes.Goals as goal

pub returns : goal.returns
returns c = lemma
