use Rattle.history_edits.proofs.EditChanges.{committing_passes as lemma}
use Rattle.history_edits.proofs.laws.committing_passes.Goals as goal

pub returns : goal.returns
returns c = lemma
