use Rattle.history_edits.proofs.EditChanges.{committing_makes as lemma}
use Rattle.history_edits.proofs.laws.committing_makes.Goals as goal

pub returns : goal.returns
returns c = lemma
