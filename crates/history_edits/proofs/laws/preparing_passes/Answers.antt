use Rattle.history_edits.proofs.EditChanges.{preparing_passes as lemma}
use Rattle.history_edits.proofs.laws.preparing_passes.Goals as goal

pub returns : goal.returns
returns c = lemma
