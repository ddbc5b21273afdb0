use Rattle.history_edits.proofs.EditsReady.{edits_ready as lemma}
use Rattle.history_edits.proofs.laws.edits_ready.Goals as goal

pub returns : goal.returns
returns c = lemma
