use Rattle.history_edits.proofs.PackPlanned.{pack_is_ready as lemma}
use Rattle.history_edits.proofs.laws.pack_is_ready.Goals as goal

pub returns : goal.returns
returns c = lemma
