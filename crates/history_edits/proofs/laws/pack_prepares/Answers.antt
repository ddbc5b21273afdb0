use Rattle.history_edits.proofs.PackMoments.{pack_prepares as lemma}
use Rattle.history_edits.proofs.laws.pack_prepares.Goals as goal

pub returns : goal.returns
returns c = lemma
