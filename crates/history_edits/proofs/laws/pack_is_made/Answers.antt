use Rattle.history_edits.proofs.PackMoments.{pack_is_made as lemma}
use Rattle.history_edits.proofs.laws.pack_is_made.Goals as goal

pub returns : goal.returns
returns c = lemma
