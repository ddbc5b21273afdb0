use Rattle.history_edits.proofs.PeelsWhole.{peels_whole as lemma}
use Rattle.history_edits.proofs.laws.peels_whole.Goals as goal

pub returns : goal.returns
returns c = lemma
