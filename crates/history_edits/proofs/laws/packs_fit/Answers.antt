use Rattle.history_edits.proofs.PackPlanned.{packs_fit as lemma}
use Rattle.history_edits.proofs.laws.packs_fit.Goals as goal

pub returns : goal.returns
returns c = lemma
