use Rattle.history_model.proofs.StateLemmas.{packs_change_nothing as lemma}
use Rattle.history_model.proofs.laws.packs_change_nothing.Goals as goal

pub returns : goal.returns
returns c = lemma
