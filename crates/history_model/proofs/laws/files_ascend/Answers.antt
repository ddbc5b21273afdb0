use Rattle.history_model.proofs.StateLemmas.{files_ascend as lemma}
use Rattle.history_model.proofs.laws.files_ascend.Goals as goal

pub returns : goal.returns
returns c = lemma
