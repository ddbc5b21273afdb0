use Rattle.history_model.proofs.FormatLemmas.{candidates_alike as lemma}
use Rattle.history_model.proofs.laws.formats.candidates_alike.Goals as goal

pub returns : goal.returns
returns c = lemma
