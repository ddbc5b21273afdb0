use Rattle.history_model.proofs.FormatLemmas.{records_alike as lemma}
use Rattle.history_model.proofs.laws.formats.records_alike.Goals as goal

pub returns : goal.returns
returns c = lemma
