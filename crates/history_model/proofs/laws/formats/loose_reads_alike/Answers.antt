use Rattle.history_model.proofs.FormatLemmas.{loose_reads_alike as lemma}
use Rattle.history_model.proofs.laws.formats.loose_reads_alike.Goals as goal

pub returns : goal.returns
returns c = lemma
