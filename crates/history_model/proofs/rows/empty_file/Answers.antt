use Rattle.history_model.proofs.StreamRowLemmas.{empty_file_gives as lemma}
use Rattle.history_model.proofs.rows.empty_file.Goals as goal

pub returns : goal.returns
returns c = lemma
