use Rattle.history_model.proofs.StreamRowLemmas.{hello_gives as lemma}
use Rattle.history_model.proofs.rows.hello_file.Goals as goal

pub returns : goal.returns
returns c = lemma
