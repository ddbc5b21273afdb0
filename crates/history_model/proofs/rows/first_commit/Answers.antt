use Rattle.history_model.proofs.StreamRowLemmas.{first_gives as lemma}
use Rattle.history_model.proofs.rows.first_commit.Goals as goal

pub returns : goal.returns
returns c = lemma
