use Rattle.history_edits.proofs.Unsplit.{unsplit_stay as lemma}
use Rattle.history_edits.proofs.laws.unsplit_stay.Goals as goal

pub returns : goal.returns
returns c = lemma
