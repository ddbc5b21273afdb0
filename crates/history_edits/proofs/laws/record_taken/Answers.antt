use Rattle.history_edits.proofs.RecordTaken.{record_taken as lemma}
use Rattle.history_edits.proofs.laws.record_taken.Goals as goal

pub returns : goal.returns
returns c = lemma
