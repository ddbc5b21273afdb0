use Rattle.history_edits.proofs.RecordLocks.{records_are_lockable as lemma}
use Rattle.history_edits.proofs.laws.records_are_lockable.Goals as goal

pub returns : goal.returns
returns c = lemma
