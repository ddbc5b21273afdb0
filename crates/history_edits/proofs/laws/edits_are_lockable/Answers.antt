use Rattle.history_edits.proofs.EditLocks.{edits_are_lockable as lemma}
use Rattle.history_edits.proofs.laws.edits_are_lockable.Goals as goal

pub returns : goal.returns
returns c = lemma
