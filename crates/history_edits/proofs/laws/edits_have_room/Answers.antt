use Rattle.history_edits.proofs.EditLocks.{edits_have_room as lemma}
use Rattle.history_edits.proofs.laws.edits_have_room.Goals as goal

pub returns : goal.returns
returns c = lemma
