use Rattle.history_layout.proofs.EditsAllowed.{renames_can_be_edited as lemma}
use Rattle.history_layout.proofs.passing.renames_can_be_edited.Goals as goal

pub returns : goal.returns
returns c = lemma
