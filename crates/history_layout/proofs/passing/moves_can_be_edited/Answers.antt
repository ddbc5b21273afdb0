use Rattle.history_layout.proofs.EditsAllowed.{moves_can_be_edited as lemma}
use Rattle.history_layout.proofs.passing.moves_can_be_edited.Goals as goal

pub returns : goal.returns
returns c = lemma
