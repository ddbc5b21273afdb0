use Rattle.history_layout.proofs.EditsOfCommands.{moves_edit as lemma}
use Rattle.history_layout.proofs.passing.moves_edit.Goals as goal

pub returns : goal.returns
returns c = lemma
