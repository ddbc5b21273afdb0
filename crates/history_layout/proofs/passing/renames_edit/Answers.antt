use Rattle.history_layout.proofs.EditsOfCommands.{renames_edit as lemma}
use Rattle.history_layout.proofs.passing.renames_edit.Goals as goal

pub returns : goal.returns
returns c = lemma
