use Rattle.history_layout.proofs.EditsOfCommands.{deletes_edit as lemma}
use Rattle.history_layout.proofs.passing.deletes_edit.Goals as goal

pub returns : goal.returns
returns c = lemma
