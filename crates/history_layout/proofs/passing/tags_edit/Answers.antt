use Rattle.history_layout.proofs.EditsOfCommands.{tags_edit as lemma}
use Rattle.history_layout.proofs.passing.tags_edit.Goals as goal

pub returns : goal.returns
returns c = lemma
