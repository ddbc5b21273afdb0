use Rattle.history_layout.proofs.EditsOfCommands.{commits_edit as lemma}
use Rattle.history_layout.proofs.passing.commits_edit.Goals as goal

pub returns : goal.returns
returns c = lemma
