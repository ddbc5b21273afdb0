use Rattle.history_layout.proofs.TreeTexts.{folders_are_read as lemma}
use Rattle.history_layout.proofs.trees.folders_are_read.Goals as goal

pub returns : goal.returns
returns c = lemma
