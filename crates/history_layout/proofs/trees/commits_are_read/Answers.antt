use Rattle.history_layout.proofs.TreeTexts.{commits_are_read as lemma}
use Rattle.history_layout.proofs.trees.commits_are_read.Goals as goal

pub returns : goal.returns
returns c = lemma
