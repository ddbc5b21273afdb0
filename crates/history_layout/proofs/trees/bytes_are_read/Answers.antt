use Rattle.history_layout.proofs.TreeTexts.{bytes_are_read as lemma}
use Rattle.history_layout.proofs.trees.bytes_are_read.Goals as goal

pub returns : goal.returns
returns c = lemma
