use Rattle.history_layout.proofs.TreePuts.{none_unfinished as lemma}
use Rattle.history_layout.proofs.trees.none_unfinished.Goals as goal

pub returns : goal.returns
returns c = lemma
