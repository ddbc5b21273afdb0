use Rattle.history_layout.proofs.TreePuts.{stored_stands as lemma}
use Rattle.history_layout.proofs.trees.stored_stands.Goals as goal

pub returns : goal.returns
returns c = lemma
