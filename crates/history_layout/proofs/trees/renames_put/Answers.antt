use Rattle.history_layout.proofs.TreePuts.{renames_put as lemma}
use Rattle.history_layout.proofs.trees.renames_put.Goals as goal

pub returns : goal.returns
returns c = lemma
