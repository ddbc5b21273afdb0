use Rattle.history_layout.proofs.TreePuts.{trees_tell_taken as lemma}
use Rattle.history_layout.proofs.trees.trees_tell_taken.Goals as goal

pub returns : goal.returns
returns c = lemma
