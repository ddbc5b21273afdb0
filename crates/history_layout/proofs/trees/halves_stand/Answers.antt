use Rattle.history_layout.proofs.TreePuts.{halves_stand as lemma}
use Rattle.history_layout.proofs.trees.halves_stand.Goals as goal

pub returns : goal.returns
returns c = lemma
