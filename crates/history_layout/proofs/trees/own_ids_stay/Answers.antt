use Rattle.history_layout.proofs.TreePuts.{own_ids_stay as lemma}
use Rattle.history_layout.proofs.trees.own_ids_stay.Goals as goal

pub returns : goal.returns
returns c = lemma
