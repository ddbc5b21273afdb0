use Rattle.history_layout.proofs.TreePuts.{standing_is_stored as lemma}
use Rattle.history_layout.proofs.trees.standing_is_stored.Goals as goal

pub returns : goal.returns
returns c = lemma
