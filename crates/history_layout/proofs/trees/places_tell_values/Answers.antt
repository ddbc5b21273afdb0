use Rattle.history_layout.proofs.TreePuts.{places_tell_values as lemma}
use Rattle.history_layout.proofs.trees.places_tell_values.Goals as goal

pub returns : goal.returns
returns c = lemma
