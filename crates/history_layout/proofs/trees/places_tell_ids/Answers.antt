use Rattle.history_model.proofs.PlaceLemmas.{places_tell_ids as lemma}
use Rattle.history_layout.proofs.trees.places_tell_ids.Goals as goal

pub returns : goal.returns
returns c = lemma
