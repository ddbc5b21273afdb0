use Rattle.history_model.proofs.PlaceLemmas.{values_have_ids as lemma}
use Rattle.history_layout.proofs.trees.values_have_ids.Goals as goal

pub returns : goal.returns
returns c = lemma
