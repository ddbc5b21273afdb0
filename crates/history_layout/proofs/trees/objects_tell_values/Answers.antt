use Rattle.history_layout.proofs.TreeTexts.{objects_tell_values as lemma}
use Rattle.history_layout.proofs.trees.objects_tell_values.Goals as goal

pub returns : goal.returns
returns c = lemma
