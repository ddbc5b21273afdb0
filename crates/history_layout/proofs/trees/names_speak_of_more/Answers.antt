use Rattle.history_layout.proofs.PassedStops.{names_speak_of_more as lemma}
use Rattle.history_layout.proofs.trees.names_speak_of_more.Goals as goal

pub returns : goal.returns
returns c = lemma
