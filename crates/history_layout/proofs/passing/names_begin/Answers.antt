use Rattle.history_layout.proofs.PassedStates.{names_begin as lemma}
use Rattle.history_layout.proofs.passing.names_begin.Goals as goal

pub returns : goal.returns
returns c = lemma
