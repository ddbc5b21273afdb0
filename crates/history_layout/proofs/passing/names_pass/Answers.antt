use Rattle.history_layout.proofs.PassedStates.{names_pass as lemma}
use Rattle.history_layout.proofs.passing.names_pass.Goals as goal

pub returns : goal.returns
returns c = lemma
