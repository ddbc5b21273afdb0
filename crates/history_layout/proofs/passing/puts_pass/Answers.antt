use Rattle.history_layout.proofs.PassedObjects.{puts_pass as lemma}
use Rattle.history_layout.proofs.passing.puts_pass.Goals as goal

pub returns : goal.returns
returns c = lemma
