use Rattle.history_layout.proofs.EditsPassed.{edits_pass as lemma}
use Rattle.history_layout.proofs.passing.edits_pass.Goals as goal

pub returns : goal.returns
returns c = lemma
