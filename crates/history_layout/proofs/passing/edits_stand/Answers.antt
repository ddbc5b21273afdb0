use Rattle.history_layout.proofs.EditsStood.{edits_stand as lemma}
use Rattle.history_layout.proofs.passing.edits_stand.Goals as goal

pub returns : goal.returns
returns c = lemma
