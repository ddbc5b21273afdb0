use Rattle.history_edits.proofs.PlansMade.{edits_say as lemma}
use Rattle.history_edits.proofs.laws.edits_say.Goals as goal

pub returns : goal.returns
returns c = lemma
