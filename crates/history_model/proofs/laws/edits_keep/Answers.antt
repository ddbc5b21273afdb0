use Rattle.history_model.proofs.EditLemmas.{edits_keep as lemma}
use Rattle.history_model.proofs.laws.edits_keep.Goals as goal

pub returns : goal.returns
returns c = lemma
