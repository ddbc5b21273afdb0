use Rattle.history_model.proofs.AlikeLemmas.{edits_cut_any_way as lemma}
use Rattle.history_model.proofs.laws.alike.edits_cut_any_way.Goals as goal

pub returns : goal.returns
returns c = lemma
