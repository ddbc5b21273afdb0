use Rattle.history_model.proofs.RunsAgree.{runs_agree as lemma}
use Rattle.history_model.proofs.laws.runs_agree.Goals as goal

pub returns : goal.returns
returns c = lemma
