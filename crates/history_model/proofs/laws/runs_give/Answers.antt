use Rattle.history_model.proofs.RunsAgree.{runs_give as lemma}
use Rattle.history_model.proofs.laws.runs_give.Goals as goal

pub returns : goal.returns
returns c = lemma
