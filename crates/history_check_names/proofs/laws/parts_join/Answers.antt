use Rattle.history_check_names.proofs.Joining.{parts_join as lemma}
use Rattle.history_check_names.proofs.laws.parts_join.Goals as goal

pub returns : goal.returns
returns c = lemma
