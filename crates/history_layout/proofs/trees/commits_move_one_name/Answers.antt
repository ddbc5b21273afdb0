use Rattle.history_layout.proofs.OneNameStands.{commits_move_one_name as lemma}
use Rattle.history_layout.proofs.trees.commits_move_one_name.Goals as goal

pub returns : goal.returns
returns c = lemma
