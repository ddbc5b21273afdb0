use Rattle.history_files.proofs.LawLemmas.{whole_stores_have_trees as lemma}
use Rattle.history_files.proofs.laws.whole_stores_have_trees.Goals as goal

pub returns : goal.returns
returns c = lemma
