use Rattle.history_files.proofs.LawLemmas.{trees_unfold as lemma}
use Rattle.history_files.proofs.laws.trees_unfold.Goals as goal

pub returns : goal.returns
returns c = lemma
