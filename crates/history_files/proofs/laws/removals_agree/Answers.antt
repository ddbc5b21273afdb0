use Rattle.history_files.proofs.LawLemmas.{removals_agree as lemma}
use Rattle.history_files.proofs.laws.removals_agree.Goals as goal

pub returns : goal.returns
returns c = lemma
