use Rattle.history_files.proofs.LawLemmas.{folders_agree as lemma}
use Rattle.history_files.proofs.laws.folders_agree.Goals as goal

pub returns : goal.returns
returns c = lemma
