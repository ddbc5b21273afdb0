use Rattle.history_files.proofs.LawLemmas.{grafts_agree as lemma}
use Rattle.history_files.proofs.laws.grafts_agree.Goals as goal

pub returns : goal.returns
returns c = lemma
