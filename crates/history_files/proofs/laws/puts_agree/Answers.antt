use Rattle.history_files.proofs.LawLemmas.{puts_agree as lemma}
use Rattle.history_files.proofs.laws.puts_agree.Goals as goal

pub returns : goal.returns
returns c = lemma
