use Rattle.history_files.proofs.LawLemmas.{unfoldings_tell_roots as lemma}
use Rattle.history_files.proofs.laws.unfoldings_tell_roots.Goals as goal

pub returns : goal.returns
returns c = lemma
