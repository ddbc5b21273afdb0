use Rattle.history_edits.proofs.PathsApart.{paths_once as lemma}
use Rattle.history_edits.proofs.laws.paths_once.Goals as goal

pub returns : goal.returns
returns c = lemma
