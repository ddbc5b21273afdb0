use Rattle.history_layout.proofs.PassedStops.{commits_store_whole as lemma}
use Rattle.history_layout.proofs.passing.commits_store_whole.Goals as goal

pub returns : goal.returns
returns c = lemma
